use Rattle.std.proofs.Common.{◌∙◌, ap, arith}
use Rattle.boot_store.specs.Moment.{synced}
use Rattle.boot_store.proofs.Loops.{synced_whole}
use Rattle.boot_store.proofs.model.ModelDisk.new.Goals as goal

pub returns-clause-now : goal.returns-clause-now
returns-clause-now c = c.sync_cells.ensures ∙ ap synced c.write_cells.ensures ∙ synced_whole c.args.file.now _ (omega (arith, c.told-file))
