use Rattle.std.proofs.Common.{◌≡◌, ◌≢◌, length, arith, rules}
use Rattle.boot_store.specs.declared.model.Fate.TheVariants.{Done}
use Rattle.boot_store.proofs.Torn.{undone_failed}
use Rattle.boot_store.proofs.model.ModelDiskDisk.write_at.Goals as goal

pub returns-in-Torn-clause-torn : goal.returns-in-Torn-clause-torn
returns-in-Torn-clause-torn c h =
    let long : length c.args.self.now.any ≡ 32 = search rules in
    let undone : c.write.result ≢ Done = search rules in
    rw c.failed.ensures.cells (undone_failed c.write.result c.args.at c.args.bytes.now c.args.self.now.any c.args.self.now.cells _ undone (omega (arith, long, c.requires.within)) c.write.ensures.cells)
