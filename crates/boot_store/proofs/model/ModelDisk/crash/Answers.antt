use Rattle.std.proofs.Common.{◌≡◌, ◌∙◌, length, ap, arith}
use Rattle.boot_store.specs.Moment.{bytes_of}
use Rattle.boot_store.proofs.Crashes.{crashed_may, crashed_picked, crashed_kept}
use Rattle.boot_store.proofs.model.ModelDisk.crash.Goals as goal

pub returns-clause-may : goal.returns-clause-may
returns-clause-may c =
    let same : length c.args.self.now.cells ≡ length c.args.any.now = omega (arith, c.told-any) in
    rw c.crash_cells.ensures (crashed_may c.args.any.now c.args.self.now.cells same)

pub returns-clause-picked : goal.returns-clause-picked
returns-clause-picked c may = ap bytes_of c.crash_cells.ensures ∙ crashed_picked c.args.any.now c.args.self.now.cells may

pub returns-clause-kept : goal.returns-clause-kept
returns-clause-kept c =
    let same : length c.args.self.now.cells ≡ length c.args.any.now = omega (arith, c.told-any) in
    rw c.crash_cells.ensures (crashed_kept c.args.any.now c.args.self.now.cells same)
