use Rattle.std.proofs.Common.{◌<◌, length, add-one, arith}
use Rattle.boot_store.specs.declared.disk.Hold.TheVariants.{Kept}
use Rattle.boot_store.specs.Cells.{crashed_cell}
use Rattle.boot_store.proofs.Loops.{each_more}
use Rattle.boot_store.proofs.cells.crash_cells.Goals as goal

pub loop-i-preserved : goal.loop-i-preserved
loop-i-preserved c =
    let within : c.loop-i.i < length c.args.cells.now = omega arith in
    let there : c.loop-i.i < length c.args.any.now = omega arith in
    let more = each_more crashed_cell c.args.any.now c.args.cells.now c.loop-i.i 0 (record { byte = 0; hold = Kept }) within there in
    rw (c.crashed_cell.ensures, add-one, c.loop-i.invariant) more
