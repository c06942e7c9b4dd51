use Rattle.std.proofs.Common.{◌<◌, length, add-one, arith}
use Rattle.boot_store.specs.declared.disk.Hold.TheVariants.{Kept}
use Rattle.boot_store.specs.Cells.{lost_cell}
use Rattle.boot_store.proofs.Loops.{map_more}
use Rattle.boot_store.proofs.cells.lose_cells.Goals as goal

pub loop-cell-preserved : goal.loop-cell-preserved
loop-cell-preserved c =
    let within : c.loop-cell.cell-index < length c.args.cells.now = omega arith in
    let more = map_more lost_cell c.args.cells.now c.loop-cell.cell-index (record { byte = 0; hold = Kept }) within in
    rw (c.lost_cell.ensures, add-one, c.loop-cell.invariant) more
