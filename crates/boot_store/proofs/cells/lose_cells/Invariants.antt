use Rattle.std.proofs.Common.{◌≡◌, ◌++◌, take, drop}
use Rattle.boot_store.specs.Cells.{lost}
use Rattle.boot_store.proofs.cells.lose_cells.Given as goal

-- the cells so far are as after the failed sync, the others as before
abbrev pub invariant-loop-cell : goal.invariant-loop-cell
invariant-loop-cell l = l.cells ≡ lost (take l.cell-index l.fn.cells) ++ drop l.cell-index l.fn.cells
