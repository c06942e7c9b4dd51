use Rattle.std.proofs.Common.{◌≡◌, ◌++◌, take, drop}
use Rattle.boot_store.specs.Moment.{synced}
use Rattle.boot_store.proofs.cells.sync_cells.Given as goal

-- the cells so far are synced, the others as before
abbrev pub invariant-loop-cell : goal.invariant-loop-cell
invariant-loop-cell l = l.cells ≡ synced (take l.cell-index l.fn.cells) ++ drop l.cell-index l.fn.cells
