use Rattle.std.proofs.Common.{◌≡◌, take}
use Rattle.boot_store.specs.Moment.{written}
use Rattle.boot_store.proofs.cells.write_cells.Given as goal

-- the bytes so far are written
abbrev pub invariant-loop-i : goal.invariant-loop-i
invariant-loop-i l = l.cells ≡ written l.at (take l.i l.bytes) l.fn.cells
