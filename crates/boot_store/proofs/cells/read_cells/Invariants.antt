use Rattle.std.proofs.Common.{◌≡◌, ◌++◌, take, drop}
use Rattle.boot_store.specs.Moment.{bytes_of}
use Rattle.boot_store.proofs.cells.read_cells.Given as goal

-- the bytes so far are read, the others as before
abbrev pub invariant-loop-i : goal.invariant-loop-i
invariant-loop-i l = l.room ≡ bytes_of (take l.i l.cells) ++ drop l.i l.fn.room
