use Rattle.std.proofs.Common.{◌≡◌, take}
use Rattle.boot_store.specs.Cells.{crashed}
use Rattle.boot_store.proofs.cells.crash_cells.Given as goal

-- the cells so far are as after the crash
abbrev pub invariant-loop-i : goal.invariant-loop-i
invariant-loop-i l = l.cells ≡ crashed (take l.i l.any) l.fn.cells
