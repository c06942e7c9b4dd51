use Rattle.std.proofs.Common.{◌≡◌, take}
use Rattle.boot_store.specs.Cells.{read_once}
use Rattle.boot_store.proofs.cells.show_cells.Given as goal

-- the cells so far are as after the read
abbrev pub invariant-loop-i : goal.invariant-loop-i
invariant-loop-i l = l.cells ≡ read_once (take l.i l.any) l.fn.cells
