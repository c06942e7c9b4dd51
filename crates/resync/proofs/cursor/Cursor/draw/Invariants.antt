use Rattle.std.proofs.Common.{◌≡◌, ◌+◌, ◌++◌, take, drop}
use Rattle.std.specs.List.{AllByRecursion}
use Rattle.arrayvec.specs.ArrayVec.{array_vec_len}
use Rattle.link.specs.Grammar.{IsWellFormedRecord}
use Rattle.resync.specs.Cursor.{coming}
use Rattle.resync.proofs.cursor.Cursor.draw.Given as goal

-- the records of the rounds so far are drawn
abbrev pub invariant-loop : goal.invariant-loop
invariant-loop l = record {
  len : array_vec_len l.out ≡ array_vec_len l.fn.out + l.counter;
  drawn : l.out.items ≡ l.fn.out.items ++ take l.counter (coming l.fn.self l.table);
  left : coming l.self l.table ≡ drop l.counter (coming l.fn.self l.table);
  formed : AllByRecursion IsWellFormedRecord l.fn.out.items → AllByRecursion IsWellFormedRecord l.out.items;
}
