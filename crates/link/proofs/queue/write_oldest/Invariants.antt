use Rattle.std.proofs.Common.{◌≡◌, ◌+◌, ◌*◌, ◌≤◌, ◌++◌, take, vec_len, vec_capacity}
use Rattle.std.specs.List.{flat_map}
use Rattle.link.specs.Grammar.{record_bytes}
use Rattle.link.proofs.queue.write_oldest.Given as goal

abbrev pub invariant-loop-i : goal.invariant-loop-i
invariant-loop-i l = record {
  so_far : l.out.items ≡ l.fn.out.items ++ flat_map record_bytes (take l.i (l.fed.items ++ l.queue.items));
  room : vec_len l.out ≤ vec_len l.fn.out + 34 * l.i;
  capacity : vec_capacity l.fn.out ≤ vec_capacity l.out;
}
