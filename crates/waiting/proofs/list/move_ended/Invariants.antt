use Rattle.std.proofs.Common.{◌≡◌, ◌≤◌, ◌+◌, ◌-◌, vec_len, vec_capacity}
use Rattle.waiting.proofs.Moving.{IsMoving}
use Rattle.waiting.proofs.list.move_ended.Given as goal

abbrev pub invariant-loop-at : goal.invariant-loop-at
invariant-loop-at l = record {
  moving : IsMoving l.ended l.fn.packets.items l.fn.list.items l.packets.items l.list.items l.at;
  room : vec_len l.list + (vec_len l.packets - l.at) ≤ vec_capacity l.list;
  within : l.at ≤ vec_len l.packets;
  capacity : vec_capacity l.packets ≡ vec_capacity l.fn.packets;
  list_capacity : vec_capacity l.list ≡ vec_capacity l.fn.list;
}

abbrev pub decreases-loop-at : goal.decreases-loop-at
decreases-loop-at l = vec_len l.packets - l.at
