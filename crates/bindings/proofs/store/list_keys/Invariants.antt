use Rattle.std.proofs.Common.{◌≡◌, ◌+◌, ◌≤◌, Some, length, vec_len, vec_capacity}
use Rattle.nat_types.specs.declared.pairs.Key.{Key}
use Rattle.slots.specs.declared.numbers.SlotNumber.{SlotNumber}
use Rattle.slots.specs.Rows.{number_of}
use Rattle.slots.specs.Dues.{times}
use Rattle.bindings.specs.Dues.{key_times}
use Rattle.bindings.proofs.store.list_keys.Given as goal

-- the list has the keys of the slots so far, and those of the slots that are left come after them
abbrev pub invariant-loop-number : goal.invariant-loop-number
invariant-loop-number l = record {
  listed : (key : Key) (n : SlotNumber) → number_of l.slots.rows key ≡ Some n → key_times key l.keys.items + times n.0 l.dues.found ≡ times n.0 l.fn.dues.found;
  room : vec_len l.keys + length l.dues.found ≤ vec_capacity l.keys;
  capacity : vec_capacity l.keys ≡ vec_capacity l.fn.keys;
  moments : l.dues.moments ≡ l.fn.dues.moments;
}

abbrev pub decreases-loop-number : goal.decreases-loop-number
decreases-loop-number l = length l.dues.found
