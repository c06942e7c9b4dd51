use Rattle.std.proofs.Common.{◌≡◌, length}
use Rattle.bindings.specs.Dues.{AreTimedBut}
use Rattle.bindings.specs.Stores.{entries_of}
use Rattle.bindings.proofs.Timed.{keys_of}
use Rattle.bindings.proofs.Walks.{behind}
use Rattle.bindings.proofs.store.set_all.Given as goal

-- all keys but those that are left are looked at in time
abbrev pub invariant-loop-key : goal.invariant-loop-key
invariant-loop-key l = record {
  timed : AreTimedBut l.watch (keys_of (behind l.last (entries_of l.slots.rows))) l.dues.moments l.slots.rows;
  count : length l.dues.moments ≡ length l.fn.dues.moments;
}

abbrev pub decreases-loop-key : goal.decreases-loop-key
decreases-loop-key l = length (behind l.last (entries_of l.slots.rows))
