use Rattle.std.proofs.Common.{◌≡◌, drop, length}
use Rattle.bindings.specs.Dues.{AreTimedBut}
use Rattle.bindings.proofs.store.set_again.Given as goal

-- the keys so far are looked at in time
abbrev pub invariant-loop-key : goal.invariant-loop-key
invariant-loop-key l = record {
  timed : AreTimedBut l.watch (drop l.key-index l.keys) l.dues.moments l.slots.rows;
  count : length l.dues.moments ≡ length l.fn.dues.moments;
}
