use Rattle.std.proofs.Common.{◌≡◌, ◌≤◌, ◌-◌, true, take, length}
use Rattle.arp.specs.Log.{kept}
use Rattle.arp.specs.Neighbours.{all_sent}
use Rattle.arp.proofs.learnt.first_unsent.Given as goal

-- a packet was sent by each entry so far
abbrev pub invariant-loop-place : goal.invariant-loop-place
invariant-loop-place l = record {
  within : l.place ≤ length l.log;
  before : all_sent (kept (take l.place l.log)) ≡ true;
}

abbrev pub decreases-loop-place : goal.decreases-loop-place
decreases-loop-place l = length l.log - l.place
