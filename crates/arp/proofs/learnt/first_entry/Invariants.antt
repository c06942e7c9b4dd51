use Rattle.std.proofs.Common.{◌≡◌, ◌≤◌, ◌-◌, [], take, length}
use Rattle.arp.specs.Log.{kept}
use Rattle.arp.proofs.learnt.first_entry.Given as goal

-- all places so far are empty
abbrev pub invariant-loop-place : goal.invariant-loop-place
invariant-loop-place l = record {
  within : l.place ≤ length l.log;
  front : kept (take l.place l.log) ≡ [];
}

abbrev pub decreases-loop-place : goal.decreases-loop-place
decreases-loop-place l = length l.log - l.place
