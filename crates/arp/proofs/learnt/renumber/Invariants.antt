use Rattle.std.proofs.Common.{◌≡◌}
use Rattle.arp.specs.Log.{spot_addresses}
use Rattle.arp.proofs.learnt.renumber.Given as goal

abbrev pub invariant-loop-place : goal.invariant-loop-place
invariant-loop-place l = spot_addresses l.index ≡ spot_addresses l.fn.index
