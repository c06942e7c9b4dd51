use Rattle.std.proofs.Common.{length}
use Rattle.fragments.proofs.Filling.{Filled}
use Rattle.fragments.proofs.wholes.put_all.Given as goal

abbrev pub invariant-loop-fragment : goal.invariant-loop-fragment
invariant-loop-fragment l = Filled l.fn.payload l.fragments l.left l.payload

abbrev pub decreases-loop-fragment : goal.decreases-loop-fragment
decreases-loop-fragment l = length l.left
