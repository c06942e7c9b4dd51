use Rattle.std.proofs.Common.{vec_len}
use Rattle.fragments.proofs.spares.Spares.keep.Given as goal

abbrev pub invariant-loop-fragment : goal.invariant-loop-fragment
invariant-loop-fragment l = Unit {0}

abbrev pub decreases-loop-fragment : goal.decreases-loop-fragment
decreases-loop-fragment l = vec_len l.left
