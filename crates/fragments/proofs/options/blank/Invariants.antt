use Rattle.std.proofs.Common.{length, ◌-◌}
use Rattle.fragments.proofs.Later.{IsBlanking}
use Rattle.fragments.proofs.options.blank.Given as goal

abbrev pub invariant-loop-at : goal.invariant-loop-at
invariant-loop-at l = IsBlanking l.fn.options l.options l.at

abbrev pub decreases-loop-at : goal.decreases-loop-at
decreases-loop-at l = length l.initial.options - l.at
