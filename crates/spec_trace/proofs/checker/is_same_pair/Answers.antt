use Rattle.spec_trace.proofs.Lists.{pair_iff}
use Rattle.spec_trace.proofs.checker.is_same_pair.Goals as goal

pub returns : goal.returns
returns c = pair_iff _ _ _ c.are_equal.ensures
