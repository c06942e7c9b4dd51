use Rattle.std.proofs.Common.{ap, ◌∙◌}
use Rattle.timers.specs.Chains.{moments}
use Rattle.timers.proofs.CallerLemmas.{unset_moments}
use Rattle.timers.proofs.Timers.with_capacity.Goals as goal

pub returns-clause-unset : goal.returns-clause-unset
returns-clause-unset c = ap moments c.in_ok-links.ensures.unset ∙ unset_moments c.args.count
