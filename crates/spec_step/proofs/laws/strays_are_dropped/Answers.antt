use Rattle.spec_step.proofs.Feeding.{stray-drops, stray-outcome}
use Rattle.spec_step.proofs.laws.strays_are_dropped.Goals as goal

pub returns-clause-step : goal.returns-clause-step
returns-clause-step c = stray-drops

pub returns-clause-outcome : goal.returns-clause-outcome
returns-clause-outcome c = stray-outcome
