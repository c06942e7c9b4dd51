use Rattle.spec_gateway.proofs.Switching.{outcome-off, step-off}
use Rattle.spec_gateway.proofs.laws.as_without.Goals as goal

pub returns-clause-step : goal.returns-clause-step
returns-clause-step c = step-off c.readings_law.ensures.carries

pub returns-clause-outcome : goal.returns-clause-outcome
returns-clause-outcome c = outcome-off c.readings_law.ensures.carries
