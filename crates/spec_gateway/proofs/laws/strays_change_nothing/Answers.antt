use Rattle.spec_gateway.proofs.Inside.{stray-nothing}
use Rattle.spec_gateway.proofs.laws.strays_change_nothing.Goals as goal

pub returns-clause-step : goal.returns-clause-step
returns-clause-step c = stray-nothing c.strays_are_dropped.ensures.step

pub returns-clause-outcome : goal.returns-clause-outcome
returns-clause-outcome c = λ s bytes is. c.strays_are_dropped.ensures.outcome s.shown bytes is
