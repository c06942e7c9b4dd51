use Rattle.spec_step.proofs.Settling.{step-settles}
use Rattle.spec_step.proofs.laws.steps_settle.Goals as goal

pub returns-clause-settled : goal.returns-clause-settled
returns-clause-settled c = step-settles

pub returns-clause-share : goal.returns-clause-share
returns-clause-share c = λ s event s2 address step is. (step-settles s event s2 step is).places.shares address
