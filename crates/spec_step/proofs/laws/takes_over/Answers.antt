use Rattle.spec_step.proofs.TakingOver.{takes-over, waits-since}
use Rattle.spec_step.proofs.laws.takes_over.Goals as goal

pub returns-clause-since : goal.returns-clause-since
returns-clause-since c = waits-since

pub returns-clause-over : goal.returns-clause-over
returns-clause-over c = takes-over
