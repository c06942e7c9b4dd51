use Rattle.spec_step.proofs.HavingPlace.{packet-waits, plan-waits}
use Rattle.spec_step.proofs.laws.waits_where_there_is_place.Goals as goal

pub returns-clause-plan : goal.returns-clause-plan
returns-clause-plan c = plan-waits

pub returns-clause-verdict : goal.returns-clause-verdict
returns-clause-verdict c = packet-waits
