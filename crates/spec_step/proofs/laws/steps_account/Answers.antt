use Rattle.spec_step.proofs.Accounting.{step-rests}
use Rattle.spec_step.proofs.laws.steps_account.Goals as goal

pub returns : goal.returns
returns c = step-rests c.readings_law.ensures.carries
