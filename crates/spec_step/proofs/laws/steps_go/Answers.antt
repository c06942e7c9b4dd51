use Rattle.spec_step.proofs.Stepping.{step-goes}
use Rattle.spec_step.proofs.laws.steps_go.Goals as goal

pub returns : goal.returns
returns c = step-goes c.readings_law.ensures.carries
