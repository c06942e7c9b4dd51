use Rattle.spec_step.proofs.Stepping.{step-keeps}
use Rattle.spec_step.proofs.laws.steps_keep.Goals as goal

pub returns : goal.returns
returns c = step-keeps c.readings_law.ensures.carries
