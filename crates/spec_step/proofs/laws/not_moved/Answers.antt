use Rattle.spec_step.proofs.Unmoved.{step-moves-none}
use Rattle.spec_step.proofs.laws.not_moved.Goals as goal

pub returns : goal.returns
returns c = step-moves-none c.readings_law.ensures.carries
