use Rattle.spec_step.proofs.Stepping.{parts-stand}
use Rattle.spec_step.proofs.laws.parts_stand.Goals as goal

pub returns : goal.returns
returns c = parts-stand c.readings_law.ensures.carries
