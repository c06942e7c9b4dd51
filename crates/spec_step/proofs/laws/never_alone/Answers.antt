use Rattle.spec_step.proofs.Giving.{never-alone}
use Rattle.spec_step.proofs.laws.never_alone.Goals as goal

pub returns : goal.returns
returns c = never-alone
