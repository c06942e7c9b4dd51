use Rattle.spec_pair.proofs.StepLaws as laws
use Rattle.spec_pair.proofs.laws.steps_anywhere.Goals as goal

pub returns : goal.returns
returns c = laws.steps_anywhere
