use Rattle.spec_pair.proofs.StepLaws as laws
use Rattle.spec_pair.proofs.laws.rests.Goals as goal

pub returns : goal.returns
returns c = laws.rests
