use Rattle.spec_pair.proofs.StepLaws as laws
use Rattle.spec_pair.proofs.laws.more_is_handed.Goals as goal

pub returns : goal.returns
returns c = laws.more_is_handed
