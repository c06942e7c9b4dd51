use Rattle.spec_pair.proofs.StepLaws as laws
use Rattle.spec_pair.proofs.laws.one_act.Goals as goal

pub returns : goal.returns
returns c = laws.one_act
