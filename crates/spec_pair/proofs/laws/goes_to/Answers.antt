use Rattle.spec_pair.proofs.Worlds as laws
use Rattle.spec_pair.proofs.laws.goes_to.Goals as goal

pub returns : goal.returns
returns c = laws.goes_to
