use Rattle.spec_pair.proofs.Worlds as laws
use Rattle.spec_pair.proofs.laws.begins.Goals as goal

pub returns : goal.returns
returns c = laws.begins_so
