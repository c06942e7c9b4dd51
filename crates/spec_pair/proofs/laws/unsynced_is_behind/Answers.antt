use Rattle.spec_pair.proofs.Behind as laws
use Rattle.spec_pair.proofs.laws.unsynced_is_behind.Goals as goal

pub returns : goal.returns
returns c = laws.is_behind
