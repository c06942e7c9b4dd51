use Rattle.spec_pair.proofs.Props as laws
use Rattle.spec_pair.proofs.laws.takes_in_order.Goals as goal

pub returns : goal.returns
returns c = laws.takes_in_order
