use Rattle.spec_gateway.proofs.Inside.{part-nothing}
use Rattle.spec_gateway.proofs.laws.part_is_nothing.Goals as goal

pub returns : goal.returns
returns c = part-nothing
