use Rattle.spec_trace.proofs.ByPosition as laws
use Rattle.spec_trace.proofs.laws.one_endpoint_by_position.Goals as goal

pub returns : goal.returns
returns c = laws.one_endpoint_law
