use Rattle.spec_trace.proofs.ByPosition as laws
use Rattle.spec_trace.proofs.laws.private_by_position.Goals as goal

pub returns : goal.returns
returns c = record { in_use = laws.in_use_law; private = laws.private_law; only = laws.only_law }
