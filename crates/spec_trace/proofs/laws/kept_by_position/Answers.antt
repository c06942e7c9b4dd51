use Rattle.spec_trace.proofs.ByPosition as laws
use Rattle.spec_trace.proofs.laws.kept_by_position.Goals as goal

pub returns : goal.returns
returns c = record { kept = laws.kept_law; two = laws.at_most_two_law }
