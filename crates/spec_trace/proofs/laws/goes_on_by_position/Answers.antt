use Rattle.spec_trace.proofs.ByPosition as laws
use Rattle.spec_trace.proofs.laws.goes_on_by_position.Goals as goal

pub returns : goal.returns
returns c = record { pair = laws.goes_law; all = laws.translates_law }
