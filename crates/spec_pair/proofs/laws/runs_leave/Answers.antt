use Rattle.spec_pair.proofs.Batches as laws
use Rattle.spec_pair.proofs.laws.runs_leave.Goals as goal

pub returns : goal.returns
returns c = laws.runs_leave
