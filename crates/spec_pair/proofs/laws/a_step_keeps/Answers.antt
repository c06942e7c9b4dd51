use Rattle.spec_pair.proofs.Worlds as laws
use Rattle.spec_pair.proofs.laws.a_step_keeps.Goals as goal

pub returns : goal.returns
returns c = laws.a_step_keeps
