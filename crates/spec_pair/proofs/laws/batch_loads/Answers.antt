use Rattle.spec_pair.proofs.Batches as laws
use Rattle.spec_pair.proofs.laws.batch_loads.Goals as goal

pub returns-clause-loads : goal.returns-clause-loads
returns-clause-loads c = laws.batch_new

pub returns-clause-mirrors : goal.returns-clause-mirrors
returns-clause-mirrors c = laws.batch_mirrored
