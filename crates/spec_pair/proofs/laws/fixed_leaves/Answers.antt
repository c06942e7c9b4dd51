use Rattle.spec_pair.proofs.Batches as laws
use Rattle.spec_pair.proofs.laws.fixed_leaves.Goals as goal

pub returns : goal.returns
returns c = laws.fixed_leaves
