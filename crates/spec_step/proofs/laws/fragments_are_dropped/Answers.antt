use Rattle.spec_step.proofs.Feeding.{fragment-drops}
use Rattle.spec_step.proofs.laws.fragments_are_dropped.Goals as goal

pub returns : goal.returns
returns c = fragment-drops
