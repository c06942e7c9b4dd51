use Rattle.spec_pair.proofs.Boxes as laws
use Rattle.spec_pair.proofs.laws.same_boxes.Goals as goal

pub returns : goal.returns
returns c = laws.same_boxes
