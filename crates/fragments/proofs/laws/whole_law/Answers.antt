use Rattle.fragments.proofs.Making.{taken-whole}
use Rattle.fragments.proofs.laws.whole_law.Goals as goal

pub returns : goal.returns
returns c = taken-whole
