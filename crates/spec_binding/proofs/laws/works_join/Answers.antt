use Rattle.spec_binding.proofs.Parts.{works-join}
use Rattle.spec_binding.proofs.laws.works_join.Goals as goal

pub returns : goal.returns
returns c = works-join
