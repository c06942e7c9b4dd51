use Rattle.spec_binding.proofs.Parts.{works-more}
use Rattle.spec_binding.proofs.laws.works_more.Goals as goal

pub returns : goal.returns
returns c = works-more
