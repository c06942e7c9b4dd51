use Rattle.spec_binding.proofs.Parts.{works-nothing}
use Rattle.spec_binding.proofs.laws.works_nothing.Goals as goal

pub returns : goal.returns
returns c = works-nothing
