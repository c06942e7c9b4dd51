use Rattle.spec_binding.proofs.Wishing.{alone-works}
use Rattle.spec_binding.proofs.laws.alone_works.Goals as goal

pub returns : goal.returns
returns c = alone-works
