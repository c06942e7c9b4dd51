use Rattle.spec_binding.proofs.Wishing.{wish-works}
use Rattle.spec_binding.proofs.laws.wish_works.Goals as goal

pub returns : goal.returns
returns c = wish-works
