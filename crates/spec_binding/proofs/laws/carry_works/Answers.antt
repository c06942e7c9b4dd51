use Rattle.spec_binding.proofs.Wishing.{carry-works}
use Rattle.spec_binding.proofs.laws.carry_works.Goals as goal

pub returns : goal.returns
returns c = carry-works
