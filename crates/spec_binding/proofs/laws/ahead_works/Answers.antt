use Rattle.spec_binding.proofs.Wishing.{ahead-works}
use Rattle.spec_binding.proofs.laws.ahead_works.Goals as goal

pub returns : goal.returns
returns c = ahead-works
