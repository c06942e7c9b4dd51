use Rattle.spec_binding.proofs.Wishing.{idle-works}
use Rattle.spec_binding.proofs.laws.idle_works.Goals as goal

pub returns : goal.returns
returns c = idle-works
