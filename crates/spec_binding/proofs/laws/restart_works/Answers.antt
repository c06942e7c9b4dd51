use Rattle.spec_binding.proofs.Restarting.{restart-works}
use Rattle.spec_binding.proofs.laws.restart_works.Goals as goal

pub returns : goal.returns
returns c = restart-works
