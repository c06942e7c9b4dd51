use Rattle.spec_step.proofs.Feeding.{route-drops}
use Rattle.spec_step.proofs.laws.source_routes_are_dropped.Goals as goal

pub returns : goal.returns
returns c = route-drops
