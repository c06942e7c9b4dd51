use Rattle.spec_step.proofs.Giving.{gives-way}
use Rattle.spec_step.proofs.laws.gives_way.Goals as goal

pub returns : goal.returns
returns c = gives-way
