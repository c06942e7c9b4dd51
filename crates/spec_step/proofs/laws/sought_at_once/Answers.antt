use Rattle.spec_step.proofs.Idle.{sought-at-once}
use Rattle.spec_step.proofs.laws.sought_at_once.Goals as goal

pub returns : goal.returns
returns c = sought-at-once
