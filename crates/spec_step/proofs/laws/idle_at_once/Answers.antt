use Rattle.spec_step.proofs.Idle.{idle-at-once}
use Rattle.spec_step.proofs.laws.idle_at_once.Goals as goal

pub returns : goal.returns
returns c = idle-at-once
