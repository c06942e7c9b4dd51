use Rattle.activity.proofs.Due.{idle-from}
use Rattle.activity.proofs.laws.due_law.Goals as goal

pub returns : goal.returns
returns c = idle-from
