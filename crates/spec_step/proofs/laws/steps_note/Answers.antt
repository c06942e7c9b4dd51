use Rattle.spec_step.proofs.Counting.{step-notes}
use Rattle.spec_step.proofs.laws.steps_note.Goals as goal

pub returns : goal.returns
returns c = step-notes
