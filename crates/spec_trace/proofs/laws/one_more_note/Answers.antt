use Rattle.spec_trace.proofs.Growth as laws
use Rattle.spec_trace.proofs.laws.one_more_note.Goals as goal

pub returns : goal.returns
returns c = record { newest = laws.reverse-push; synced = laws.is_synced-push; released = laws.has_released-push; opens = laws.is_open-push; goes_on = laws.goes_on-push }
