use Rattle.resync.proofs.Few.{few-records}
use Rattle.resync.proofs.laws.batch_room_law.Goals as goal

pub returns : goal.returns
returns c = few-records
