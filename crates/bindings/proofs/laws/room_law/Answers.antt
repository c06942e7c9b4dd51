use Rattle.bindings.proofs.Rooms.{has-room}
use Rattle.bindings.proofs.laws.room_law.Goals as goal

pub returns : goal.returns
returns c = has-room
