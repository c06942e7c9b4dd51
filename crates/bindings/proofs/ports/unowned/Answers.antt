use Rattle.bindings.proofs.Rising.{none-listed}
use Rattle.bindings.proofs.ports.unowned.Goals as goal

pub returns-in-Ok-clause-list : goal.returns-in-Ok-clause-list
returns-in-Ok-clause-list c = none-listed _ c.in-Ok.ensures.owned
