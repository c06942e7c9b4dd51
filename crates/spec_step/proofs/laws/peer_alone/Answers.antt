use Rattle.spec_step.proofs.Changing.{changed-by, peer-inside, peer-none, peer-outside}
use Rattle.spec_step.proofs.laws.peer_alone.Goals as goal

pub returns-clause-frame : goal.returns-clause-frame
returns-clause-frame c = changed-by c.peer_alone.ensures

pub returns-clause-inside : goal.returns-clause-inside
returns-clause-inside c = peer-inside

pub returns-clause-outside : goal.returns-clause-outside
returns-clause-outside c = peer-outside

pub returns-clause-any : goal.returns-clause-any
returns-clause-any c = peer-none
