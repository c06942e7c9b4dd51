use Rattle.arp.proofs.Indexed.{noted}
use Rattle.arp.proofs.learnt.note.Goals as goal

pub returns-in-Ok : goal.returns-in-Ok
returns-in-Ok c = noted _ _ _ c.in-Ok.ensures.found
