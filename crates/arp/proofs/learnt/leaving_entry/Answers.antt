use Rattle.arp.proofs.Logs.{first-leaves, unsent-leaves}
use Rattle.arp.proofs.learnt.leaving_entry.Goals as goal

pub returns-in-Some : goal.returns-in-Some
returns-in-Some c = unsent-leaves _ _ _ c.in-Some.ensures

pub returns-in-None : goal.returns-in-None
returns-in-None c = first-leaves _ _ _ c.in-None.ensures c.requires
