use Rattle.std.proofs.Common.{sym, ◌∙◌}
use Rattle.arp.proofs.Logs.{mac-none, mac-place}
use Rattle.arp.proofs.learnt.mac_in_log.Goals as goal

pub returns-in-Some : goal.returns-in-Some
returns-in-Some c = c.valid_mac.ensures ∙ mac-place _ _ _ _ c.in-Some.ensures c.requires

pub returns-in-None : goal.returns-in-None
returns-in-None c = sym (mac-none _ _ _ c.in-None.ensures)
