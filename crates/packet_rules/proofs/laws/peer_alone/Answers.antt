use Rattle.packet_rules.proofs.Hearing.{peers-alone}
use Rattle.packet_rules.proofs.laws.peer_alone.Goals as goal

pub returns : goal.returns
returns c = peers-alone
