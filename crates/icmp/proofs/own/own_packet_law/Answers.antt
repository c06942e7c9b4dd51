use Rattle.icmp.proofs.Saying.{spelled}
use Rattle.icmp.proofs.own.own_packet_law.Goals as goal

pub returns-clause-packet : goal.returns-clause-packet
returns-clause-packet c = spelled
