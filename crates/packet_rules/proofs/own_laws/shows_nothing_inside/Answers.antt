use Rattle.packet_rules.proofs.OwnSorts.{answer-hides, complaint-hides}
use Rattle.packet_rules.proofs.own_laws.shows_nothing_inside.Goals as goal

pub returns-clause-answer : goal.returns-clause-answer
returns-clause-answer c = answer-hides c.own_packet_law.ensures.packet

pub returns-clause-complaint : goal.returns-clause-complaint
returns-clause-complaint c = complaint-hides c.own_packet_law.ensures.packet
