use Rattle.packet_rules.proofs.Passing.{over-whole, reading-asked, reading-passes}
use Rattle.packet_rules.proofs.laws.readings_law.Goals as goal

pub returns-clause-carries : goal.returns-clause-carries
returns-clause-carries c = reading-passes (record { arp = c.arp_grammar.ensures; ipv4 = c.ipv4_grammar.ensures.grammar; transport = c.transport_grammar.ensures; error = c.error_packet_grammar.ensures; query = c.query_packet_grammar.ensures; ask = c.ask_grammar.ensures; advert = c.advert_grammar.ensures })

pub returns-clause-over : goal.returns-clause-over
returns-clause-over c = over-whole (record { arp = c.arp_grammar.ensures; ipv4 = c.ipv4_grammar.ensures.grammar; transport = c.transport_grammar.ensures; error = c.error_packet_grammar.ensures; query = c.query_packet_grammar.ensures; ask = c.ask_grammar.ensures; advert = c.advert_grammar.ensures })

pub returns-clause-asked : goal.returns-clause-asked
returns-clause-asked c = reading-asked
