use Rattle.packet_rules.proofs.Exchange.{advert-read}
use Rattle.packet_rules.proofs.laws.advert_law.Goals as goal

pub returns : goal.returns
returns c = advert-read (record { ipv4 = λ bytes is. (c.ipv4_grammar.ensures.grammar bytes).1 is; advert = λ packet is. (c.advert_grammar.ensures packet).1 is; read = c.written_is_read.ensures })
