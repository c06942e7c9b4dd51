use Rattle.gateway.proofs.Longs.{long-is}
use Rattle.gateway.proofs.numbers.recall_long.Goals as goal

pub returns-clause-packet : goal.returns-clause-packet
returns-clause-packet c = λ mtu long. (long-is c.ipv4_grammar.ensures.grammar mtu c.args.frame.now long).packet

pub returns-clause-ethertype : goal.returns-clause-ethertype
returns-clause-ethertype c = λ mtu long. (long-is c.ipv4_grammar.ensures.grammar mtu c.args.frame.now long).ethertype

pub returns-clause-unpadded : goal.returns-clause-unpadded
returns-clause-unpadded c = λ mtu long. (long-is c.ipv4_grammar.ensures.grammar mtu c.args.frame.now long).unpadded
