use Rattle.icmp.proofs.Told.{quoted-told, told-quoted}
use Rattle.icmp.proofs.quoted.quoted_grammar.Goals as goal

pub returns-clause-grammar : goal.returns-clause-grammar
returns-clause-grammar c = λ packet. (quoted-told packet, told-quoted packet)
