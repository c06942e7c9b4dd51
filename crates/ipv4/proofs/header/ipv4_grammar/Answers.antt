use Rattle.ipv4.proofs.Grammar.{no-refusal}
use Rattle.ipv4.proofs.header.ipv4_grammar.Goals as goal

pub returns-clause-grammar : goal.returns-clause-grammar
returns-clause-grammar c = no-refusal
