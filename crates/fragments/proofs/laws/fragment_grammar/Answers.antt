use Rattle.fragments.proofs.Grammar.{fragment-tests}
use Rattle.fragments.proofs.laws.fragment_grammar.Goals as goal

pub returns : goal.returns
returns c = fragment-tests
