use Rattle.spec_pair.proofs.Kept as laws
use Rattle.spec_pair.proofs.laws.the_pair_keeps.Goals as goal

pub returns-clause-kept : goal.returns-clause-kept
returns-clause-kept c = λ r es can. laws.always_kept r es can

pub returns-clause-owners : goal.returns-clause-owners
returns-clause-owners c = λ r es can. laws.always_owned r es can
