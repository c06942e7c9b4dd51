use Rattle.spec_pair.proofs.Hellos as laws
use Rattle.spec_pair.proofs.laws.hears_next.Goals as goal

pub returns-clause-said : goal.returns-clause-said
returns-clause-said c = laws.it_is_said

pub returns-clause-anew : goal.returns-clause-anew
returns-clause-anew c = laws.heard_anew

pub returns-clause-heard : goal.returns-clause-heard
returns-clause-heard c = laws.heard

pub returns-clause-fewer_anew : goal.returns-clause-fewer_anew
returns-clause-fewer_anew c = laws.fewer_anew

pub returns-clause-fewer_heard : goal.returns-clause-fewer_heard
returns-clause-fewer_heard c = laws.fewer_heard

pub returns-clause-together : goal.returns-clause-together
returns-clause-together c = laws.are_together
