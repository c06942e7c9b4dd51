use Rattle.spec_pair.proofs.Taking as laws
use Rattle.spec_pair.proofs.laws.any_record_is_taken.Goals as goal

pub returns-clause-taken : goal.returns-clause-taken
returns-clause-taken c = λ r i a l n f q together next facts. laws.takes_it r i a l n f q together next facts

pub returns-clause-granted : goal.returns-clause-granted
returns-clause-granted c = laws.got
