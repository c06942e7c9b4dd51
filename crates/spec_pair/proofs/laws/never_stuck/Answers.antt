use Rattle.spec_pair.proofs.Living as laws
use Rattle.spec_pair.proofs.laws.never_stuck.Goals as goal

pub returns-clause-sent : goal.returns-clause-sent
returns-clause-sent c = laws.it_is_sent

pub returns-clause-taken : goal.returns-clause-taken
returns-clause-taken c = laws.it_is_taken

pub returns-clause-less : goal.returns-clause-less
returns-clause-less c = laws.less_to_do
