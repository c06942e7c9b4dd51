use Rattle.spec_pair.proofs.Counted as counted
use Rattle.spec_pair.proofs.Forged as forged
use Rattle.spec_pair.proofs.laws.nothing_forged.Goals as goal

pub returns-clause-waits : goal.returns-clause-waits
returns-clause-waits c = forged.nothing_comes

pub returns-clause-taken : goal.returns-clause-taken
returns-clause-taken c = forged.no_more_taken

pub returns-clause-sent : goal.returns-clause-sent
returns-clause-sent c = counted.took-what-was-sent
