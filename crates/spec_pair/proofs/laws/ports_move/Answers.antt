use Rattle.spec_pair.proofs.MoreRuns as more
use Rattle.spec_pair.proofs.Runs as laws
use Rattle.spec_pair.proofs.laws.ports_move.Goals as goal

pub returns-clause-granted : goal.returns-clause-granted
returns-clause-granted c = laws.wanting_leaves

pub returns-clause-taken : goal.returns-clause-taken
returns-clause-taken c = laws.granting_leaves

pub returns-clause-lost : goal.returns-clause-lost
returns-clause-lost c = laws.losing_leaves

pub returns-clause-named : goal.returns-clause-named
returns-clause-named c = more.naming_leaves
