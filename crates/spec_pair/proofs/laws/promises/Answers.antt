use Rattle.spec_pair.proofs.Props as laws
use Rattle.spec_pair.proofs.laws.promises.Goals as goal

pub returns-clause-kept : goal.returns-clause-kept
returns-clause-kept c = laws.promises

pub returns-clause-owners : goal.returns-clause-owners
returns-clause-owners c = laws.promises_ports
