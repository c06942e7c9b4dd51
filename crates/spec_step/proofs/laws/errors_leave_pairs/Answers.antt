use Rattle.spec_step.proofs.Erring.{no-error-waits}
use Rattle.spec_step.proofs.Leaving.{error-leaves}
use Rattle.spec_step.proofs.laws.errors_leave_pairs.Goals as goal

pub returns-clause-pairs : goal.returns-clause-pairs
returns-clause-pairs c = error-leaves

pub returns-clause-no_wait : goal.returns-clause-no_wait
returns-clause-no_wait c = no-error-waits
