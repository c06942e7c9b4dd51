use Rattle.spec_binding.proofs.Waiting.{ends-ticked, ends-waits, none-ends}
use Rattle.spec_binding.proofs.laws.waits_end.Goals as goal

pub returns-clause-synced : goal.returns-clause-synced
returns-clause-synced c = ends-waits

pub returns-clause-unsynced : goal.returns-clause-unsynced
returns-clause-unsynced c = none-ends

pub returns-clause-ticked : goal.returns-clause-ticked
returns-clause-ticked c = ends-ticked
