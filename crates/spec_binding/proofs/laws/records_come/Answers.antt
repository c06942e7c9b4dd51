use Rattle.spec_binding.proofs.Comes.{turn-comes}
use Rattle.spec_binding.proofs.laws.records_come.Goals as goal

pub returns-clause-turn : goal.returns-clause-turn
returns-clause-turn c = turn-comes
