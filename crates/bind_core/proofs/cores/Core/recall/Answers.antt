use Rattle.bind_core.proofs.Performing.{revived-few}
use Rattle.bind_core.proofs.cores.Core.recall.Goals as goal

pub returns-clause-batch : goal.returns-clause-batch
returns-clause-batch c = rw (← c.self.view_is) (revived-few c.self.inside.table c.recall.ensures)
