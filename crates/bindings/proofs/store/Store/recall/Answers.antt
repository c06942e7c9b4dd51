use Rattle.bindings.proofs.Kept.{rises-up}
use Rattle.bindings.proofs.store.Store.recall.Goals as goal

pub returns-clause-order : goal.returns-clause-order
returns-clause-order c = rw (← c.self.view_is) (rises-up 0 c.self.inside.slots.rows c.self.invariant.0.keyed c.recall.ensures.order)
