use Rattle.bindings.proofs.Holding.{table-is}
use Rattle.bindings.proofs.table.Table.recall.Goals as goal

pub returns : goal.returns
returns c =
    let i = c.self.inside in
    rw (← c.self.view_is) (table-is i.store.entries i.store.lives i.ports i.zero i.one i.capacity _ i.ready _ c.self.invariant.0 c.recall.ensures.rising)
