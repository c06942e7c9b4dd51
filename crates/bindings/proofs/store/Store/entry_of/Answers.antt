use Rattle.std.proofs.Common.{sym, ◌∙◌}
use Rattle.bindings.proofs.Stored.{served, unserved}
use Rattle.bindings.proofs.store.Store.entry_of.Goals as goal

pub returns-in-Some : goal.returns-in-Some
returns-in-Some c =
    let i = c.self.inside in
    let row = served i.slots i.index c.args.endpoint c.self.invariant.0 c.recall.ensures.order c.in-Some.number (sym c.in-Some.ensures) in
    rw (← c.self.view_is) (c.entry_at.ensures row.0.key row.0.item row.1.number row.1.item ∙ sym row.2)

pub returns-in-None : goal.returns-in-None
returns-in-None c = rw (← c.self.view_is) (sym (unserved c.self.inside.slots c.self.inside.index c.args.endpoint c.self.invariant.0 (sym c.in-None.ensures)))
