use Rattle.std.proofs.Common.{sym, ap, ◌∙◌}
use Rattle.std.specs.Option.{option_map}
use Rattle.bindings.specs.declared.store.Item.{Item}
use Rattle.bindings.proofs.Kept.{slot-is}
use Rattle.bindings.proofs.Stored.{next-row, no-next_row}
use Rattle.bindings.proofs.store.Store.entry_after.Goals as goal

pub returns-in-Some : goal.returns-in-Some
returns-in-Some c =
    let i = c.self.inside in
    let next = next-row i.slots c.args.last c.in-Some.key c.self.invariant.0.keyed c.recall.ensures.order c.in-Some.ensures in
    c.entry.ensures ∙ rw (← c.self.view_is) (slot-is i.slots.rows c.in-Some.key c.self.invariant.0.keyed ∙ ap (option_map (λ (z : Item). z.entry)) next.1 ∙ sym next.2)

pub returns-in-None : goal.returns-in-None
returns-in-None c = rw (← c.self.view_is) (sym (no-next_row c.self.inside.slots c.args.last c.self.invariant.0.keyed c.in-None.ensures))
