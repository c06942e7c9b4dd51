use Rattle.std.proofs.Common.{Some, sym, ap, ◌∙◌}
use Rattle.std.specs.Option.{option_map}
use Rattle.bindings.specs.declared.store.Item.{Item}
use Rattle.bindings.proofs.Kept.{slot-is}
use Rattle.bindings.proofs.store.Store.entry.Goals as goal

pub returns-in-Some : goal.returns-in-Some
returns-in-Some c =
    rw (← c.self.view_is) (ap Some c.entry_of_item.ensures ∙ ap (option_map (λ (i : Item). i.entry)) c.in-Some.ensures ∙ sym (slot-is c.self.inside.slots.rows c.args.key c.self.invariant.0.keyed))

pub returns-in-None : goal.returns-in-None
returns-in-None c =
    rw (← c.self.view_is) (ap (option_map (λ (i : Item). i.entry)) c.in-None.ensures ∙ sym (slot-is c.self.inside.slots.rows c.args.key c.self.invariant.0.keyed))
