use Rattle.std.proofs.Common.{Option, sym, ap, ◌∙◌}
use Rattle.std.specs.Option.{option_map}
use Rattle.bindings.specs.declared.store.Item.{Item}
use Rattle.bindings.specs.Lives.{is_unused_by}
use Rattle.bindings.proofs.Kept.{life-is}
use Rattle.bindings.proofs.store.Store.is_unused.Goals as goal

pub returns-in-Some : goal.returns-in-Some
returns-in-Some c =
    rw (← c.self.view_is) (c.is_unused.ensures.exact ∙ ap (λ (o : Option Item). is_unused_by (option_map (λ (i : Item). i.life) o)) c.in-Some.ensures ∙ ap is_unused_by (sym (life-is c.self.inside.slots.rows c.args.key c.self.invariant.0.keyed)))

pub returns-in-None : goal.returns-in-None
returns-in-None c =
    rw (← c.self.view_is) (ap (λ (o : Option Item). is_unused_by (option_map (λ (i : Item). i.life) o)) c.in-None.ensures ∙ ap is_unused_by (sym (life-is c.self.inside.slots.rows c.args.key c.self.invariant.0.keyed)))
