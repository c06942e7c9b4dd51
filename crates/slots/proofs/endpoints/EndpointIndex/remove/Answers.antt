use Rattle.std.proofs.Common.{◌≡◌, None, is_some, ap, sym, subst, ◌∙◌, arith}
use Rattle.slots.specs.declared.ranks.Places.{Places}
use Rattle.slots.specs.Ranks.{slot_in, with_slot}
use Rattle.slots.specs.Endpoints.{look_up, AreRewritten}
use Rattle.slots.proofs.LookUps.{changed-slot, absent-slot}
use Rattle.slots.proofs.Counted.{less-slots, less-total, none-from}
use Rattle.slots.proofs.endpoints.EndpointIndex.remove.Goals as goal

-- the endpoint had a slot of that rank
pub invariant_of-self : goal.invariant_of-self
invariant_of-self g c =
    let es = c.self.inside.places.entries in
    let fs = c.rewrite.new.map.entries in
    let x = c.args.endpoint in
    let places : c.without.result ≡ with_slot c.args.rank None (look_up es x) = c.without.ensures ∙ ap (with_slot c.args.rank None) c.places_of-places.ensures in
    let r = subst (λ (p : Places). AreRewritten es x p fs) places c.rewrite.ensures.rewritten in
    let held : c.get.result ≡ slot_in c.args.rank (look_up es x) = c.get.ensures ∙ ap (slot_in c.args.rank) c.places_of-places.ensures in
    let some = sym (ap is_some held) ∙ sym c.is_some.ensures ∙ c.if-is_some.true in (
      λ a. (let less = less-slots es fs x c.args.rank r some a in let now = c.take_one.ensures.counts a in let old = c.self.invariant.0 a in omega (arith, less, now, old)),
      c.rewrite.ensures.served c.self.invariant.1,
      (let less = less-total es fs x c.args.rank r some in let old = c.self.invariant.2 in omega (arith, less, old)),
      (let few = c.self.invariant.3 in omega (arith, few)),
    )

pub returns-then-is_some-clause-slots : goal.returns-then-is_some-clause-slots
returns-then-is_some-clause-slots g c =
    let es = c.self.inside.places.entries in
    let fs = c.rewrite.new.map.entries in
    let x = c.args.endpoint in
    let places : c.without.result ≡ with_slot c.args.rank None (look_up es x) = c.without.ensures ∙ ap (with_slot c.args.rank None) c.places_of-places.ensures in
    let r = subst (λ (p : Places). AreRewritten es x p fs) places c.rewrite.ensures.rewritten in
    rw (← c.self.view_is) (changed-slot es fs x c.args.rank None r.slots)

-- the endpoint had none
pub returns-else-is_some-clause-slots : goal.returns-else-is_some-clause-slots
returns-else-is_some-clause-slots g c =
    let es = c.self.inside.places.entries in
    let held : c.get.result ≡ slot_in c.args.rank (look_up es c.args.endpoint) = c.get.ensures ∙ ap (slot_in c.args.rank) c.places_of-places.ensures in
    let none = none-from (slot_in c.args.rank (look_up es c.args.endpoint)) (sym (ap is_some held) ∙ sym c.is_some.ensures ∙ c.if-is_some.false) in
    rw (← c.self.view_is) (absent-slot es c.args.endpoint c.args.rank none)
