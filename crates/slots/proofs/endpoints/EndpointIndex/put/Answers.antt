use Rattle.std.proofs.Common.{◌≡◌, Some, None, not, is_some, ap, sym, subst, ◌∙◌, arith}
use Rattle.slots.specs.declared.ranks.Places.{Places}
use Rattle.slots.specs.Ranks.{slot_in, with_slot}
use Rattle.slots.specs.Endpoints.{look_up, AreRewritten}
use Rattle.slots.proofs.LookUps.{changed-slot}
use Rattle.slots.proofs.Counted.{count-within, more-slots, more-total, none-from}
use Rattle.slots.proofs.endpoints.EndpointIndex.put.Goals as goal

-- the endpoint had no slot of that rank
pub invariant_of-self : goal.invariant_of-self
invariant_of-self g c =
    let es = c.self.inside.places.entries in
    let fs = c.insert.new.map.entries in
    let x = c.args.endpoint in
    let places : c.with.result ≡ with_slot c.args.rank (Some c.args.number) (look_up es x) = c.with.ensures ∙ ap (with_slot c.args.rank (Some c.args.number)) c.places_of-places.ensures in
    let r = subst (λ (p : Places). AreRewritten es x p fs) places c.insert.ensures.rewritten in
    let held : c.get.result ≡ slot_in c.args.rank (look_up es x) = c.get.ensures ∙ ap (slot_in c.args.rank) c.places_of-places.ensures in
    let none = none-from (slot_in c.args.rank (look_up es x)) (sym (ap is_some held) ∙ c.is_none.ensures ∙ ap not c.if-is_none.true) in (
      λ a. (let more = more-slots es fs x c.args.rank c.args.number r none a in let now = c.add_one.ensures.counts a in let old = c.self.invariant.0 a in omega (arith, more, now, old)),
      c.insert.ensures.served c.self.invariant.1,
      (let more = more-total es fs x c.args.rank c.args.number r none in let old = c.self.invariant.2 in omega (arith, more, old)),
      (let room = rw (← c.self.view_is) at c.requires.spare in omega (arith, room)),
    )

pub add_one-requires-clause-small : goal.add_one-requires-clause-small
add_one-requires-clause-small g c =
    let few = count-within c.self.inside.places.entries c.self.inside.counts c.args.endpoint.address c.self.invariant.0 in
    let all = c.self.invariant.2 in
    let room = rw (← c.self.view_is) at c.requires.spare in
    omega (arith, few, all, room)

pub returns-then-is_none-clause-slots : goal.returns-then-is_none-clause-slots
returns-then-is_none-clause-slots g c =
    let es = c.self.inside.places.entries in
    let fs = c.insert.new.map.entries in
    let x = c.args.endpoint in
    let places : c.with.result ≡ with_slot c.args.rank (Some c.args.number) (look_up es x) = c.with.ensures ∙ ap (with_slot c.args.rank (Some c.args.number)) c.places_of-places.ensures in
    let r = subst (λ (p : Places). AreRewritten es x p fs) places c.insert.ensures.rewritten in
    rw (← c.self.view_is) (changed-slot es fs x c.args.rank (Some c.args.number) r.slots)

-- the endpoint had one
pub returns-else-is_none-clause-slots : goal.returns-else-is_none-clause-slots
returns-else-is_none-clause-slots g c =
    let es = c.self.inside.places.entries in
    let fs = c.insert.new.map.entries in
    let x = c.args.endpoint in
    let places : c.with.result ≡ with_slot c.args.rank (Some c.args.number) (look_up es x) = c.with.ensures ∙ ap (with_slot c.args.rank (Some c.args.number)) c.places_of-places.ensures in
    let r = subst (λ (p : Places). AreRewritten es x p fs) places c.insert.ensures.rewritten in
    rw (← c.self.view_is) (changed-slot es fs x c.args.rank (Some c.args.number) r.slots)
