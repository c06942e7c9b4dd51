use Rattle.std.proofs.Common.{◌≡◌, true, false, refl, subst}
use Rattle.arp.specs.Log.{kept, spot_addresses, IsAt, IsGapFor}
use Rattle.arp.specs.Neighbours.{has_entry}
use Rattle.arp.proofs.Indexed.{has-known, has-unknown}
use Rattle.arp.proofs.Teaching.{has-after}
use Rattle.arp.proofs.Wholes.{six-after}
use Rattle.arp.proofs.learnt.learn.Goals as goal

pub returns-in-Ok-clause-entries : goal.returns-in-Ok-clause-entries
returns-in-Ok-clause-entries c =
    let there = subst (λ xs. IsAt (spot_addresses xs) c.args.address.0 c.in-Ok.at) c.deref.ensures.value c.in-Ok.ensures.found in
    let had : has_entry c.args.address.0 (kept c.args.learnt.now.log.items) ≡ true = subst (λ es. has_entry c.args.address.0 es ≡ true) c.make_room.ensures.entries (has-known _ _ _ _ _ c.make_room.ensures.holds.indexed there) in
    rw (c.renew.ensures.entries, c.make_room.ensures.entries, had) refl

pub returns-in-Ok-clause-teaches : goal.returns-in-Ok-clause-teaches
returns-in-Ok-clause-teaches c =
    let there = subst (λ xs. IsAt (spot_addresses xs) c.args.address.0 c.in-Ok.at) c.deref.ensures.value c.in-Ok.ensures.found in
    let had : has_entry c.args.address.0 (kept c.args.learnt.now.log.items) ≡ true = subst (λ es. has_entry c.args.address.0 es ≡ true) c.make_room.ensures.entries (has-known _ _ _ _ _ c.make_room.ensures.holds.indexed there) in
    rw had refl

pub returns-in-Err-clause-entries : goal.returns-in-Err-clause-entries
returns-in-Err-clause-entries c =
    let gap = subst (λ xs. IsGapFor (spot_addresses xs) c.args.address.0 c.in-Err.at) c.deref.ensures.value c.in-Err.ensures.absent in
    let none : has_entry c.args.address.0 (kept c.args.learnt.now.log.items) ≡ false = subst (λ es. has_entry c.args.address.0 es ≡ false) c.make_room.ensures.entries (has-unknown _ _ _ _ _ c.make_room.ensures.holds.indexed gap) in
    rw (c.add.ensures.entries, c.new_entry.ensures, c.make_room.ensures.entries, none, c.if-for_us.true) refl

pub returns-in-Err-clause-teaches : goal.returns-in-Err-clause-teaches
returns-in-Err-clause-teaches c =
    let gap = subst (λ xs. IsGapFor (spot_addresses xs) c.args.address.0 c.in-Err.at) c.deref.ensures.value c.in-Err.ensures.absent in
    let none : has_entry c.args.address.0 (kept c.args.learnt.now.log.items) ≡ false = subst (λ es. has_entry c.args.address.0 es ≡ false) c.make_room.ensures.entries (has-unknown _ _ _ _ _ c.make_room.ensures.holds.indexed gap) in
    rw (none, c.if-for_us.true) refl

pub returns-in-Err-2-clause-entries : goal.returns-in-Err-2-clause-entries
returns-in-Err-2-clause-entries c =
    let gap = subst (λ xs. IsGapFor (spot_addresses xs) c.args.address.0 c.in-Err-2.field-0) c.deref.ensures.value c.in-Err-2.ensures.absent in
    let none : has_entry c.args.address.0 (kept c.args.learnt.now.log.items) ≡ false = subst (λ es. has_entry c.args.address.0 es ≡ false) c.make_room.ensures.entries (has-unknown _ _ _ _ _ c.make_room.ensures.holds.indexed gap) in
    rw (c.make_room.ensures.entries, none, c.if-for_us.false) refl

pub returns-in-Err-2-clause-teaches : goal.returns-in-Err-2-clause-teaches
returns-in-Err-2-clause-teaches c =
    let gap = subst (λ xs. IsGapFor (spot_addresses xs) c.args.address.0 c.in-Err-2.field-0) c.deref.ensures.value c.in-Err-2.ensures.absent in
    let none : has_entry c.args.address.0 (kept c.args.learnt.now.log.items) ≡ false = subst (λ es. has_entry c.args.address.0 es ≡ false) c.make_room.ensures.entries (has-unknown _ _ _ _ _ c.make_room.ensures.holds.indexed gap) in
    rw (none, c.if-for_us.false) refl

pub returns-in-Ok-clause-has : goal.returns-in-Ok-clause-has
returns-in-Ok-clause-has c = has-after c.args.address c.args.mac c.args.for_us c.args.now (kept c.args.learnt.now.log.items) (kept c.renew.new.learnt.log.items) _ (returns-in-Ok-clause-entries c) (returns-in-Ok-clause-teaches c)

pub returns-in-Ok-clause-six : goal.returns-in-Ok-clause-six
returns-in-Ok-clause-six c six all = six-after c.args.address c.args.mac c.args.for_us c.args.now (kept c.args.learnt.now.log.items) (kept c.renew.new.learnt.log.items) (returns-in-Ok-clause-entries c) six all

pub returns-in-Err-clause-has : goal.returns-in-Err-clause-has
returns-in-Err-clause-has c = has-after c.args.address c.args.mac c.args.for_us c.args.now (kept c.args.learnt.now.log.items) (kept c.add.new.learnt.log.items) _ (returns-in-Err-clause-entries c) (returns-in-Err-clause-teaches c)

pub returns-in-Err-clause-six : goal.returns-in-Err-clause-six
returns-in-Err-clause-six c six all = six-after c.args.address c.args.mac c.args.for_us c.args.now (kept c.args.learnt.now.log.items) (kept c.add.new.learnt.log.items) (returns-in-Err-clause-entries c) six all

pub returns-in-Err-2-clause-has : goal.returns-in-Err-2-clause-has
returns-in-Err-2-clause-has c = has-after c.args.address c.args.mac c.args.for_us c.args.now (kept c.args.learnt.now.log.items) (kept c.make_room.new.learnt.log.items) _ (returns-in-Err-2-clause-entries c) (returns-in-Err-2-clause-teaches c)

pub returns-in-Err-2-clause-six : goal.returns-in-Err-2-clause-six
returns-in-Err-2-clause-six c six all = six-after c.args.address c.args.mac c.args.for_us c.args.now (kept c.args.learnt.now.log.items) (kept c.make_room.new.learnt.log.items) (returns-in-Err-2-clause-entries c) six all
