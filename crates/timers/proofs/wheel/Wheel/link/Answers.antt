use Rattle.std.proofs.Common.{◌<◌, None, length, slice_set, ap, ◌∙◌, refl, sym, arith}
use Rattle.std.proofs.lemmas.List.{get_or_read, length-map}
use Rattle.timers.specs.Due.{set_count}
use Rattle.timers.specs.Chains.{moments}
use Rattle.timers.proofs.Standing.{head_is_slot, slot-below}
use Rattle.timers.proofs.Counting.{moment_of, count-set, count-le}
use Rattle.timers.proofs.Linking.{put_before, first_links, moments-put_before, length-put_before}
use Rattle.timers.proofs.Changing.{put-linked}
use Rattle.timers.proofs.wheel.Wheel.link.Goals as goal

pub set_previous-requires-clause-slot : goal.set_previous-requires-clause-slot
set_previous-requires-clause-slot g c =
    let l = c.requires.linked in
    let first = get_or_read c.args.self.now.heads.items c.chain_of-chain.result c.index-next.result.now (omega (arith, l.heads)) c.index-next.ensures None in
    head_is_slot c.args.self.now.heads.items c.args.self.now.turns (g.S.Slots.all c.args.slots.now) l.chains l.linked c.chain_of-chain.result c.index-next.result.now (sym first)

pub set_links-requires-clause-next : goal.set_links-requires-clause-next
set_links-requires-clause-next g c =
    let l = c.requires.linked in
    let links = g.S.Slots.all c.args.slots.now in
    let first = get_or_read c.args.self.now.heads.items c.chain_of-chain.result c.index-next.result.now (omega (arith, l.heads)) c.index-next.ensures None in
    slot-below links (g.S.Slots.limit) c.index-next.result.now c.recall.ensures (head_is_slot c.args.self.now.heads.items c.args.self.now.turns links l.chains l.linked c.chain_of-chain.result c.index-next.result.now (sym first))

pub overflow_add-self : goal.overflow_add-self
overflow_add-self g c =
    let links = g.S.Slots.all c.args.slots.now in
    let at = c.index-next.result.now in
    let sized : c.args.slot < length (moments links) = omega (arith, length-map links (λ x. x.due), c.requires.within) in
    let grown = count-set (moments links) c.args.slot c.args.due sized (moment_of links c.args.slot ∙ c.requires.unset) in
    let fits = count-le (put_before links at c.args.slot c.args.due) in
    let moved = ap set_count (moments-put_before links at c.args.slot c.args.due) in
    omega (arith, grown, fits, moved, c.requires.linked.count, c.requires.linked.room, length-put_before links at c.args.slot c.args.due)

pub returns-clause-linked : goal.returns-clause-linked
returns-clause-linked g c =
    let l = c.requires.linked in
    let first = get_or_read c.args.self.now.heads.items c.chain_of-chain.result c.index-next.result.now (omega (arith, l.heads)) c.index-next.ensures None in
    let links = g.S.Slots.all c.args.slots.now in
    let at = c.index-next.result.now in
    put-linked c.args.self.now _ links (g.S.Slots.all c.set_links.new.self) c.args.slot c.args.due c.chain_of-chain.result at l c.requires.unset c.requires.within c.chain_of-chain.ensures.chain first refl refl refl (c.set_links.ensures.all ∙ ap (λ ls. slice_set ls c.args.slot (first_links at c.args.due)) c.set_previous.ensures.all)

pub returns-clause-moments : goal.returns-clause-moments
returns-clause-moments g c =
    let at = c.index-next.result.now in
    ap moments (c.set_links.ensures.all ∙ ap (λ ls. slice_set ls c.args.slot (first_links at c.args.due)) c.set_previous.ensures.all) ∙ moments-put_before (g.S.Slots.all c.args.slots.now) at c.args.slot c.args.due
