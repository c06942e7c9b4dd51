use Rattle.std.proofs.Common.{length, ap, ◌∙◌, refl, sym, arith}
use Rattle.timers.specs.Chains.{moments}
use Rattle.timers.specs.Steps.{with_head}
use Rattle.timers.proofs.Standing.{next_within, previous_within}
use Rattle.timers.proofs.Unlinking.{unlinked_by, moments-unlinked, IsSlot-length}
use Rattle.timers.proofs.Writing.{length-with_next}
use Rattle.timers.proofs.Changing.{unlinked-linked, unlinked-again, count_falls}
use Rattle.timers.proofs.wheel.Wheel.unlink.Goals as goal

pub set_next-requires-clause-slot : goal.set_next-requires-clause-slot
set_next-requires-clause-slot g c =
    let l = c.requires.linked in
    previous_within c.args.self.now.heads.items c.args.self.now.turns (g.S.Slots.all c.args.slots.now) l.chains l.linked c.args.slot c.args.due c.requires.set c.links-links.result.previous (ap (λ x. x.previous) (sym c.links-links.ensures.links))

pub set_previous-requires-clause-slot : goal.set_previous-requires-clause-slot
set_previous-requires-clause-slot g c =
    let l = c.requires.linked in
    let links = g.S.Slots.all c.args.slots.now in
    let old = c.links-links.result in
    let slot = next_within c.args.self.now.heads.items c.args.self.now.turns links l.chains l.linked c.args.slot c.args.due c.requires.set old.next (ap (λ x. x.next) (sym c.links-links.ensures.links)) in
    IsSlot-length links (g.S.Slots.all c.set_next.new.slots) old.next (ap length c.set_next.ensures.all ∙ length-with_next links old.previous old.next) slot

pub overflow_sub-self : goal.overflow_sub-self
overflow_sub-self g c =
    omega (arith, count_falls (g.S.Slots.all c.args.slots.now) c.args.slot c.args.due c.args.self.now.count c.requires.set c.requires.within c.requires.linked.count)

pub returns-clause-linked : goal.returns-clause-linked
returns-clause-linked g c =
    let links = g.S.Slots.all c.args.slots.now in
    let all = unlinked_by links (g.S.Slots.all c.set_next.new.slots) (g.S.Slots.all c.set_previous.new.slots) (g.S.Slots.all c.set_links.new.self) c.args.slot c.links-links.result c.unset.result c.links-links.ensures.links c.set_next.ensures.all c.set_previous.ensures.all c.unset.ensures c.set_links.ensures.all in
    unlinked-linked c.args.self.now _ links (g.S.Slots.all c.set_links.new.self) c.args.slot c.args.due c.chain_of-chain.result c.requires.linked c.requires.set c.requires.within c.chain_of-chain.ensures.chain (c.set_head.ensures ∙ ap (λ l. with_head c.args.self.now.heads.items c.chain_of-chain.result l) c.links-links.ensures.links) refl refl all

pub returns-clause-chains : goal.returns-clause-chains
returns-clause-chains g c =
    let links = g.S.Slots.all c.args.slots.now in
    let all = unlinked_by links (g.S.Slots.all c.set_next.new.slots) (g.S.Slots.all c.set_previous.new.slots) (g.S.Slots.all c.set_links.new.self) c.args.slot c.links-links.result c.unset.result c.links-links.ensures.links c.set_next.ensures.all c.set_previous.ensures.all c.unset.ensures c.set_links.ensures.all in
    let heads = c.args.self.now.heads.items in
    let turns = c.args.self.now.turns in
    let own = c.chain_of-chain.result in
    λ chains a. unlinked-again heads c.set_head.new.heads.items turns turns links (g.S.Slots.all c.set_links.new.self) chains c.args.slot c.args.due own a c.requires.set c.requires.within c.requires.linked.heads c.chain_of-chain.ensures.chain (c.set_head.ensures ∙ ap (λ l. with_head heads own l) c.links-links.ensures.links) refl all

pub returns-clause-count : goal.returns-clause-count
returns-clause-count g c =
    omega (arith, count_falls (g.S.Slots.all c.args.slots.now) c.args.slot c.args.due c.args.self.now.count c.requires.set c.requires.within c.requires.linked.count)

pub returns-clause-moments : goal.returns-clause-moments
returns-clause-moments g c =
    let links = g.S.Slots.all c.args.slots.now in
    let all = unlinked_by links (g.S.Slots.all c.set_next.new.slots) (g.S.Slots.all c.set_previous.new.slots) (g.S.Slots.all c.set_links.new.self) c.args.slot c.links-links.result c.unset.result c.links-links.ensures.links c.set_next.ensures.all c.set_previous.ensures.all c.unset.ensures c.set_links.ensures.all in
    ap moments all ∙ moments-unlinked links c.args.slot
