use Rattle.std.proofs.Common.{◌≡◌, ◌+◌, ◌≤◌, length, not, refl, ap, sym, ◌∙◌, arith, length-append}
use Rattle.waiting.specs.Waits.{ends, is_for_pair}
use Rattle.waiting.specs.declared.waits.Ended.TheVariants.{AllPairs}
use Rattle.waiting.specs.Packets.{HeldPacket, ended_by, left_by, pair_count}
use Rattle.std.proofs.lemmas.List.Sums.{length-filter}
use Rattle.std.proofs.lemmas.List.Elements.{filter_passes}
use Rattle.std.proofs.lemmas.List.Filters.{length-filter_both}
use Rattle.waiting.proofs.Octets.{split-octets}
use Rattle.waiting.proofs.Places.{kept-filter}
use Rattle.waiting.proofs.list.WaitingPackets.take_ended.Goals as goal

pub invariant_of-self : goal.invariant_of-self
invariant_of-self c =
    (rw c.move_ended.ensures.left (kept-filter (λ (w : HeldPacket). not (ends c.args.ended w.wait)) c.self.inside.packets.items c.self.invariant.0), omega (arith, c.self.invariant.1, c.move_ended.ensures.capacity))

pub returns-clause-gone : goal.returns-clause-gone
returns-clause-gone c = rw c.move_ended.ensures.left (filter_passes (λ (w : HeldPacket). not (ends c.args.ended w.wait)) c.self.inside.packets.items)

pub returns-clause-count : goal.returns-clause-count
returns-clause-count c =
    let all = c.self.inside.packets.items in
    let off : length c.move_ended.new.list.items ≡ length c.args.list.now.items + length (ended_by c.args.ended all) =
    ap length c.move_ended.ensures.taken ∙ length-append c.args.list.now.items (ended_by c.args.ended all) in
    let stay : length c.move_ended.new.packets.items ≡ length (left_by c.args.ended all) = ap length c.move_ended.ensures.left in
    let whole = length-filter_both (λ (w : HeldPacket). ends c.args.ended w.wait) (λ (w : HeldPacket). not (ends c.args.ended w.wait)) (λ w. refl) all in
    let seen : length c.args.self.now ≡ length all = ap length (sym c.self.view_is) in
    omega (arith, off, stay, whole, seen, c.move_ended.new.list.ok, c.args.list.now.ok)

pub returns-clause-pairs : goal.returns-clause-pairs
returns-clause-pairs c =
    let all = c.self.inside.packets.items in
    let count : length (ended_by AllPairs all) ≡ pair_count all = length-filter (λ (w : HeldPacket). is_for_pair w.wait) all in
    let few : length (ended_by AllPairs all) ≤ 64 = omega (arith, count, c.self.invariant.0.pairs) in
    rw (← c.self.view_is) few

pub returns-clause-octets : goal.returns-clause-octets
returns-clause-octets c = rw (c.move_ended.ensures.left, ← c.self.view_is) (split-octets c.args.ended c.self.inside.packets.items)
