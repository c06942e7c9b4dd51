-- The octets of the packets that wait.
use Rattle.std.proofs.Common.{◌≡◌, ℕ, ◌+◌, ◌≤◌, Bool, true, false, cond, not, nat_lt, List, [], ◌∷◌, ◌++◌, length, refl, arith}
use Rattle.std.specs.List.{filter}
use Rattle.std.proofs.lemmas.List.Filters.{sum_by-filter_both}
use Rattle.std.proofs.lemmas.List.Sums.{sum_by-cons, sum_by_push}
use Rattle.waiting.specs.declared.waits.Ended.{Ended}
use Rattle.waiting.specs.declared.waits.WaitsFor.{WaitsFor}
use Rattle.waiting.specs.declared.waits.WaitsFor.TheVariants.{Pair, Hop}
use Rattle.waiting.specs.Waits.{ends, is_for_pair}
use Rattle.waiting.specs.Packets.{HeldPacket, beyond, ended_by, hop_count, left_by, octets_in, with_asked, with_room, without_first_hop}
use Rattle.waiting.proofs.Asked.{sum-asked}

-- the octets of one packet
abbrev octets : HeldPacket → ℕ
octets w = beyond (length w.bytes)

dropped-less : (ws : List HeldPacket) → octets_in (without_first_hop ws) ≤ octets_in ws
dropped-less [] = omega arith
dropped-less (w ∷ ws) = by (is_for_pair w.wait) (dropped-less ws)
  where
    by : (b : Bool) → octets_in (without_first_hop ws) ≤ octets_in ws → octets_in (cond b (w ∷ without_first_hop ws) ws) ≤ octets_in (w ∷ ws)
    by true rest = omega (arith, sum_by-cons octets w (without_first_hop ws), sum_by-cons octets w ws, rest)
    by false rest = omega (arith, sum_by-cons octets w ws)

-- where a packet is dropped to make a place, the octets aren't more
room-less : (wait : WaitsFor) (kept : List HeldPacket) → octets_in (with_room wait kept) ≤ octets_in kept
room-less (Pair endpoint) kept = omega arith
room-less (Hop side host) kept = by (nat_lt (hop_count kept) 64)
  where
    by : (b : Bool) → octets_in (cond b kept (without_first_hop kept)) ≤ octets_in kept
    by true = omega arith
    by false = dropped-less kept

-- one more packet adds no more than its own
pub kept-octets : (kept : List HeldPacket) (w : HeldPacket) (wait : WaitsFor) → octets_in (with_room wait kept ++ w ∷ []) ≤ octets_in kept + beyond (length w.bytes)
kept-octets kept w wait = omega (arith, sum_by_push octets (with_room wait kept) w, room-less wait kept)

-- the octets of the packets whose wait is over, and of the others
pub split-octets : (ended : Ended) (kept : List HeldPacket) → octets_in (left_by ended kept) + octets_in (ended_by ended kept) ≡ octets_in kept
split-octets ended kept =
    omega (arith, sum_by-filter_both (λ (w : HeldPacket). ends ended w.wait) (λ (w : HeldPacket). not (ends ended w.wait)) (λ _. refl) octets kept)

pub fewer-octets : (p : HeldPacket → Bool) (kept : List HeldPacket) → octets_in (filter p kept) ≤ octets_in kept
fewer-octets p kept = omega (arith, sum_by-filter_both p (λ (w : HeldPacket). not (p w)) (λ _. refl) octets kept)

pub asked-octets : (now : ℕ) (wait : WaitsFor) (kept : List HeldPacket) → octets_in (with_asked now wait kept) ≡ octets_in kept
asked-octets now wait kept = sum-asked octets (λ w n. refl) now wait kept
