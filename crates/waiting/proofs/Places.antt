-- The invariant of the list of waiting packets.
use Rattle.std.proofs.Common.{◌≡◌, ℕ, zero, suc, ◌+◌, ◌-◌, ◌≤◌, ◌<◌, Bool, true, false, ◌||◌, not, cond, nat_lt, ap, Option, Some, None, List, [], ◌∷◌, ◌++◌, length, get_or, refl, ◌∙◌, subst, sym, arith}
use Rattle.std.specs.List.{filter, list_any, position, remove}
use Rattle.std.proofs.lemmas.Bool.{and_parts, eqb-true, ltb-true, not-true, both_ways}
use Rattle.std.proofs.lemmas.List.Filters.{length-filter_both, sum_by-filter_both}
use Rattle.std.proofs.lemmas.List.Folds.{list_any_at}
use Rattle.std.proofs.lemmas.List.Kept.{AllPairs-filter}
use Rattle.std.proofs.lemmas.List.Quantifiers.{all_pairs_push, all_pairs_remove, position-Some}
use Rattle.std.proofs.lemmas.List.Sums.{length-filter, sum_by-cons, sum_by_push}
use Rattle.nat_types.specs.declared.pairs.Endpoint.{Endpoint}
use Rattle.waiting.specs.declared.waits.WaitsFor.{WaitsFor}
use Rattle.waiting.specs.declared.waits.WaitsFor.TheVariants.{Pair, Hop}
use Rattle.waiting.specs.Waits.{is_for_host, is_for_pair, same_wait}
use Rattle.waiting.specs.Packets.{AreApart, HeldPacket, IsKept, has_place, has_room, hop_count, host_count, pair_count, with_room, without_first_hop}
use Rattle.waiting.proofs.Singles.{passes-none}

-- each packet waits for a pair or for a next hop
counts-length : (kept : List HeldPacket) → pair_count kept + hop_count kept ≡ length kept
counts-length kept =
    omega (
      arith,
      length-filter (λ (w : HeldPacket). is_for_pair w.wait) kept,
      length-filter (λ (w : HeldPacket). not (is_for_pair w.wait)) kept,
      length-filter_both (λ (w : HeldPacket). is_for_pair w.wait) (λ (w : HeldPacket). not (is_for_pair w.wait)) (λ _. refl) kept,
    )

pub length-most : (kept : List HeldPacket) → IsKept kept → length kept ≤ 128
length-most kept is = omega (arith, counts-length kept, is.pairs, is.hops)

-- ---- a place for one more

-- ---- the list without the first packet that waits for a next hop
pass-of : (b : Bool) → not b ≡ false → b ≡ true
pass-of true e = refl
pass-of false e = cc

first-hop-at : (ws : List HeldPacket) (i : ℕ) (d : HeldPacket) → i < length ws → not (is_for_pair (get_or ws i d).wait) ≡ true → ((k : ℕ) → k < i → not (is_for_pair (get_or ws k d).wait) ≡ false) → without_first_hop ws ≡ remove ws i
first-hop-at [] i d within is others = absurd (omega arith)
first-hop-at (w ∷ ws) zero d within is others = let no : is_for_pair w.wait ≡ false = not-true (is_for_pair w.wait) is in rw no refl
first-hop-at (w ∷ ws) (suc i) d within is others =
    let yes : is_for_pair w.wait ≡ true = pass-of (is_for_pair w.wait) (others 0 (omega arith)) in
    rw yes (ap (λ (vs : List HeldPacket). w ∷ vs) (first-hop-at ws i d (omega arith) is (λ k less. others (suc k) (omega arith))))

first-hop-none : (ws : List HeldPacket) → ((k : ℕ) (d : HeldPacket) → k < length ws → not (is_for_pair (get_or ws k d).wait) ≡ false) → without_first_hop ws ≡ ws
first-hop-none [] none = refl
first-hop-none (w ∷ ws) none =
    let yes : is_for_pair w.wait ≡ true = pass-of (is_for_pair w.wait) (none 0 w (omega arith)) in
    rw yes (ap (λ (vs : List HeldPacket). w ∷ vs) (first-hop-none ws (λ k d within. none (suc k) d (omega arith))))

abbrev for_hop : HeldPacket → Bool
for_hop w = not (is_for_pair w.wait)

pub dropped-at : (ws : List HeldPacket) (i : ℕ) (d : HeldPacket) → position for_hop ws ≡ Some i → without_first_hop ws ≡ remove ws i
dropped-at ws i d found =
    let known = position-Some for_hop ws i d found in
    first-hop-at ws i d known.0 known.1 known.2

pub dropped-none : (ws : List HeldPacket) → position for_hop ws ≡ None → without_first_hop ws ≡ ws
dropped-none ws none = first-hop-none ws (passes-none for_hop ws none)

-- how many packets of each kind are left
pairs-left : (ws : List HeldPacket) → pair_count (without_first_hop ws) ≡ pair_count ws
pairs-left [] = refl
pairs-left (w ∷ ws) = by (is_for_pair w.wait) refl (pairs-left ws)
  where
    f : HeldPacket → ℕ
    f v = cond (is_for_pair v.wait) 1 0

    by : (b : Bool) → is_for_pair w.wait ≡ b → pair_count (without_first_hop ws) ≡ pair_count ws → pair_count (cond b (w ∷ without_first_hop ws) ws) ≡ pair_count (w ∷ ws)
    by true is rest = omega (arith, sum_by-cons f w (without_first_hop ws), sum_by-cons f w ws, rest)
    by false is rest = omega (arith, sum_by-cons f w ws, ap {B = ℕ} (λ (t : Bool). cond t 1 0) is)

-- what waits for no pair waits for none of an inside address
no-host : (address : ℕ) (wait : WaitsFor) → is_for_pair wait ≡ false → is_for_host address wait ≡ false
no-host address (Pair endpoint) e = cc
no-host address (Hop side host) e = refl

shares-left : (address : ℕ) (ws : List HeldPacket) → host_count address (without_first_hop ws) ≡ host_count address ws
shares-left address [] = refl
shares-left address (w ∷ ws) = by (is_for_pair w.wait) refl (shares-left address ws)
  where
    f : HeldPacket → ℕ
    f v = cond (is_for_host address v.wait) 1 0

    by : (b : Bool) → is_for_pair w.wait ≡ b → host_count address (without_first_hop ws) ≡ host_count address ws → host_count address (cond b (w ∷ without_first_hop ws) ws) ≡ host_count address (w ∷ ws)
    by true is rest = omega (arith, sum_by-cons f w (without_first_hop ws), sum_by-cons f w ws, rest)
    by false is rest = omega (arith, sum_by-cons f w ws, ap {B = ℕ} (λ (t : Bool). cond t 1 0) (no-host address w.wait is))

hops-left : (ws : List HeldPacket) → hop_count (without_first_hop ws) ≡ hop_count ws - 1
hops-left [] = refl
hops-left (w ∷ ws) = by (is_for_pair w.wait) refl (hops-left ws)
  where
    f : HeldPacket → ℕ
    f v = cond (not (is_for_pair v.wait)) 1 0

    by : (b : Bool) → is_for_pair w.wait ≡ b → hop_count (without_first_hop ws) ≡ hop_count ws - 1 → hop_count (cond b (w ∷ without_first_hop ws) ws) ≡ hop_count (w ∷ ws) - 1
    by true is rest = omega (arith, sum_by-cons f w (without_first_hop ws), sum_by-cons f w ws, ap {B = ℕ} (λ (t : Bool). cond (not t) 1 0) is, rest)
    by false is rest = omega (arith, sum_by-cons f w ws, ap {B = ℕ} (λ (t : Bool). cond (not t) 1 0) is)

-- the packets that are left wait for different things, and none waits for what none waited for
apart-left : (ws : List HeldPacket) → AreApart ws → AreApart (without_first_hop ws)
apart-left [] once = once
apart-left (w ∷ ws) once = by (position for_hop (w ∷ ws)) refl
  where
    by : (o : Option ℕ) → position for_hop (w ∷ ws) ≡ o → AreApart (without_first_hop (w ∷ ws))
    by None none = rw (dropped-none (w ∷ ws) none) once
    by (Some i) found = rw (dropped-at (w ∷ ws) i w found) (all_pairs_remove (λ (a b : HeldPacket). same_wait a.wait b.wait ≡ false) (w ∷ ws) i (position-Some for_hop (w ∷ ws) i w found).0 once)

or-parts : (a b : Bool) → (a || b) ≡ false → (a ≡ false) × (b ≡ false)
or-parts true b e = cc
or-parts false b e = (refl, e)

none-left : (p : HeldPacket → Bool) (ws : List HeldPacket) → list_any p ws ≡ false → list_any p (without_first_hop ws) ≡ false
none-left p [] none = refl
none-left p (w ∷ ws) none = by (is_for_pair w.wait) (or-parts (p w) (list_any p ws) none) (none-left p ws)
  where
    by : (b : Bool) → (p w ≡ false) × (list_any p ws ≡ false) → (list_any p ws ≡ false → list_any p (without_first_hop ws) ≡ false) → list_any p (cond b (w ∷ without_first_hop ws) ws) ≡ false
    by true parts rest = rw parts.0 (rest parts.1)
    by false parts rest = parts.1

-- the list in which a place is made has the invariant, and fewer than 64 next hops
hop-room : (b : Bool) (kept : List HeldPacket) → nat_lt (hop_count kept) 64 ≡ b → IsKept kept → IsKept (cond b kept (without_first_hop kept)) × (hop_count (cond b kept (without_first_hop kept)) < 64)
hop-room true kept few is = (is, ltb-true _ _ few)
hop-room false kept many is = (
  record {
    pairs = omega (arith, pairs-left kept, is.pairs);
    shares = λ address. omega (arith, shares-left address kept, is.shares address);
    hops = omega (arith, hops-left kept, is.hops);
    once = apart-left kept is.once;
  },
  omega (arith, hops-left kept, is.hops),
)

pub room-kept : (wait : WaitsFor) (kept : List HeldPacket) → IsKept kept → IsKept (with_room wait kept)
room-kept (Pair endpoint) kept is = is
room-kept (Hop side host) kept is = (hop-room (nat_lt (hop_count kept) 64) kept refl is).0

none-in-room : (wait : WaitsFor) (p : HeldPacket → Bool) (kept : List HeldPacket) → list_any p kept ≡ false → list_any p (with_room wait kept) ≡ false
none-in-room (Pair endpoint) p kept none = none
none-in-room (Hop side host) p kept none = by (nat_lt (hop_count kept) 64)
  where
    by : (b : Bool) → list_any p (cond b kept (without_first_hop kept)) ≡ false
    by true = none
    by false = none-left p kept none

-- where a pair has a place, fewer than 64 packets wait for pairs, and fewer than 16 of its inside address
pair-room : (kept : List HeldPacket) (endpoint : Endpoint) → has_place kept (Pair endpoint) ≡ true → (pair_count kept < 64) × (host_count endpoint.address.0 kept < 16)
pair-room kept endpoint place =
    let test : Bool = list_any (λ (w : HeldPacket). same_wait w.wait (Pair endpoint)) kept in
    let room = (and_parts (has_room (Pair endpoint) kept) (not test) place).0 in
    let both = and_parts (nat_lt (pair_count kept) 64) (nat_lt (host_count endpoint.address.0 kept) 16) room in
    (ltb-true _ _ both.0, ltb-true _ _ both.1)

pair-few : (kept : List HeldPacket) (endpoint : Endpoint) → has_place kept (Pair endpoint) ≡ true → pair_count kept < 64
pair-few kept endpoint place = (pair-room kept endpoint place).0

pub place-room : (kept : List HeldPacket) (wait : WaitsFor) → IsKept kept → has_place kept wait ≡ true → length (with_room wait kept) < 128
place-room kept (Pair endpoint) is place = omega (arith, counts-length kept, pair-few kept endpoint place, is.hops)
place-room kept (Hop side host) is place =
    let room = hop-room (nat_lt (hop_count kept) 64) kept refl is in
    omega (arith, counts-length (with_room (Hop side host) kept), room.1, room.0.pairs)

-- where a wait has a place, no packet waits for the same
apart : (kept : List HeldPacket) (wait : WaitsFor) → has_place kept wait ≡ true → (k : ℕ) (d : HeldPacket) → k < length (with_room wait kept) → same_wait (get_or (with_room wait kept) k d).wait wait ≡ false
apart kept wait place k d within = go (same_wait (get_or (with_room wait kept) k d).wait wait) refl
  where
    none : list_any (λ (w : HeldPacket). same_wait w.wait wait) (with_room wait kept) ≡ false
    none =
        let test : Bool = list_any (λ (w : HeldPacket). same_wait w.wait wait) kept in
        none-in-room wait (λ (w : HeldPacket). same_wait w.wait wait) kept (not-true test (and_parts (has_room wait kept) (not test) place).1)

    go : (b : Bool) → same_wait (get_or (with_room wait kept) k d).wait wait ≡ b → same_wait (get_or (with_room wait kept) k d).wait wait ≡ false
    go false isnt = isnt
    go true is = absurd (both_ways _ none (list_any_at (λ (w : HeldPacket). same_wait w.wait wait) (with_room wait kept) k d within is))

counts-push : (kept : List HeldPacket) (w : HeldPacket) (wait : WaitsFor) → w.wait ≡ wait → has_place kept wait ≡ true → IsKept kept → (pair_count (with_room wait kept ++ w ∷ []) ≤ 64) × (hop_count (with_room wait kept ++ w ∷ []) ≤ 64)
counts-push kept w (Pair endpoint) for place is =
    let pair : is_for_pair w.wait ≡ true = ap is_for_pair for in
    let p = sum_by_push (λ (v : HeldPacket). cond (is_for_pair v.wait) 1 0) kept w in
    let h = sum_by_push (λ (v : HeldPacket). cond (not (is_for_pair v.wait)) 1 0) kept w in
    (omega (arith, rw pair at p, pair-few kept endpoint place), omega (arith, rw pair at h, is.hops))
counts-push kept w (Hop side host) for place is =
    let hop : is_for_pair w.wait ≡ false = ap is_for_pair for in
    let room = hop-room (nat_lt (hop_count kept) 64) kept refl is in
    let p = sum_by_push (λ (v : HeldPacket). cond (is_for_pair v.wait) 1 0) (with_room (Hop side host) kept) w in
    let h = sum_by_push (λ (v : HeldPacket). cond (not (is_for_pair v.wait)) 1 0) (with_room (Hop side host) kept) w in
    (omega (arith, rw hop at p, room.0.pairs), omega (arith, rw hop at h, room.1))

-- at most 16 of an inside address wait for pairs, with one more
shares-push : (kept : List HeldPacket) (w : HeldPacket) (wait : WaitsFor) → w.wait ≡ wait → has_place kept wait ≡ true → IsKept kept → (address : ℕ) → host_count address (with_room wait kept ++ w ∷ []) ≤ 16
shares-push kept w (Pair endpoint) for place is address = by (is_for_host address w.wait) refl
  where
    f : HeldPacket → ℕ
    f v = cond (is_for_host address v.wait) 1 0

    by : (b : Bool) → is_for_host address w.wait ≡ b → host_count address (kept ++ w ∷ []) ≤ 16
    by true is_of =
        let same : endpoint.address.0 ≡ address = eqb-true _ _ (ap (is_for_host address) (sym for) ∙ is_of) in
        let few : host_count address kept < 16 = subst (λ (a : ℕ). host_count a kept < 16) same (pair-room kept endpoint place).1 in
        omega (arith, rw is_of at (sum_by_push f kept w), few)
    by false isnt = omega (arith, rw isnt at (sum_by_push f kept w), is.shares address)
shares-push kept w (Hop side host) for place is address =
    let none : is_for_host address w.wait ≡ false = ap (is_for_host address) for in
    let room = hop-room (nat_lt (hop_count kept) 64) kept refl is in
    let p = sum_by_push (λ (v : HeldPacket). cond (is_for_host address v.wait) 1 0) (with_room (Hop side host) kept) w in
    omega (arith, rw none at p, room.0.shares address)

-- the invariant holds with one more packet, where it has a place
pub kept-push : (kept : List HeldPacket) (w : HeldPacket) → IsKept kept → has_place kept w.wait ≡ true → IsKept (with_room w.wait kept ++ w ∷ [])
kept-push kept w is place =
    let counts = counts-push kept w w.wait refl place is in
    record {
      pairs = counts.0;
      shares = shares-push kept w w.wait refl place is;
      hops = counts.1;
      once = all_pairs_push (λ (a b : HeldPacket). same_wait a.wait b.wait ≡ false) (with_room w.wait kept) w (room-kept w.wait kept is).once (apart kept w.wait place);
    }

-- the invariant holds of some of the packets
pub kept-filter : (p : HeldPacket → Bool) (kept : List HeldPacket) → IsKept kept → IsKept (filter p kept)
kept-filter p kept is = record {
  pairs = omega (arith, sum_by-filter_both p (λ (w : HeldPacket). not (p w)) (λ _. refl) (λ (w : HeldPacket). cond (is_for_pair w.wait) 1 0) kept, is.pairs);
  shares = λ address. omega (arith, sum_by-filter_both p (λ (w : HeldPacket). not (p w)) (λ _. refl) (λ (w : HeldPacket). cond (is_for_host address w.wait) 1 0) kept, is.shares address);
  hops = omega (arith, sum_by-filter_both p (λ (w : HeldPacket). not (p w)) (λ _. refl) (λ (w : HeldPacket). cond (not (is_for_pair w.wait)) 1 0) kept, is.hops);
  once = AllPairs-filter (λ (a b : HeldPacket). same_wait a.wait b.wait ≡ false) p kept is.once;
}
