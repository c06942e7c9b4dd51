-- A log and its index still agree after each change of both.
use Rattle.std.proofs.Common.{◌≡◌, ◌≤◌, ◌<◌, ◌+◌, ℕ, Bool, true, false, cond, eqb, Result, Ok, Err, IfOk, IfErr, Option, Some, None, List, [], ◌∷◌, ◌++◌, length, get_or, set, take, refl, ◌∙◌, sym, ap, subst, arith}
use Rattle.std.specs.List.{insert, remove}
use Rattle.std.specs.List.Sorted.{IsSearchInRange, IsBinarySearchResult, IsNonDecreasingBy}
use Rattle.std.specs.Ordering.{nat_cmp, ordering_index}
use Rattle.std.proofs.lemmas.Bool.Decides.{nat_tests}
use Rattle.std.proofs.lemmas.Cmp.{ranked}
use Rattle.std.proofs.lemmas.List.Sorted.{IsNonDecreasingBy-from_default}
use Rattle.std.proofs.lemmas.List.{length-map, map-set, set-get_or, length-append, length-set, take-append-le, take-map, drop-map, map-append, get_or-map}
use Rattle.std.proofs.lemmas.List.Edits.{length-insert, length-remove}
use Rattle.arp.specs.declared.caches.CacheEntry.{CacheEntry}
use Rattle.arp.specs.declared.learnt.Spot.{Spot}
use Rattle.arp.specs.Neighbours.{has_entry, without}
use Rattle.arp.specs.Log.{kept, entry_addresses, spot_addresses, tally, IsRising, IsAt, IsGapFor, place_without, IsIndexed}
use Rattle.arp.proofs.Tallies.{tally-at, tally-gap, tally-insert, tally-remove, gap-remove, rising-insert, rising-remove}
use Rattle.arp.proofs.Logs.{kept-append, tally-push, length-without, tally-without, tally-out, length-out, front-clear, has-none, has-some}

pub spots-length : (i j : List Spot) → spot_addresses i ≡ spot_addresses j → length i ≡ length j
spots-length i j same = sym (length-map i (λ s. s.address.0)) ∙ ap length same ∙ length-map j (λ s. s.address.0)

pub noted : (index : List Spot) (i : ℕ) (s : Spot) → IsAt (spot_addresses index) s.address.0 i → spot_addresses (set index i s) ≡ spot_addresses index
noted index i s at = map-set (λ (t : Spot). t.address.0) index i s ∙ subst (λ a. set (spot_addresses index) i a ≡ spot_addresses index) at.is (set-get_or (spot_addresses index) i 0)

spots-insert : (index : List Spot) (i : ℕ) (s : Spot) → spot_addresses (insert index i s) ≡ insert (spot_addresses index) i s.address.0
spots-insert index i s = rw (map-append, take-map, drop-map) refl

spots-remove : (index : List Spot) (i : ℕ) → spot_addresses (remove index i) ≡ remove (spot_addresses index) i
spots-remove index i = rw (map-append, take-map, drop-map) refl

-- they agree after the log's empty places were removed
pub indexed-renumbered : (log log' : List (Option CacheEntry)) (start : ℕ) (index index' : List Spot) → IsIndexed log start index → kept log' ≡ kept log → spot_addresses index' ≡ spot_addresses index → IsIndexed log' 0 index'
indexed-renumbered log log' start index index' old entries spots = record {
  rising = subst IsRising (sym spots) old.rising;
  same = λ a. rw (entries, spots) (old.same a);
  count = rw entries (old.count ∙ sym (spots-length index' index spots));
  most = rw (spots-length index' index spots) old.most;
  within = omega arith;
  front = refl;
}

-- they agree after an entry was renewed
pub indexed-renewed : (log log' : List (Option CacheEntry)) (start : ℕ) (index index' : List Spot) (a : ℕ) (e : CacheEntry) (i : ℕ) → IsIndexed log start index → e.address.0 ≡ a → IsAt (spot_addresses index) a i → kept log' ≡ without a (kept log) → length log' ≡ length log → kept (take start log') ≡ [] → spot_addresses index' ≡ spot_addresses index → IsIndexed (log' ++ Some e ∷ []) start index'
indexed-renewed log log' start index index' a e i old named at entries len front spots = record {
  rising = subst IsRising (sym spots) old.rising;
  same = λ x. rw (kept-append, spots, entries) (tally-push x (without a (kept log)) e ∙ (rw (named, tally-without) (by x (eqb a x) refl)));
  count = rw (kept-append, entries, spots-length index' index spots) (omega (arith, length-append (without a (kept log)) (e ∷ []), length-without a (kept log), once, old.count));
  most = rw (spots-length index' index spots) old.most;
  within = omega (arith, length-append log' (Some e ∷ []), len, old.within);
  front = rw (take-append-le start log' (Some e ∷ []) (omega (arith, len, old.within))) front;
}
  where
    once : tally a (entry_addresses (kept log)) ≡ 1
    once = old.same a ∙ tally-at (spot_addresses index) old.rising a i at

    by : (x : ℕ) (b : Bool) → eqb a x ≡ b → cond b 0 (tally x (entry_addresses (kept log))) + cond b 1 0 ≡ tally x (spot_addresses index)
    by x true is = grind (arith, nat_tests, old.same x, once)
    by x false is = omega (arith, old.same x)

-- an address that is in the index is in the log once
pub indexed-once : (log : List (Option CacheEntry)) (start : ℕ) (index : List Spot) (a i : ℕ) → IsIndexed log start index → IsAt (spot_addresses index) a i → tally a (entry_addresses (kept log)) ≡ 1
indexed-once log start index a i old at = old.same a ∙ tally-at (spot_addresses index) old.rising a i at

-- an address has an entry where a search of the index finds it, and else none
pub has-known : (log : List (Option CacheEntry)) (start : ℕ) (index : List Spot) (a i : ℕ) → IsIndexed log start index → IsAt (spot_addresses index) a i → has_entry a (kept log) ≡ true
has-known log start index a i old at = has-some a (kept log) (omega (arith, indexed-once log start index a i old at))

pub has-unknown : (log : List (Option CacheEntry)) (start : ℕ) (index : List Spot) (a i : ℕ) → IsIndexed log start index → IsGapFor (spot_addresses index) a i → has_entry a (kept log) ≡ false
has-unknown log start index a i old gap = has-none a (kept log) (old.same a ∙ tally-gap (spot_addresses index) a i gap)

-- they agree after an entry of another address was added
pub indexed-added : (log : List (Option CacheEntry)) (start : ℕ) (index : List Spot) (e : CacheEntry) (s : Spot) (i : ℕ) → IsIndexed log start index → length index < 1024 → s.address.0 ≡ e.address.0 → IsGapFor (spot_addresses index) e.address.0 i → IsIndexed (log ++ Some e ∷ []) start (insert index i s)
indexed-added log start index e s i old fewer is gap = record {
  rising = rw (spots-insert, is) (rising-insert (spot_addresses index) e.address.0 i gap old.rising);
  same = λ a. rw (kept-append, spots-insert, is) (omega (arith, tally-push a (kept log) e, tally-insert a (spot_addresses index) i e.address.0, old.same a));
  count = rw kept-append (omega (arith, length-append (kept log) (e ∷ []), len, old.count));
  most = omega (arith, len, fewer);
  within = omega (arith, length-append log (Some e ∷ []), old.within);
  front = rw (take-append-le start log (Some e ∷ []) old.within) old.front;
}
  where
    len : length (insert index i s) ≡ length index + 1
    len = length-insert index i s (omega (arith, gap.within, length-map index (λ (t : Spot). t.address.0)))

-- they agree after an entry left, and no place before `first` has one
pub indexed-dropped : (log : List (Option CacheEntry)) (start first : ℕ) (index : List Spot) (e : CacheEntry) (p i : ℕ) → IsIndexed log start index → p < length log → get_or log p None ≡ Some e → first ≤ length log → kept (take first log) ≡ [] → IsAt (spot_addresses index) e.address.0 i → IsIndexed (set log p None) first (remove index i)
indexed-dropped log start first index e p i old within is most front at = record {
  rising = rw spots-remove (rising-remove (spot_addresses index) i at.within old.rising);
  same = λ a. rw spots-remove (omega (arith, subst (λ x. tally a (spot_addresses index) ≡ cond (eqb x a) 1 0 + tally a (remove (spot_addresses index) i)) at.is (tally-remove a (spot_addresses index) i at.within), tally-out a log p e within is, old.same a));
  count = omega (arith, len, length-out log p e within is, old.count);
  most = omega (arith, len, old.most);
  within = omega (arith, length-set log p None, most);
  front = front-clear first log p front;
}
  where
    len : length (remove index i) + 1 ≡ length index
    len = length-remove index i (omega (arith, at.within, length-map index (λ (t : Spot). t.address.0)))

-- they agree after an entry left and one of another address was added
pub indexed-supplanted : (log : List (Option CacheEntry)) (start first : ℕ) (index : List Spot) (old : CacheEntry) (p out : ℕ) (e : CacheEntry) (s : Spot) (at : ℕ) → IsIndexed log start index → p < length log → get_or log p None ≡ Some old → first ≤ length log → kept (take first log) ≡ [] → IsAt (spot_addresses index) old.address.0 out → s.address.0 ≡ e.address.0 → IsGapFor (spot_addresses index) e.address.0 at → IsIndexed (set log p None ++ Some e ∷ []) first (insert (remove index out) (place_without out at) s)
indexed-supplanted log start first index old p out e s at holds within is most front there named gap = indexed-added (set log p None) first (remove index out) e s (place_without out at) (indexed-dropped log start first index old p out holds within is most front there) (omega (arith, length-remove index out inside, holds.most)) named (rw spots-remove (gap-remove (spot_addresses index) e.address.0 at out gap there.within))
  where
    inside : out < length index
    inside = omega (arith, there.within, length-map index (λ (t : Spot). t.address.0))

-- a binary search of the index finds an address, or the place where it would be inserted
module _ (index : List Spot) (rising : IsRising (spot_addresses index)) (k : ℕ) where
  blank : Spot
  blank = record { address = record { 0 = 0 }; place = 0 }

  read : (i : ℕ) → i < length index → get_or (spot_addresses index) i 0 ≡ (get_or index i blank).address.0
  read i within = get_or-map (λ (s : Spot). s.address.0) index i blank 0 within

  long : length (spot_addresses index) ≡ length index
  long = length-map index (λ (s : Spot). s.address.0)

  comparisons_rise : IsNonDecreasingBy (λ s. ordering_index (nat_cmp s.address.0 k)) index
  comparisons_rise = IsNonDecreasingBy-from_default (λ s. ordering_index (nat_cmp s.address.0 k)) index blank (λ i j le within.
      let addresses_rise : (get_or index i blank).address.0 ≤ (get_or index j blank).address.0 = grind (arith, long, rising i j, read i, read j, λ (same : i ≡ j). ap (λ q. (get_or index q blank).address.0) same) in
      grind (arith, nat_tests))

  pub searched : (r : Result ℕ ℕ) → IsSearchInRange r (length index) → IsBinarySearchResult (λ s. nat_cmp s.address.0 k) index r → record { found : IfOk r (IsAt (spot_addresses index) k); absent : IfErr r (IsGapFor (spot_addresses index) k) }
  searched (Ok at) within equal = record {
    found = record { within = omega (arith, long, within); is = read at within ∙ ranked _ k _ (sym (equal blank)) };
    absent = tt;
  }
  searched (Err at) within parted = record {
    found = tt;
    absent = record {
      within = omega (arith, long, within);
      lower = λ j lt. rw (read j (omega (arith, lt, within))) (ranked _ k _ (sym ((parted comparisons_rise).0 j blank (omega arith) lt)));
      greater = λ j le lt. rw (read j (omega (arith, lt, long))) (ranked _ k _ (sym ((parted comparisons_rise).1 j blank le (omega (arith, lt, long)))));
    };
  }
