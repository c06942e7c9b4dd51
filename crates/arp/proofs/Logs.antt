-- The entries of a log after a place is emptied or an entry is appended, and the entry that leaves a full cache.
use Rattle.std.proofs.Common.{◌≡◌, ◌≤◌, ◌<◌, ◌+◌, ℕ, zero, suc, Bool, true, false, ◌&&◌, ◌||◌, not, cond, eqb, Option, Some, None, MatchOption, IfSome, List, [], ◌∷◌, ◌++◌, length, drop, get_or, set, take, refl, ◌∙◌, sym, ap, arith}
use Rattle.std.proofs.lemmas.Bool.{eqb-true}
use Rattle.std.proofs.lemmas.Bool.Decides.{nat_tests}
use Rattle.std.proofs.lemmas.List.{map-append, take_more}
use Rattle.std.proofs.lemmas.List.Folds.{list_all-append}
use Rattle.std.specs.List.{filter}
use Rattle.std.specs.Prelude.{is_some}
use Rattle.arp.specs.declared.caches.CacheEntry.{CacheEntry}
use Rattle.arp.specs.Neighbours.{all_sent, entries_of, has_entry, learnt_mac, without, without_unsent}
use Rattle.arp.specs.Log.{kept, is_of, valid_mac, entry_addresses, tally, IsFirst, IsFirstUnsent, IsLeaving, IsPlaceOf}
use Rattle.arp.proofs.Tallies.{tally-append}

pub kept-append : (xs ys : List (Option CacheEntry)) → kept (xs ++ ys) ≡ kept xs ++ kept ys
kept-append [] ys = refl
kept-append (None ∷ xs) ys = kept-append xs ys
kept-append (Some e ∷ xs) ys = ap (λ es. e ∷ es) (kept-append xs ys)

pub tally-push : (x : ℕ) (es : List CacheEntry) (e : CacheEntry) → tally x (entry_addresses (es ++ e ∷ [])) ≡ tally x (entry_addresses es) + cond (eqb e.address.0 x) 1 0
tally-push x [] e = omega arith
tally-push x (d ∷ es) e = omega (arith, tally-push x es e)

-- a list in which an address isn't is the same without that address
pub without-none : (a : ℕ) (es : List CacheEntry) → tally a (entry_addresses es) ≡ 0 → without a es ≡ es
without-none a [] none = refl
without-none a (e ∷ es) none = by (eqb e.address.0 a) none (without-none a es)
  where
    by : (b : Bool) → cond b 1 0 + tally a (entry_addresses es) ≡ 0 → (tally a (entry_addresses es) ≡ 0 → without a es ≡ es) → cond (not b) (e ∷ without a es) (without a es) ≡ e ∷ es
    by true none rest = absurd (omega (arith, none))
    by false none rest = ap (λ es. e ∷ es) (rest (omega (arith, none)))

pub length-without : (a : ℕ) (es : List CacheEntry) → length (without a es) + tally a (entry_addresses es) ≡ length es
length-without a [] = refl
length-without a (e ∷ es) = by (eqb e.address.0 a) (length-without a es)
  where
    by : (b : Bool) → length (without a es) + tally a (entry_addresses es) ≡ length es → length (cond (not b) (e ∷ without a es) (without a es)) + (cond b 1 0 + tally a (entry_addresses es)) ≡ suc (length es)
    by true rest = omega (arith, rest)
    by false rest = omega (arith, rest)

pub tally-without : (x a : ℕ) (es : List CacheEntry) → tally x (entry_addresses (without a es)) ≡ cond (eqb a x) 0 (tally x (entry_addresses es))
tally-without x a [] = grind arith
tally-without x a (e ∷ es) = by (eqb e.address.0 a) refl (tally-without x a es)
  where
    by : (b : Bool) → eqb e.address.0 a ≡ b → tally x (entry_addresses (without a es)) ≡ cond (eqb a x) 0 (tally x (entry_addresses es)) → tally x (entry_addresses (cond (not b) (e ∷ without a es) (without a es))) ≡ cond (eqb a x) 0 (cond (eqb e.address.0 x) 1 0 + tally x (entry_addresses es))
    by true is rest = grind (arith, nat_tests)
    by false is rest = grind (arith, nat_tests)

-- an address that has a place in a log is in it once at least
pub tally-place : (a : ℕ) (log : List (Option CacheEntry)) (i : ℕ) → IsPlaceOf a log i → 1 ≤ tally a (entry_addresses (kept log))
tally-place a [] i at = absurd (omega (arith, at.within))
tally-place a (None ∷ log) zero at = cc
tally-place a (Some e ∷ log) zero at = let is : eqb e.address.0 a ≡ true = at.is in grind (arith, is)
tally-place a (None ∷ log) (suc i) at = tally-place a log i (record { within = omega (arith, at.within); is = at.is })
tally-place a (Some e ∷ log) (suc i) at = omega (arith, tally-place a log i (record { within = omega (arith, at.within); is = at.is }))

-- a log whose place of an address is emptied has all entries but that of the address
pub kept-clear : (a : ℕ) (log : List (Option CacheEntry)) (i : ℕ) → IsPlaceOf a log i → tally a (entry_addresses (kept log)) ≤ 1 → kept (set log i None) ≡ without a (kept log)
kept-clear a [] i at once = absurd (omega (arith, at.within))
kept-clear a (None ∷ log) zero at once = cc
kept-clear a (Some e ∷ log) zero at once = by (eqb e.address.0 a) at.is once
  where
    by : (b : Bool) → b ≡ true → cond b 1 0 + tally a (entry_addresses (kept log)) ≤ 1 → kept log ≡ cond (not b) (e ∷ without a (kept log)) (without a (kept log))
    by true is once = sym (without-none a (kept log) (omega (arith, once)))
    by false is once = cc
kept-clear a (None ∷ log) (suc i) at once = kept-clear a log i (record { within = omega (arith, at.within); is = at.is }) once
kept-clear a (Some e ∷ log) (suc i) at once = by (eqb e.address.0 a) once (tally-place a log i there) (kept-clear a log i there)
  where
    there : IsPlaceOf a log i
    there = record { within = omega (arith, at.within); is = at.is }

    by : (b : Bool) → cond b 1 0 + tally a (entry_addresses (kept log)) ≤ 1 → 1 ≤ tally a (entry_addresses (kept log)) → (tally a (entry_addresses (kept log)) ≤ 1 → kept (set log i None) ≡ without a (kept log)) → e ∷ kept (set log i None) ≡ cond (not b) (e ∷ without a (kept log)) (without a (kept log))
    by true once one rest = absurd (omega (arith, once, one))
    by false once one rest = ap (λ es. e ∷ es) (rest (omega (arith, once)))

-- the entries of an address that isn't in the list, and of one that has a place in a log
pub entries-none : (a : ℕ) (es : List CacheEntry) → tally a (entry_addresses es) ≡ 0 → entries_of a es ≡ []
entries-none a [] none = refl
entries-none a (e ∷ es) none = by (eqb e.address.0 a) none (entries-none a es)
  where
    by : (b : Bool) → cond b 1 0 + tally a (entry_addresses es) ≡ 0 → (tally a (entry_addresses es) ≡ 0 → entries_of a es ≡ []) → (let ds : List CacheEntry = cond b (e ∷ entries_of a es) (entries_of a es) in ds) ≡ []
    by true none rest = absurd (omega (arith, none))
    by false none rest = rest (omega (arith, none))

pub entries-place : (a : ℕ) (log : List (Option CacheEntry)) (i : ℕ) → IsPlaceOf a log i → tally a (entry_addresses (kept log)) ≤ 1 → entries_of a (kept log) ≡ kept (get_or log i None ∷ [])
entries-place a [] i at once = absurd (omega (arith, at.within))
entries-place a (None ∷ log) zero at once = cc
entries-place a (Some e ∷ log) zero at once = by (eqb e.address.0 a) at.is once
  where
    by : (b : Bool) → b ≡ true → cond b 1 0 + tally a (entry_addresses (kept log)) ≤ 1 → (let ds : List CacheEntry = cond b (e ∷ entries_of a (kept log)) (entries_of a (kept log)) in ds) ≡ e ∷ []
    by true is once = ap (λ (ds : List CacheEntry). e ∷ ds) (entries-none a (kept log) (omega (arith, once)))
    by false is once = cc
entries-place a (None ∷ log) (suc i) at once = entries-place a log i (record { within = omega (arith, at.within); is = at.is }) once
entries-place a (Some e ∷ log) (suc i) at once = by (eqb e.address.0 a) once (tally-place a log i there) (entries-place a log i there)
  where
    there : IsPlaceOf a log i
    there = record { within = omega (arith, at.within); is = at.is }

    by : (b : Bool) → cond b 1 0 + tally a (entry_addresses (kept log)) ≤ 1 → 1 ≤ tally a (entry_addresses (kept log)) → (tally a (entry_addresses (kept log)) ≤ 1 → entries_of a (kept log) ≡ kept (get_or log i None ∷ [])) → (let ds : List CacheEntry = cond b (e ∷ entries_of a (kept log)) (entries_of a (kept log)) in ds) ≡ kept (get_or log i None ∷ [])
    by true once one rest = absurd (omega (arith, once, one))
    by false once one rest = rest (omega (arith, once))

-- what is in the place of an address is its only entry
pub entry-taken : (a : ℕ) (log : List (Option CacheEntry)) (i : ℕ) → IsPlaceOf a log i → tally a (entry_addresses (kept log)) ≤ 1 → MatchOption (get_or log i None) (tally a (entry_addresses (kept log)) ≡ 0) (λ e. entries_of a (kept log) ≡ e ∷ []) × IfSome (get_or log i None) (λ (e : CacheEntry). e.address.0 ≡ a)
entry-taken a log i at once = by (get_or log i None) at.is (entries-place a log i at once)
  where
    by : (p : Option CacheEntry) → is_of a p ≡ true → entries_of a (kept log) ≡ kept (p ∷ []) → MatchOption p (tally a (entry_addresses (kept log)) ≡ 0) (λ e. entries_of a (kept log) ≡ e ∷ []) × IfSome p (λ (e : CacheEntry). e.address.0 ≡ a)
    by None is same = cc
    by (Some e) is same = (same, eqb-true e.address.0 a is)

-- an address has an entry exactly where it is in the list
pub has-none : (a : ℕ) (es : List CacheEntry) → tally a (entry_addresses es) ≡ 0 → has_entry a es ≡ false
has-none a [] none = refl
has-none a (e ∷ es) none = by (eqb e.address.0 a) none (has-none a es)
  where
    by : (b : Bool) → cond b 1 0 + tally a (entry_addresses es) ≡ 0 → (tally a (entry_addresses es) ≡ 0 → has_entry a es ≡ false) → (b || has_entry a es) ≡ false
    by true none rest = absurd (omega (arith, none))
    by false none rest = rest (omega (arith, none))

pub has-some : (a : ℕ) (es : List CacheEntry) → 1 ≤ tally a (entry_addresses es) → has_entry a es ≡ true
has-some a [] one = absurd (omega (arith, one))
has-some a (e ∷ es) one = by (eqb e.address.0 a) one (has-some a es)
  where
    by : (b : Bool) → 1 ≤ cond b 1 0 + tally a (entry_addresses es) → (1 ≤ tally a (entry_addresses es) → has_entry a es ≡ true) → (b || has_entry a es) ≡ true
    by true one rest = refl
    by false one rest = rest (omega (arith, one))

pub front-clear : (n : ℕ) (log : List (Option CacheEntry)) (i : ℕ) → kept (take n log) ≡ [] → kept (take n (set log i None)) ≡ []
front-clear zero log i front = refl
front-clear (suc n) [] i front = refl
front-clear (suc n) (None ∷ log) zero front = front
front-clear (suc n) (Some e ∷ log) i front = cc
front-clear (suc n) (None ∷ log) (suc i) front = front-clear n log i front

-- the entries of a log are its first one, and those of the log whose first entry's place is emptied
pub kept-first : (log : List (Option CacheEntry)) (i : ℕ) (e : CacheEntry) → i < length log → get_or log i None ≡ Some e → kept (take i log) ≡ [] → kept log ≡ e ∷ kept (set log i None)
kept-first [] i e within is front = absurd (omega (arith, within))
kept-first (None ∷ log) zero e within is front = cc
kept-first (Some d ∷ log) zero e within is front = let same : d ≡ e = cc in ap (λ x. x ∷ kept log) same
kept-first (None ∷ log) (suc i) e within is front = kept-first log i e (omega (arith, within)) is front
kept-first (Some d ∷ log) (suc i) e within is front = cc

-- once the place of an entry is emptied its address is in the log once less, and the log has one entry less
pub tally-out : (x : ℕ) (log : List (Option CacheEntry)) (i : ℕ) (e : CacheEntry) → i < length log → get_or log i None ≡ Some e → tally x (entry_addresses (kept log)) ≡ cond (eqb e.address.0 x) 1 0 + tally x (entry_addresses (kept (set log i None)))
tally-out x [] i e within is = absurd (omega (arith, within))
tally-out x (None ∷ log) zero e within is = cc
tally-out x (Some d ∷ log) zero e within is = let same : d ≡ e = cc in ap (λ (c : CacheEntry). cond (eqb c.address.0 x) 1 0 + tally x (entry_addresses (kept log))) same
tally-out x (None ∷ log) (suc i) e within is = tally-out x log i e (omega (arith, within)) is
tally-out x (Some d ∷ log) (suc i) e within is = omega (arith, tally-out x log i e (omega (arith, within)) is)

pub length-out : (log : List (Option CacheEntry)) (i : ℕ) (e : CacheEntry) → i < length log → get_or log i None ≡ Some e → length (kept log) ≡ suc (length (kept (set log i None)))
length-out [] i e within is = absurd (omega (arith, within))
length-out (None ∷ log) zero e within is = cc
length-out (Some d ∷ log) zero e within is = refl
length-out (None ∷ log) (suc i) e within is = length-out log i e (omega (arith, within)) is
length-out (Some d ∷ log) (suc i) e within is = ap suc (length-out log i e (omega (arith, within)) is)

-- the first entry by which no packet was sent leaves, and where there is none the first of all
pub true-both : (a b : Bool) → (a && b) ≡ true → (a ≡ true) × (b ≡ true)
true-both true b both = (refl, both)
true-both false b both = cc

kept-unsent : (log : List (Option CacheEntry)) (i : ℕ) (e : CacheEntry) → IsFirstUnsent log i e → (all_sent (kept log) ≡ false) × (kept (set log i None) ≡ without_unsent (kept log))
kept-unsent [] i e first = absurd (omega (arith, first.within))
kept-unsent (None ∷ log) zero e first = absurd (let is = first.is in cc)
kept-unsent (Some d ∷ log) zero e first =
    let is = first.is in
    let same : d ≡ e = cc in
    by d.sent (ap (λ (c : CacheEntry). c.sent) same ∙ first.unsent)
  where
    by : (b : Bool) → b ≡ false → ((b && all_sent (kept log)) ≡ false) × (kept log ≡ cond b (d ∷ without_unsent (kept log)) (kept log))
    by true is = absurd (cc)
    by false is = (refl, refl)
kept-unsent (None ∷ log) (suc i) e first = kept-unsent log i e (record { within = omega (arith, first.within); is = first.is; unsent = first.unsent; before = first.before })
kept-unsent (Some d ∷ log) (suc i) e first = by d.sent before.0 (kept-unsent log i e (record { within = omega (arith, first.within); is = first.is; unsent = first.unsent; before = before.1 }))
  where
    before : (d.sent ≡ true) × (all_sent (kept (take i log)) ≡ true)
    before = true-both d.sent (all_sent (kept (take i log))) first.before

    by : (b : Bool) → b ≡ true → (all_sent (kept log) ≡ false) × (kept (set log i None) ≡ without_unsent (kept log)) → ((b && all_sent (kept log)) ≡ false) × (d ∷ kept (set log i None) ≡ cond b (d ∷ without_unsent (kept log)) (kept log))
    by true is rest = (rest.0, ap (λ (ds : List CacheEntry). d ∷ ds) rest.1)
    by false is rest = absurd (cc)

pub unsent-leaves : (log : List (Option CacheEntry)) (i : ℕ) (e : CacheEntry) → IsFirstUnsent log i e → IsLeaving log i e
unsent-leaves log i e first =
    let found = kept-unsent log i e first in
    record { within = first.within; is = first.is; rest = rw found.0 found.1 }

pub first-leaves : (log : List (Option CacheEntry)) (i : ℕ) (e : CacheEntry) → all_sent (kept log) ≡ true → IsFirst log i e → IsLeaving log i e
first-leaves log i e all first = record {
  within = first.within;
  is = first.is;
  rest = rw all (sym (ap (drop 1) (kept-first log i e first.within first.is first.before)));
}

-- a search that goes on by a place without such an entry has still found none
pub before-more : (log : List (Option CacheEntry)) (i : ℕ) → i < length log → all_sent (kept (take i log)) ≡ true → all_sent (kept (get_or log i None ∷ [])) ≡ true → all_sent (kept (take (i + 1) log)) ≡ true
before-more log i within none other = rw (take_more log i None within, kept-append, list_all-append, none) other

-- no hardware address is found for an address that isn't in the log
pub mac-none : (a now : ℕ) (es : List CacheEntry) → tally a (entry_addresses es) ≡ 0 → learnt_mac a now es ≡ None
mac-none a now [] none = refl
mac-none a now (e ∷ es) none = grind (arith, nat_tests, mac-none a now es (omega (arith, none)))

pub mac-place : (a now : ℕ) (log : List (Option CacheEntry)) (i : ℕ) → IsPlaceOf a log i → tally a (entry_addresses (kept log)) ≤ 1 → valid_mac now (get_or log i None) ≡ learnt_mac a now (kept log)
mac-place a now [] i at once = absurd (omega (arith, at.within))
mac-place a now (None ∷ log) zero at once = cc
mac-place a now (Some e ∷ log) zero at once =
    let is : eqb e.address.0 a ≡ true = at.is in
    let rest : tally a (entry_addresses (kept log)) ≡ 0 = grind (arith, is, once) in
    rw (is, mac-none a now (kept log) rest) refl
mac-place a now (None ∷ log) (suc i) at once = mac-place a now log i (record { within = omega (arith, at.within); is = at.is }) once
mac-place a now (Some e ∷ log) (suc i) at once = grind (arith, nat_tests, tally-place a log i there, mac-place a now log i there)
  where
    there : IsPlaceOf a log i
    there = record { within = omega (arith, at.within); is = at.is }

-- a log without its empty places has the same entries
pub kept-filter : (log : List (Option CacheEntry)) → kept (filter is_some log) ≡ kept log
kept-filter [] = refl
kept-filter (None ∷ log) = kept-filter log
kept-filter (Some e ∷ log) = ap (λ es. e ∷ es) (kept-filter log)

pub length-filter : (log : List (Option CacheEntry)) → length (filter is_some log) ≡ length (kept log)
length-filter [] = refl
length-filter (None ∷ log) = length-filter log
length-filter (Some e ∷ log) = ap suc (length-filter log)

pub length-kept : (log : List (Option CacheEntry)) → length (kept log) ≤ length log
length-kept [] = omega arith
length-kept (None ∷ log) = omega (arith, length-kept log)
length-kept (Some e ∷ log) = omega (arith, length-kept log)

-- a search that goes on by a place of another address has still found none
pub tally-more : (a : ℕ) (log : List (Option CacheEntry)) (i : ℕ) → i < length log → tally a (entry_addresses (kept (take i log))) ≡ 0 → is_of a (get_or log i None) ≡ false → tally a (entry_addresses (kept (take (i + 1) log))) ≡ 0
tally-more a log i within none other = rw (take_more log i None within, kept-append, map-append, tally-append) (one (get_or log i None) other)
  where
    one : (p : Option CacheEntry) → is_of a p ≡ false → tally a (entry_addresses (kept (take i log))) + tally a (entry_addresses (kept (p ∷ []))) ≡ 0
    one None other = omega (arith, none)
    one (Some e) other = grind (arith, none, other)

pub front-more : (log : List (Option CacheEntry)) (i : ℕ) → i < length log → kept (take i log) ≡ [] → get_or log i None ≡ None → kept (take (i + 1) log) ≡ []
front-more log i within none empty = rw (take_more log i None within, empty, kept-append, none) refl

pub nothing-left : (p : Option CacheEntry) → ((e : CacheEntry) → p ≡ Some e → ⊥) → p ≡ None
nothing-left None other = refl
nothing-left (Some e) other = absurd (other e refl)
