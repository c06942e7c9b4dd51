-- Whether a request is due for an address, and what is in a log after a packet was sent to it.
use Rattle.std.proofs.Common.{◌≡◌, ◌≤◌, ◌+◌, ℕ, zero, suc, Bool, true, false, ◌||◌, ◌&&◌, cond, eqb, Option, Some, None, List, [], ◌∷◌, length, get_or, set, take, refl, ◌∙◌, ap, arith}
use Rattle.std.proofs.lemmas.List.{length-map}
use Rattle.arp.specs.declared.caches.CacheEntry.{CacheEntry}
use Rattle.arp.specs.declared.learnt.Spot.{Spot}
use Rattle.arp.specs.Neighbours.{wants_asking, learnt_asks, sent_entry, sent_if, learnt_sent}
use Rattle.arp.specs.Log.{kept, place_asks, place_sent, entry_addresses, tally, IsPlaceOf, IsIndexed}
use Rattle.arp.proofs.Logs.{tally-place}

-- no request is due for an address that isn't in the log
pub asks-none : (a now : ℕ) (es : List CacheEntry) → tally a (entry_addresses es) ≡ 0 → learnt_asks a now es ≡ false
asks-none a now [] none = refl
asks-none a now (e ∷ es) none = by (eqb e.address.0 a) none (asks-none a now es)
  where
    by : (b : Bool) → cond b 1 0 + tally a (entry_addresses es) ≡ 0 → (tally a (entry_addresses es) ≡ 0 → learnt_asks a now es ≡ false) → ((b && wants_asking now e) || learnt_asks a now es) ≡ false
    by true none rest = absurd (omega (arith, none))
    by false none rest = rest (omega (arith, none))

pub sent-none : (a now : ℕ) (es : List CacheEntry) → tally a (entry_addresses es) ≡ 0 → learnt_sent a now es ≡ es
sent-none a now [] none = refl
sent-none a now (e ∷ es) none = by (eqb e.address.0 a) none (sent-none a now es)
  where
    by : (b : Bool) → cond b 1 0 + tally a (entry_addresses es) ≡ 0 → (tally a (entry_addresses es) ≡ 0 → learnt_sent a now es ≡ es) → cond b (sent_entry now e) e ∷ learnt_sent a now es ≡ e ∷ es
    by true none rest = absurd (omega (arith, none))
    by false none rest = ap (λ (ds : List CacheEntry). e ∷ ds) (rest (omega (arith, none)))

-- whether a request is due for an address is what its place says
or-none : (b : Bool) → b ≡ (b || false)
or-none true = refl
or-none false = refl

pub asks-place : (a now : ℕ) (log : List (Option CacheEntry)) (i : ℕ) → IsPlaceOf a log i → tally a (entry_addresses (kept log)) ≤ 1 → place_asks now (get_or log i None) ≡ learnt_asks a now (kept log)
asks-place a now [] i at once = absurd (omega (arith, at.within))
asks-place a now (None ∷ log) zero at once = cc
asks-place a now (Some e ∷ log) zero at once =
    let is : eqb e.address.0 a ≡ true = at.is in
    let rest : tally a (entry_addresses (kept log)) ≡ 0 = grind (arith, is, once) in
    rw (is, asks-none a now (kept log) rest) (or-none (wants_asking now e))
asks-place a now (None ∷ log) (suc i) at once = asks-place a now log i (record { within = omega (arith, at.within); is = at.is }) once
asks-place a now (Some e ∷ log) (suc i) at once = by (eqb e.address.0 a) once (tally-place a log i there) (asks-place a now log i there)
  where
    there : IsPlaceOf a log i
    there = record { within = omega (arith, at.within); is = at.is }

    by : (b : Bool) → cond b 1 0 + tally a (entry_addresses (kept log)) ≤ 1 → 1 ≤ tally a (entry_addresses (kept log)) → (tally a (entry_addresses (kept log)) ≤ 1 → place_asks now (get_or log i None) ≡ learnt_asks a now (kept log)) → place_asks now (get_or log i None) ≡ ((b && wants_asking now e) || learnt_asks a now (kept log))
    by true once one rest = absurd (omega (arith, once, one))
    by false once one rest = rest (omega (arith, once))

pub kept-sent : (a now : ℕ) (log : List (Option CacheEntry)) (i : ℕ) → IsPlaceOf a log i → tally a (entry_addresses (kept log)) ≤ 1 → kept (set log i (place_sent now (get_or log i None))) ≡ learnt_sent a now (kept log)
kept-sent a now [] i at once = absurd (omega (arith, at.within))
kept-sent a now (None ∷ log) zero at once = cc
kept-sent a now (Some e ∷ log) zero at once =
    let is : eqb e.address.0 a ≡ true = at.is in
    let rest : tally a (entry_addresses (kept log)) ≡ 0 = grind (arith, is, once) in
    rw (is, sent-none a now (kept log) rest) refl
kept-sent a now (None ∷ log) (suc i) at once = kept-sent a now log i (record { within = omega (arith, at.within); is = at.is }) once
kept-sent a now (Some e ∷ log) (suc i) at once = by (eqb e.address.0 a) once (tally-place a log i there) (kept-sent a now log i there)
  where
    there : IsPlaceOf a log i
    there = record { within = omega (arith, at.within); is = at.is }

    by : (b : Bool) → cond b 1 0 + tally a (entry_addresses (kept log)) ≤ 1 → 1 ≤ tally a (entry_addresses (kept log)) → (tally a (entry_addresses (kept log)) ≤ 1 → kept (set log i (place_sent now (get_or log i None))) ≡ learnt_sent a now (kept log)) → e ∷ kept (set log i (place_sent now (get_or log i None))) ≡ cond b (sent_entry now e) e ∷ learnt_sent a now (kept log)
    by true once one rest = absurd (omega (arith, once, one))
    by false once one rest = ap (λ (ds : List CacheEntry). e ∷ ds) (rest (omega (arith, once)))

pub front-sent : (n now : ℕ) (log : List (Option CacheEntry)) (i : ℕ) → kept (take n log) ≡ [] → kept (take n (set log i (place_sent now (get_or log i None)))) ≡ []
front-sent zero now log i front = refl
front-sent (suc n) now [] i front = refl
front-sent (suc n) now (None ∷ log) zero front = front
front-sent (suc n) now (Some e ∷ log) i front = cc
front-sent (suc n) now (None ∷ log) (suc i) front = front-sent n now log i front

-- a packet that is sent changes no address of the log
same-address : (b : Bool) (now : ℕ) (e : CacheEntry) → (let d : CacheEntry = cond b (sent_entry now e) e in d).address.0 ≡ e.address.0
same-address true now e = refl
same-address false now e = refl

addresses-sent : (a now : ℕ) (es : List CacheEntry) → entry_addresses (learnt_sent a now es) ≡ entry_addresses es
addresses-sent a now [] = refl
addresses-sent a now (e ∷ es) =
    ap (λ (n : ℕ). n ∷ entry_addresses (learnt_sent a now es)) (same-address (eqb e.address.0 a) now e)
    ∙ ap (λ (ns : List ℕ). e.address.0 ∷ ns) (addresses-sent a now es)

pub indexed-sent : (log log' : List (Option CacheEntry)) (start : ℕ) (index : List Spot) (a now : ℕ) → IsIndexed log start index → kept log' ≡ learnt_sent a now (kept log) → length log' ≡ length log → kept (take start log') ≡ [] → IsIndexed log' start index
indexed-sent log log' start index a now old entries len front = record {
  rising = old.rising;
  same = λ x. ap (λ es. tally x (entry_addresses es)) entries ∙ ap (tally x) (addresses-sent a now (kept log)) ∙ old.same x;
  count = ap length entries ∙ length-map (kept log) (sent_if a now) ∙ old.count;
  most = old.most;
  within = omega (arith, len, old.within);
  front = front;
}
