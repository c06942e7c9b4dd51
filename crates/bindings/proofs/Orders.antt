-- Changes keep the entries in order.
use Rattle.std.proofs.Common.{◌≡◌, ℕ, ◌<◌, ◌≤◌, Bool, true, false, cond, not, nat_lt, List, [], ◌∷◌, map, refl, sym, subst, arith}
use Rattle.std.specs.List.{filter}
use Rattle.std.proofs.lemmas.Bool.{ltb-true, ltb-false}
use Rattle.nat_types.specs.declared.pairs.EntryState.{EntryState}
use Rattle.nat_types.specs.declared.pairs.Key.{Key}
use Rattle.nat_types.specs.declared.pairs.Pair.{Pair}
use Rattle.bindings.specs.declared.entries.Entry.{Entry}
use Rattle.bindings.specs.Entries.{entry_in, has_key, place_of}
use Rattle.bindings.specs.Lists.{put_in, without, with_state, Rises, AreInOrder}

lower : (low high : ℕ) (es : List Entry) → low ≤ high → Rises high es → Rises low es
lower low high [] le r = tt
lower low high (x ∷ xs) le r = let h = r.0 in (omega arith, r.1)

rises-put : (low : ℕ) (e : Entry) (es : List Entry) → low ≤ place_of e.pair → Rises low es → Rises low (put_in e es)
rises-put low e [] le r = (le, tt)
rises-put low e (x ∷ xs) le r = at (nat_lt (place_of e.pair) (place_of x.pair)) refl (λ past. rises-put (place_of x.pair) e xs past r.1)
  where
    at : (b : Bool) → nat_lt (place_of e.pair) (place_of x.pair) ≡ b → (place_of x.pair ≤ place_of e.pair → Rises (place_of x.pair) (put_in e xs)) → Rises low (cond b (e ∷ x ∷ xs) (x ∷ put_in e xs))
    at true is ih = let lt : place_of e.pair < place_of x.pair = ltb-true (place_of e.pair) (place_of x.pair) is in (le, (omega arith, r.1))
    at false is ih = (r.0, ih (ltb-false (place_of e.pair) (place_of x.pair) is))

pub rises-map : (low : ℕ) (f : Entry → Entry) (es : List Entry) → ((x : Entry) → (f x).pair ≡ x.pair) → Rises low es → Rises low (map f es)
rises-map low f [] same r = tt
rises-map low f (x ∷ xs) same r = (
  subst (λ (p : Pair). low ≤ place_of p) (sym (same x)) r.0,
  subst (λ (p : Pair). Rises (place_of p) (map f xs)) (sym (same x)) (rises-map (place_of x.pair) f xs same r.1),
)

pub rises-filter : (low : ℕ) (p : Entry → Bool) (es : List Entry) → Rises low es → Rises low (filter p es)
rises-filter low p [] r = tt
rises-filter low p (x ∷ xs) r = at (p x) (rises-filter (place_of x.pair) p xs r.1)
  where
    at : (b : Bool) → Rises (place_of x.pair) (filter p xs) → Rises low (cond b (x ∷ filter p xs) (filter p xs))
    at true ih = (r.0, ih)
    at false ih = lower low (place_of x.pair) (filter p xs) r.0 ih

pub order-put : (e : Entry) (es : List Entry) → AreInOrder es → AreInOrder (put_in e es)
order-put e es r = rises-put 0 e es (omega arith) r

pub turned-pair : (k : Key) (s : EntryState) (x : Entry) → (let y : Entry = cond (has_key k x) (entry_in s x.pair) x in y).pair ≡ x.pair
turned-pair k s x = at (has_key k x)
  where
    at : (b : Bool) → (let y : Entry = cond b (entry_in s x.pair) x in y).pair ≡ x.pair
    at true = refl
    at false = refl

pub order-turn : (k : Key) (s : EntryState) (es : List Entry) → AreInOrder es → AreInOrder (with_state k s es)
order-turn k s es r = rises-map 0 (λ x. cond (has_key k x) (entry_in s x.pair) x) es (turned-pair k s) r

pub order-drop : (k : Key) (es : List Entry) → AreInOrder es → AreInOrder (without k es)
order-drop k es r = rises-filter 0 (λ x. not (has_key k x)) es r
