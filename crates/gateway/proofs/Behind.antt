-- The entries after a key: the next entry, and the entries after it.
use Rattle.std.proofs.Common.{◌≡◌, ℕ, suc, ◌<◌, ◌≤◌, Bool, true, false, cond, nat_lt, Option, Some, None, List, [], ◌∷◌, refl, sym, ap, ◌∙◌, arith}
use Rattle.std.proofs.lemmas.Bool.{cond-true, cond-false, lt-ltb, le-ltb, ltb-true}
use Rattle.std.specs.Prelude.{IfNone, IfSome}
use Rattle.nat_types.specs.declared.pairs.Key.{Key}
use Rattle.bindings.specs.declared.entries.Entry.{Entry}
use Rattle.bindings.specs.Entries.{place_of}
use Rattle.bindings.specs.Lists.{after_key, key_place, stands_behind}
use Rattle.bindings.proofs.Offered.{find-none}
use Rattle.resync.proofs.Offered.{IsStrict}
use Rattle.gateway.specs.Entries.{behind}

-- an entry is after a key, or there is no key
is-behind : (last : Option Key) (x : Entry) → ((key : Key) → last ≡ Some key → key_place key < place_of x.pair) → stands_behind last x ≡ true
is-behind None x h = refl
is-behind (Some key) x h = lt-ltb (key_place key) (place_of x.pair) (h key refl)

all-behind : (low : ℕ) (last : Option Key) (es : List Entry) → IsStrict low es → ((key : Key) → last ≡ Some key → key_place key < low) → behind last es ≡ es
all-behind low last [] r h = refl
all-behind low last (x ∷ xs) r h =
    let s = r.0 in
    cond-true (stands_behind last x) (x ∷ behind last xs) (behind last xs) (is-behind last x (λ key e. (let k = h key e in omega (arith, k, s))))
    ∙ ap (λ ys. x ∷ ys) (all-behind (suc (place_of x.pair)) last xs r.1 (λ key e. (let k = h key e in omega (arith, k, s))))

below-last : (last : Option Key) (x : Entry) → stands_behind last x ≡ true → (key : Key) → last ≡ Some key → key_place key < place_of x.pair
below-last None x h key e = absurd (cc)
below-last (Some k) x h key e = (let same : k ≡ key = cc in let place = ap key_place same in let lower = ltb-true (key_place k) (place_of x.pair) h in omega (arith, place, lower))

found-above : (low : ℕ) (last : Option Key) (es : List Entry) (e : Entry) → IsStrict low es → after_key last es ≡ Some e → low ≤ place_of e.pair
found-above low last [] e r h = absurd (cc)
found-above low last (x ∷ xs) e r h = by (stands_behind last x) h (found-above (suc (place_of x.pair)) last xs e r.1)
  where
    by : (b : Bool) → cond b (Some x) (after_key last xs) ≡ Some e → (after_key last xs ≡ Some e → suc (place_of x.pair) ≤ place_of e.pair) → low ≤ place_of e.pair
    by true h ih = (let same : x ≡ e = cc in let place = ap (λ (y : Entry). place_of y.pair) same in let s = r.0 in omega (arith, place, s))
    by false h ih = (let s = r.0 in let t = ih h in omega (arith, s, t))

pub next-behind : (low : ℕ) (last : Option Key) (es : List Entry) (e : Entry) → IsStrict low es → after_key last es ≡ Some e → behind last es ≡ e ∷ behind (Some e.pair.key) es
next-behind low last [] e r h = absurd (cc)
next-behind low last (x ∷ xs) e r h = by (stands_behind last x) refl h (next-behind (suc (place_of x.pair)) last xs e r.1)
  where
    by : (b : Bool) → stands_behind last x ≡ b → cond b (Some x) (after_key last xs) ≡ Some e → (after_key last xs ≡ Some e → behind last xs ≡ e ∷ behind (Some e.pair.key) xs) → cond b (x ∷ behind last xs) (behind last xs) ≡ e ∷ behind (Some e.pair.key) (x ∷ xs)
    by true f h ih =
        let same : x ≡ e = cc in
        let place = ap (λ (y : Entry). place_of y.pair) same in
        let here = all-behind (suc (place_of x.pair)) last xs r.1 (λ key k. (let b = below-last last x f key k in omega (arith, b))) in
        let rest = all-behind (suc (place_of x.pair)) (Some e.pair.key) xs r.1 (λ key k. (let one : e.pair.key ≡ key = cc in let p = ap key_place one in omega (arith, p, place))) in
        let out = cond-false (nat_lt (place_of e.pair) (place_of x.pair)) (x ∷ behind (Some e.pair.key) xs) (behind (Some e.pair.key) xs) (le-ltb (place_of e.pair) (place_of x.pair) (omega (arith, place))) in
        ap (λ ys. x ∷ ys) (here ∙ sym rest ∙ sym out) ∙ ap (λ y. y ∷ behind (Some e.pair.key) (x ∷ xs)) same
    by false f h ih =
        let above = found-above (suc (place_of x.pair)) last xs e r.1 h in
        let out = cond-false (nat_lt (place_of e.pair) (place_of x.pair)) (x ∷ behind (Some e.pair.key) xs) (behind (Some e.pair.key) xs) (le-ltb (place_of e.pair) (place_of x.pair) (omega (arith, above))) in
        ih h ∙ ap (λ ys. e ∷ ys) (sym out)

pub none-behind : (last : Option Key) (es : List Entry) → after_key last es ≡ None → behind last es ≡ []
none-behind last [] h = refl
none-behind last (x ∷ xs) h = (let n = find-none (stands_behind last) x xs h in cond-false (stands_behind last x) (x ∷ behind last xs) (behind last xs) n.0 ∙ none-behind last xs n.1)

-- the next entry that a call found
pub next-of : (last : Option Key) (es : List Entry) (found : Option Entry) → IsStrict 0 es → found ≡ after_key last es → IfSome found (λ e. behind last es ≡ e ∷ behind (Some e.pair.key) es)
next-of last es None r h = tt
next-of last es (Some e) r h = next-behind 0 last es e r (sym h)

pub none-of : (last : Option Key) (es : List Entry) (found : Option Entry) → found ≡ after_key last es → IfNone found (behind last es ≡ [])
none-of last es None h = none-behind last es (sym h)
none-of last es (Some e) h = tt
