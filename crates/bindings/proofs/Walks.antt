-- A walk from entry to entry: the part of a list after a key.
use Rattle.std.proofs.Common.{◌≡◌, ℕ, suc, ◌+◌, ◌<◌, ◌≤◌, Bool, true, false, not, cond, nat_lt, Option, Some, None, List, [], ◌∷◌, ◌++◌, length, map, refl, sym, ap, ◌∙◌, arith}
use Rattle.std.specs.List.{find, filter}
use Rattle.std.proofs.lemmas.Bool.{cond-true, cond-false, lt-ltb, le-ltb, ltb-true}
use Rattle.nat_types.specs.declared.pairs.EntryState.{EntryState}
use Rattle.nat_types.specs.declared.pairs.Key.{Key}
use Rattle.nat_types.specs.Same.{same_key}
use Rattle.nat_types.proofs.Offered.{key-true, key-false}
use Rattle.bindings.specs.declared.entries.Entry.{Entry}
use Rattle.bindings.specs.Entries.{is_pair, has_key, slot_of, entry_in, place_of, pairs_in, HasDistinctKeys}
use Rattle.bindings.specs.Lists.{stands_behind, after_key, key_place, without, with_state, RisesUp}
use Rattle.bindings.specs.Revivals.{woken, woken_entry}
use Rattle.bindings.proofs.Found.{cond_none}
use Rattle.bindings.proofs.Places.{turn-none, without-none}
use Rattle.bindings.proofs.Slots.{found-slot}

-- the entries after a key; all where there is no key
abbrev pub behind : Option Key → List Entry → List Entry
behind last es = filter (stands_behind last) es

-- ---- order

-- no key of a lower place has an entry
pub none-below : (low : ℕ) (es : List Entry) (key : Key) → RisesUp low es → key_place key < low → slot_of es key ≡ None
none-below low [] key r h = refl
none-below low (x ∷ xs) key r h =
    let differs : same_key x.pair.key key ≡ false = key-false x.pair.key key (λ e. (let p = ap key_place e in let s = r.0 in omega (arith, p, s, h))) in
    cond-false (same_key x.pair.key key) (Some x) (slot_of xs key) differs ∙ none-below (suc (place_of x.pair)) xs key r.1 (let s = r.0 in omega (arith, s, h))

pub rises-distinct : (low : ℕ) (es : List Entry) → RisesUp low es → HasDistinctKeys es
rises-distinct low [] r = tt
rises-distinct low (x ∷ xs) r = (none-below (suc (place_of x.pair)) xs x.pair.key r.1 (omega arith), rises-distinct (suc (place_of x.pair)) xs r.1)

-- an entry that is found isn't at a lower place, and is that of its own key
pub found-above : (low : ℕ) (p : Entry → Bool) (es : List Entry) (e : Entry) → RisesUp low es → find p es ≡ Some e → low ≤ place_of e.pair
found-above low p [] e r h = absurd (cc)
found-above low p (x ∷ xs) e r h = by (p x) h (found-above (suc (place_of x.pair)) p xs e r.1)
  where
    by : (b : Bool) → cond b (Some x) (find p xs) ≡ Some e → (find p xs ≡ Some e → suc (place_of x.pair) ≤ place_of e.pair) → low ≤ place_of e.pair
    by true h ih = (let same : x ≡ e = cc in let place = ap (λ (y : Entry). place_of y.pair) same in let s = r.0 in omega (arith, place, s))
    by false h ih = (let s = r.0 in let t = ih h in omega (arith, s, t))

-- ---- after a key

pub is-behind : (last : Option Key) (x : Entry) → ((key : Key) → last ≡ Some key → key_place key < place_of x.pair) → stands_behind last x ≡ true
is-behind None x h = refl
is-behind (Some key) x h = lt-ltb (key_place key) (place_of x.pair) (h key refl)

pub all-behind : (low : ℕ) (last : Option Key) (es : List Entry) → RisesUp low es → ((key : Key) → last ≡ Some key → key_place key < low) → behind last es ≡ es
all-behind low last [] r h = refl
all-behind low last (x ∷ xs) r h =
    let s = r.0 in
    cond-true (stands_behind last x) (x ∷ behind last xs) (behind last xs) (is-behind last x (λ key e. (let k = h key e in omega (arith, k, s))))
    ∙ ap (λ ys. x ∷ ys) (all-behind (suc (place_of x.pair)) last xs r.1 (λ key e. (let k = h key e in omega (arith, k, s))))

pub behind-none : (es : List Entry) → behind None es ≡ es
behind-none [] = refl
behind-none (x ∷ xs) = ap (λ ys. x ∷ ys) (behind-none xs)

-- a key's own place is before that of each entry after the key
pub below-last : (last : Option Key) (x : Entry) → stands_behind last x ≡ true → (key : Key) → last ≡ Some key → key_place key < place_of x.pair
below-last None x h key e = absurd (cc)
below-last (Some k) x h key e = (let same : k ≡ key = cc in let place = ap key_place same in let lower = ltb-true (key_place k) (place_of x.pair) h in omega (arith, place, lower))

pub behind-first : (low : ℕ) (last : Option Key) (es : List Entry) (e : Entry) → RisesUp low es → after_key last es ≡ Some e → behind last es ≡ e ∷ behind (Some e.pair.key) es
behind-first low last [] e r h = absurd (cc)
behind-first low last (x ∷ xs) e r h = by (stands_behind last x) refl h (behind-first (suc (place_of x.pair)) last xs e r.1)
  where
    by : (b : Bool) → stands_behind last x ≡ b → cond b (Some x) (after_key last xs) ≡ Some e → (after_key last xs ≡ Some e → behind last xs ≡ e ∷ behind (Some e.pair.key) xs) → cond b (x ∷ behind last xs) (behind last xs) ≡ e ∷ behind (Some e.pair.key) (x ∷ xs)
    by true f h ih =
        let same : x ≡ e = cc in
        let place = ap (λ (y : Entry). place_of y.pair) same in
        let here = all-behind (suc (place_of x.pair)) last xs r.1 (λ key k. (let b = below-last last x f key k in omega (arith, b))) in
        let rest = all-behind (suc (place_of x.pair)) (Some e.pair.key) xs r.1 (λ key k. (let one : e.pair.key ≡ key = cc in let p = ap key_place one in omega (arith, p, place))) in
        let out = cond-false (nat_lt (place_of e.pair) (place_of x.pair)) (x ∷ behind (Some e.pair.key) xs) (behind (Some e.pair.key) xs) (le-ltb (place_of e.pair) (place_of x.pair) (omega (arith, place))) in
        ap (λ ys. x ∷ ys) (here ∙ sym rest ∙ sym out) ∙ ap (λ y. y ∷ behind (Some e.pair.key) (x ∷ xs)) same
    by false f h ih =
        let above = found-above (suc (place_of x.pair)) (stands_behind last) xs e r.1 h in
        let out = cond-false (nat_lt (place_of e.pair) (place_of x.pair)) (x ∷ behind (Some e.pair.key) xs) (behind (Some e.pair.key) xs) (le-ltb (place_of e.pair) (place_of x.pair) (omega (arith, above))) in
        ih h ∙ ap (λ ys. e ∷ ys) (sym out)

pub behind-end : (last : Option Key) (es : List Entry) → after_key last es ≡ None → behind last es ≡ []
behind-end last [] h = refl
behind-end last (x ∷ xs) h = (let n = cond_none (stands_behind last x) x (after_key last xs) h in cond-false (stands_behind last x) (x ∷ behind last xs) (behind last xs) n.0 ∙ behind-end last xs n.1)

-- each step of a walk leaves fewer entries
pub behind-less : (low : ℕ) (last : Option Key) (es : List Entry) (e : Entry) → RisesUp low es → after_key last es ≡ Some e → length (behind (Some e.pair.key) es) < length (behind last es)
behind-less low last es e r h = (let s = ap length (behind-first low last es e r h) in omega (arith, s))

-- what is found next is its own key's entry
pub next-held : (low : ℕ) (last : Option Key) (es : List Entry) (e : Entry) → RisesUp low es → after_key last es ≡ Some e → slot_of es e.pair.key ≡ Some e
next-held low last es e r h = found-slot (stands_behind last) es e (rises-distinct low es r) h

-- ---- lists of what the entries have

pub pairs-next : (test : EntryState → Bool) (low : ℕ) (last : Option Key) (es : List Entry) (e : Entry) → RisesUp low es → after_key last es ≡ Some e
    → pairs_in test (behind last es) ≡ cond (test e.state) (e.pair ∷ []) [] ++ pairs_in test (behind (Some e.pair.key) es)
pairs-next test low last es e r h = ap (pairs_in test) (behind-first low last es e r h) ∙ by (test e.state)
  where
    by : (b : Bool) → map (λ (x : Entry). x.pair) (cond b (e ∷ filter (λ (x : Entry). test x.state) (behind (Some e.pair.key) es)) (filter (λ (x : Entry). test x.state) (behind (Some e.pair.key) es))) ≡ cond b (e.pair ∷ []) [] ++ pairs_in test (behind (Some e.pair.key) es)
    by true = refl
    by false = refl

pub pairs-end : (test : EntryState → Bool) (last : Option Key) (es : List Entry) → after_key last es ≡ None → pairs_in test (behind last es) ≡ []
pairs-end test last es h = ap (pairs_in test) (behind-end last es h)

-- ---- waking

-- the entries, of which those after a key are woken
abbrev pub woken_behind : Option Key → List Entry → List Entry
woken_behind last es = map (λ e. cond (stands_behind last e) (woken_entry e) e) es

pub wake-all : (es : List Entry) → woken_behind None es ≡ map woken_entry es
wake-all [] = refl
wake-all (x ∷ xs) = ap (λ ys. woken_entry x ∷ ys) (wake-all xs)

pub wake-end : (last : Option Key) (es : List Entry) → after_key last es ≡ None → woken_behind last es ≡ es
wake-end last [] h = refl
wake-end last (x ∷ xs) h = (let n = cond_none (stands_behind last x) x (after_key last xs) h in ap (λ b. cond b (woken_entry x) x ∷ woken_behind last xs) n.0 ∙ ap (λ ys. x ∷ ys) (wake-end last xs n.1))

wake-rest : (low : ℕ) (last : Option Key) (es : List Entry) → RisesUp low es → ((key : Key) → last ≡ Some key → key_place key < low) → woken_behind last es ≡ map woken_entry es
wake-rest low last [] r h = refl
wake-rest low last (x ∷ xs) r h =
    let s = r.0 in
    ap (λ b. cond b (woken_entry x) x ∷ woken_behind last xs) (is-behind last x (λ key e. (let k = h key e in omega (arith, k, s))))
    ∙ ap (λ ys. woken_entry x ∷ ys) (wake-rest (suc (place_of x.pair)) last xs r.1 (λ key e. (let k = h key e in omega (arith, k, s))))

pub wake-next : (low : ℕ) (last : Option Key) (es : List Entry) (e : Entry) → RisesUp low es → after_key last es ≡ Some e → woken_behind (Some e.pair.key) (with_state e.pair.key (woken e.state) es) ≡ woken_behind last es
wake-next low last [] e r h = refl
wake-next low last (x ∷ xs) e r h = by (stands_behind last x) refl h (wake-next (suc (place_of x.pair)) last xs e r.1)
  where
    first : (b c : Bool) → cond (nat_lt (place_of e.pair) (place_of (cond b (entry_in (woken e.state) x.pair) x).pair)) (woken_entry (cond b (entry_in (woken e.state) x.pair) x)) (cond b (entry_in (woken e.state) x.pair) x) ≡ cond (nat_lt (place_of e.pair) (place_of x.pair)) (woken_entry (cond b (entry_in (woken e.state) x.pair) x)) (cond b (entry_in (woken e.state) x.pair) x)
    first true c = refl
    first false c = refl

    by : (b : Bool) → stands_behind last x ≡ b → cond b (Some x) (after_key last xs) ≡ Some e → (after_key last xs ≡ Some e → woken_behind (Some e.pair.key) (with_state e.pair.key (woken e.state) xs) ≡ woken_behind last xs) → woken_behind (Some e.pair.key) (with_state e.pair.key (woken e.state) (x ∷ xs)) ≡ cond b (woken_entry x) x ∷ woken_behind last xs
    by true f h ih =
        let same : x ≡ e = cc in
        let place = ap (λ (y : Entry). place_of y.pair) same in
        let own : same_key x.pair.key e.pair.key ≡ true = key-true x.pair.key e.pair.key (ap (λ (y : Entry). y.pair.key) same) in
        let none = none-below (suc (place_of x.pair)) xs e.pair.key r.1 (omega (arith, place)) in
        let quiet = turn-none e.pair.key (woken e.state) xs none in
        let rest = wake-rest (suc (place_of x.pair)) (Some e.pair.key) xs r.1 (λ key k. (let one : e.pair.key ≡ key = cc in let p = ap key_place one in omega (arith, p, place))) in
        let here = wake-rest (suc (place_of x.pair)) last xs r.1 (λ key k. (let b = below-last last x f key k in omega (arith, b))) in
        let out = le-ltb (place_of e.pair) (place_of x.pair) (omega (arith, place)) in
        ap (λ b. woken_behind (Some e.pair.key) (cond b (entry_in (woken e.state) x.pair) x ∷ with_state e.pair.key (woken e.state) xs)) own
        ∙ ap (λ b. cond b (woken_entry (entry_in (woken e.state) x.pair)) (entry_in (woken e.state) x.pair) ∷ woken_behind (Some e.pair.key) (with_state e.pair.key (woken e.state) xs)) out
        ∙ ap (λ ys. entry_in (woken e.state) x.pair ∷ ys) (ap (woken_behind (Some e.pair.key)) quiet ∙ rest ∙ sym here)
        ∙ ap (λ (y : Entry). entry_in (woken y.state) x.pair ∷ woken_behind last xs) (sym same)
    by false f h ih =
        let above = found-above (suc (place_of x.pair)) (stands_behind last) xs e r.1 h in
        let other : same_key x.pair.key e.pair.key ≡ false = key-false x.pair.key e.pair.key (λ k. (let p = ap key_place k in omega (arith, p, above))) in
        let out = le-ltb (place_of e.pair) (place_of x.pair) (omega (arith, above)) in
        ap (λ b. woken_behind (Some e.pair.key) (cond b (entry_in (woken e.state) x.pair) x ∷ with_state e.pair.key (woken e.state) xs)) other
        ∙ ap (λ b. cond b (woken_entry x) x ∷ woken_behind (Some e.pair.key) (with_state e.pair.key (woken e.state) xs)) out
        ∙ ap (λ ys. x ∷ ys) (ih h)

pub length-behind_turned : (last : Option Key) (key : Key) (s : EntryState) (es : List Entry) → length (behind last (with_state key s es)) ≡ length (behind last es)
length-behind_turned last key s [] = refl
length-behind_turned last key s (x ∷ xs) = by (has_key key x) (length-behind_turned last key s xs)
  where
    place : (last : Option Key) (b : Bool) → stands_behind last (cond b (entry_in s x.pair) x) ≡ stands_behind last x
    place None b = refl
    place (Some k) true = refl
    place (Some k) false = refl

    counted : (c : Bool) (y : Entry) → length (behind last (with_state key s xs)) ≡ length (behind last xs) → length (cond c (y ∷ behind last (with_state key s xs)) (behind last (with_state key s xs))) ≡ length (cond c (x ∷ behind last xs) (behind last xs))
    counted true y ih = ap suc ih
    counted false y ih = ih

    by : (b : Bool) → length (behind last (with_state key s xs)) ≡ length (behind last xs) → length (behind last (cond b (entry_in s x.pair) x ∷ with_state key s xs)) ≡ length (behind last (x ∷ xs))
    by b ih =
        ap (λ c. length (cond c (cond b (entry_in s x.pair) x ∷ behind last (with_state key s xs)) (behind last (with_state key s xs)))) (place last b)
        ∙ counted (stands_behind last x) (cond b (entry_in s x.pair) x) ih

-- ---- dropping

-- the first Doomed entry of a list is the first after the key, as long as no Doomed one was met
pub drop-pair : (low : ℕ) (last : Option Key) (es : List Entry) (e : Entry) → RisesUp low es → after_key last es ≡ Some e → is_pair e.state ≡ true
    → find (λ x. not (is_pair x.state)) es ≡ find (λ x. not (is_pair x.state)) (behind last es) → find (λ x. not (is_pair x.state)) es ≡ find (λ x. not (is_pair x.state)) (behind (Some e.pair.key) es)
drop-pair low last es e r h pair first =
    first ∙ ap (find (λ (x : Entry). not (is_pair x.state))) (behind-first low last es e r h)
    ∙ cond-false (not (is_pair e.state)) (Some e) (find (λ (x : Entry). not (is_pair x.state)) (behind (Some e.pair.key) es)) (ap not pair)

without-rest : (low : ℕ) (x : Entry) (xs : List Entry) (e : Entry) → RisesUp low (x ∷ xs) → x ≡ e → without e.pair.key (x ∷ xs) ≡ xs
without-rest low x xs e r same =
    let own : same_key x.pair.key e.pair.key ≡ true = key-true x.pair.key e.pair.key (ap (λ (y : Entry). y.pair.key) same) in
    let place = ap (λ (y : Entry). place_of y.pair) same in
    ap (λ b. cond (not b) (x ∷ without e.pair.key xs) (without e.pair.key xs)) own
    ∙ without-none e.pair.key xs (none-below (suc (place_of x.pair)) xs e.pair.key r.1 (omega (arith, place)))

pub drop-doomed : (low : ℕ) (es : List Entry) (e : Entry) → RisesUp low es → find (λ x. not (is_pair x.state)) es ≡ Some e
    → find (λ x. not (is_pair x.state)) (without e.pair.key es) ≡ find (λ x. not (is_pair x.state)) (behind (Some e.pair.key) (without e.pair.key es))
drop-doomed low [] e r h = refl
drop-doomed low (x ∷ xs) e r h = by (not (is_pair x.state)) refl h (drop-doomed (suc (place_of x.pair)) xs e r.1)
  where
    by : (b : Bool) → not (is_pair x.state) ≡ b → cond b (Some x) (find (λ (y : Entry). not (is_pair y.state)) xs) ≡ Some e
        → (find (λ (y : Entry). not (is_pair y.state)) xs ≡ Some e → find (λ (y : Entry). not (is_pair y.state)) (without e.pair.key xs) ≡ find (λ (y : Entry). not (is_pair y.state)) (behind (Some e.pair.key) (without e.pair.key xs)))
        → find (λ (y : Entry). not (is_pair y.state)) (without e.pair.key (x ∷ xs)) ≡ find (λ (y : Entry). not (is_pair y.state)) (behind (Some e.pair.key) (without e.pair.key (x ∷ xs)))
    by true f h ih =
        let same : x ≡ e = cc in
        let place = ap (λ (y : Entry). place_of y.pair) same in
        let rest = without-rest low x xs e r same in
        let all = all-behind (suc (place_of x.pair)) (Some e.pair.key) xs r.1 (λ key k. (let one : e.pair.key ≡ key = cc in let p = ap key_place one in omega (arith, p, place))) in
        ap (find (λ (y : Entry). not (is_pair y.state))) (rest ∙ sym all ∙ ap (behind (Some e.pair.key)) (sym rest))
    by false f h ih =
        let above = found-above (suc (place_of x.pair)) (λ (y : Entry). not (is_pair y.state)) xs e r.1 h in
        let other : same_key x.pair.key e.pair.key ≡ false = key-false x.pair.key e.pair.key (λ k. (let p = ap key_place k in omega (arith, p, above))) in
        let keeps : without e.pair.key (x ∷ xs) ≡ x ∷ without e.pair.key xs = ap (λ b. cond (not b) (x ∷ without e.pair.key xs) (without e.pair.key xs)) other in
        let out = le-ltb (place_of e.pair) (place_of x.pair) (omega (arith, above)) in
        ap (find (λ (y : Entry). not (is_pair y.state))) keeps
        ∙ cond-false (not (is_pair x.state)) (Some x) (find (λ (y : Entry). not (is_pair y.state)) (without e.pair.key xs)) f
        ∙ ih h
        ∙ ap (find (λ (y : Entry). not (is_pair y.state))) (sym (ap (behind (Some e.pair.key)) keeps ∙ ap (λ b. cond b (x ∷ behind (Some e.pair.key) (without e.pair.key xs)) (behind (Some e.pair.key) (without e.pair.key xs))) out))

pub length-behind_without : (last : Option Key) (key : Key) (es : List Entry) → length (behind last (without key es)) ≤ length (behind last es)
length-behind_without last key [] = omega arith
length-behind_without last key (x ∷ xs) = by (not (has_key key x)) (stands_behind last x) refl (length-behind_without last key xs)
  where
    by : (a b : Bool) → stands_behind last x ≡ b → length (behind last (without key xs)) ≤ length (behind last xs) → length (behind last (cond a (x ∷ without key xs) (without key xs))) ≤ length (cond b (x ∷ behind last xs) (behind last xs))
    by true true f ih = (let s = ap (λ c. length (cond c (x ∷ behind last (without key xs)) (behind last (without key xs)))) f in omega (arith, ih, s))
    by true false f ih = (let s = ap (λ c. length (cond c (x ∷ behind last (without key xs)) (behind last (without key xs)))) f in omega (arith, ih, s))
    by false true f ih = omega (arith, ih)
    by false false f ih = ih

pub one-more : {X : Type 0} (b : Bool) (x : X) (xs : List X) → length (cond b (x ∷ []) [] ++ xs) ≡ cond b 1 0 + length xs
one-more true x xs = omega arith
one-more false x xs = omega arith
