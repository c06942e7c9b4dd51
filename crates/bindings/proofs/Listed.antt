-- How often a key is listed, and lists of keys in order.
use Rattle.std.proofs.Common.{◌≡◌, ℕ, suc, ◌+◌, ◌<◌, ◌≤◌, Bool, true, false, cond, eqb, ◌||◌, inl, inr, Some, List, [], ◌∷◌, ◌++◌, length, get_or, refl, ap, sym, ◌∙◌, arith}
use Rattle.std.specs.List.{filter}
use Rattle.std.specs.List.Sorted.{IsPermutation, IsNonDecreasingBy}
use Rattle.std.proofs.lemmas.Bool.{cond-true, cond-false, cases_lt, both_ways, eq-eqb, ne_eqb}
use Rattle.std.proofs.lemmas.List.Sums.{sum_by-cons, sum_by_push}
use Rattle.std.proofs.lemmas.List.Sorted.{sum_by-IsPermutation}
use Rattle.nat_types.specs.declared.pairs.Key.{Key}
use Rattle.nat_types.specs.Same.{same_key}
use Rattle.nat_types.proofs.Offered.{key-eq, key-self, key-true, key-false}
use Rattle.slots.specs.declared.numbers.SlotNumber.{SlotNumber}
use Rattle.slots.specs.Dues.{times}
use Rattle.slots.specs.Rows.{Row, number_of}
use Rattle.bindings.specs.declared.store.Item.{Item}
use Rattle.bindings.specs.Lists.{key_place}
use Rattle.bindings.specs.Lives.{is_among}
use Rattle.bindings.specs.Dues.{key_times, AreListed}

-- ---- how often

pub times-first : (key x : Key) (keys : List Key) → same_key x key ≡ true → key_times key (x ∷ keys) ≡ suc (key_times key keys)
times-first key x keys e =
    let cons = sum_by-cons (λ k. cond (same_key k key) 1 0) x keys in
    let one = ap (λ b. (let n : ℕ = cond b 1 0 in n)) e in
    omega (arith, cons, one)

pub times-other : (key x : Key) (keys : List Key) → same_key x key ≡ false → key_times key (x ∷ keys) ≡ key_times key keys
times-other key x keys e =
    let cons = sum_by-cons (λ k. cond (same_key k key) 1 0) x keys in
    let none = ap (λ b. (let n : ℕ = cond b 1 0 in n)) e in
    omega (arith, cons, none)

pub none-listed : (key : Key) (keys : List Key) → is_among key keys ≡ false → key_times key keys ≡ 0
none-listed key [] h = refl
none-listed key (x ∷ xs) h = by (same_key x key) refl (none-listed key xs)
  where
    by : (b : Bool) → same_key x key ≡ b → (is_among key xs ≡ false → key_times key xs ≡ 0) → key_times key (x ∷ xs) ≡ 0
    by true e ih = (let there = ap (λ b. b || is_among key xs) e in absurd (cc))
    by false e ih = times-other key x xs e ∙ ih (sym (ap (λ b. b || is_among key xs) e) ∙ h)

pub filter-times : (p : Key → Bool) (key : Key) (keys : List Key) → key_times key (filter p keys) ≡ cond (p key) (key_times key keys) 0
filter-times p key [] = zero (p key)
  where
    zero : (b : Bool) → (let n : ℕ = 0 in n) ≡ cond b 0 0
    zero true = refl
    zero false = refl
filter-times p key (x ∷ xs) = by (p x) (same_key x key) refl refl (filter-times p key xs)
  where
    F : List Key
    F = filter p xs

    by : (b s : Bool) → p x ≡ b → same_key x key ≡ s → key_times key F ≡ cond (p key) (key_times key xs) 0 → key_times key (cond b (x ∷ F) F) ≡ cond (p key) (key_times key (x ∷ xs)) 0
    by true true e f ih =
        let passes = ap p (sym (key-eq x key f)) ∙ e in
        times-first key x F f ∙ ap suc (ih ∙ cond-true (p key) (key_times key xs) 0 passes) ∙ sym (times-first key x xs f) ∙ sym (cond-true (p key) (key_times key (x ∷ xs)) 0 passes)
    by true false e f ih = times-other key x F f ∙ ih ∙ ap (λ n. cond (p key) n 0) (sym (times-other key x xs f))
    by false true e f ih =
        let fails = ap p (sym (key-eq x key f)) ∙ e in
        ih ∙ cond-false (p key) (key_times key xs) 0 fails ∙ sym (cond-false (p key) (key_times key (x ∷ xs)) 0 fails)
    by false false e f ih = ih ∙ ap (λ n. cond (p key) n 0) (sym (times-other key x xs f))

-- the keys are listed as often as their slots after one more slot's key was listed
pub more-listed : (rows : List (Row Item)) (start found left : List ℕ) (m : SlotNumber) (x : Key) (keys : List Key) → found ≡ left ++ m.0 ∷ [] → ((key : Key) → number_of rows key ≡ Some m → Some x ≡ Some key) → number_of rows x ≡ Some m
    → ((key : Key) (n : SlotNumber) → number_of rows key ≡ Some n → key_times key keys + times n.0 found ≡ times n.0 start)
    → (key : Key) (n : SlotNumber) → number_of rows key ≡ Some n → key_times key (keys ++ x ∷ []) + times n.0 left ≡ times n.0 start
more-listed rows start found left m x keys popped own held listed key n h = by (same_key x key) refl
  where
    pushed : key_times key (keys ++ x ∷ []) ≡ key_times key keys + cond (same_key x key) 1 0
    pushed = sum_by_push (λ k. cond (same_key k key) 1 0) keys x

    gone : times n.0 found ≡ times n.0 left + cond (eqb m.0 n.0) 1 0
    gone = ap (times n.0) popped ∙ sum_by_push (λ k. cond (eqb k n.0) 1 0) left m.0

    by : (b : Bool) → same_key x key ≡ b → key_times key (keys ++ x ∷ []) + times n.0 left ≡ times n.0 start
    by true e =
        let both : Some m ≡ Some n = sym (ap (number_of rows) (sym (key-eq x key e)) ∙ held) ∙ h in
        let same : m ≡ n = cc in
        let one = cond-true {A = ℕ} (same_key x key) 1 0 e in
        let two = cond-true {A = ℕ} (eqb m.0 n.0) 1 0 (eq-eqb m.0 n.0 (ap (λ (s : SlotNumber). s.0) same)) in
        let total = listed key n h in
        omega (arith, pushed, gone, one, two, total)
    by false e =
        let other : m.0 ≡ n.0 → ⊥ = λ z. (let same : m ≡ n = ap (λ (k : ℕ). let s : SlotNumber = record { 0 = k } in s) z in let found-too = own key (h ∙ ap Some (sym same)) in let one : x ≡ key = cc in both_ways (same_key x key) e (key-true x key one)) in
        let one = cond-false {A = ℕ} (same_key x key) 1 0 e in
        let two = cond-false {A = ℕ} (eqb m.0 n.0) 1 0 (ne_eqb m.0 n.0 other) in
        let total = listed key n h in
        omega (arith, pushed, gone, one, two, total)

-- the keys are listed as often as their slots in another order too
pub listed-as : (rows : List (Row Item)) (found : List ℕ) (keys sorted : List Key) → IsPermutation keys sorted → AreListed rows found keys → AreListed rows found sorted
listed-as rows found keys sorted p listed key n h = sum_by-IsPermutation (λ k. cond (same_key k key) 1 0) keys sorted p ∙ listed key n h

-- ---- in order

-- no key is before this place, or before the key in front of it
abbrev pub Climbs : ℕ → List Key → Type 0
Climbs low [] = Unit {0}
Climbs low (k ∷ ks) = (low ≤ key_place k) × Climbs (key_place k) ks

-- each key is at this place or later, and after the key in front of it
abbrev pub Rising : ℕ → List Key → Type 0
Rising low [] = Unit {0}
Rising low (k ∷ ks) = (low ≤ key_place k) × Rising (suc (key_place k)) ks

climbs-lower : (low high : ℕ) (ks : List Key) → low ≤ high → Climbs high ks → Climbs low ks
climbs-lower low high [] h c = tt
climbs-lower low high (k ∷ ks) h c = ((let p = c.0 in omega (arith, h, p)), c.1)

pub rising-lower : (low high : ℕ) (ks : List Key) → low ≤ high → Rising high ks → Rising low ks
rising-lower low high [] h c = tt
rising-lower low high (k ∷ ks) h c = ((let p = c.0 in omega (arith, h, p)), c.1)

pub climbs-filter : (low : ℕ) (p : Key → Bool) (ks : List Key) → Climbs low ks → Climbs low (filter p ks)
climbs-filter low p [] c = tt
climbs-filter low p (k ∷ ks) c = by (p k) (climbs-filter (key_place k) p ks c.1)
  where
    by : (b : Bool) → Climbs (key_place k) (filter p ks) → Climbs low (cond b (k ∷ filter p ks) (filter p ks))
    by true ih = (c.0, ih)
    by false ih = climbs-lower low (key_place k) (filter p ks) c.0 ih

pub rising-filter : (low : ℕ) (p : Key → Bool) (ks : List Key) → Rising low ks → Rising low (filter p ks)
rising-filter low p [] c = tt
rising-filter low p (k ∷ ks) c = by (p k) (rising-filter (suc (key_place k)) p ks c.1)
  where
    by : (b : Bool) → Rising (suc (key_place k)) (filter p ks) → Rising low (cond b (k ∷ filter p ks) (filter p ks))
    by true ih = (c.0, ih)
    by false ih = rising-lower low (suc (key_place k)) (filter p ks) (let l = c.0 in omega (arith, l)) ih

pub climbs-from : (low : ℕ) (ks : List Key) → ((d : Key) → 0 < length ks → low ≤ key_place (get_or ks 0 d)) → IsNonDecreasingBy key_place ks → Climbs low ks
climbs-from low [] first order = tt
climbs-from low (k ∷ ks) first order =
    (first k (omega arith), climbs-from (key_place k) ks (λ d some. order 0 1 d (omega arith) (omega (arith, some))) (λ i j d le lt. order (suc i) (suc j) d (omega (arith, le)) (omega (arith, lt))))

apart : (k q : Key) → (key_place k ≡ key_place q → ⊥) → same_key k q ≡ false
apart k q h = key-false k q (λ e. h (ap key_place e))

climbs-none : (key : Key) (low : ℕ) (ks : List Key) → key_place key < low → Climbs low ks → key_times key ks ≡ 0
climbs-none key low [] h c = refl
climbs-none key low (k ∷ ks) h c =
    let p = c.0 in
    times-other key k ks (apart k key (λ e. omega (arith, h, p, e))) ∙ climbs-none key (key_place k) ks (omega (arith, h, p)) c.1

rising-none : (key : Key) (low : ℕ) (ks : List Key) → key_place key < low → Rising low ks → key_times key ks ≡ 0
rising-none key low [] h c = refl
rising-none key low (k ∷ ks) h c =
    let p = c.0 in
    times-other key k ks (apart k key (λ e. omega (arith, h, p, e))) ∙ rising-none key (suc (key_place k)) ks (omega (arith, h, p)) c.1

-- two lists in order that have each key as often are one
pub one-order : (low : ℕ) (xs ys : List Key) → Climbs low xs → Rising low ys → ((key : Key) → key_times key xs ≡ key_times key ys) → ys ≡ xs
one-order low [] [] cx ry same = refl
one-order low [] (y ∷ ys) cx ry same = absurd (let h = times-first y y ys (key-self y) in let s = same y in omega (arith, h, s))
one-order low (x ∷ xs) [] cx ry same = absurd (let h = times-first x x xs (key-self x) in let s = same x in omega (arith, h, s))
one-order low (x ∷ xs) (y ∷ ys) cx ry same =
    elim (cases_lt (key_place x) (key_place y)) [
      | inl less ↦ absurd (let h = times-first x x xs (key-self x) in let s = same x in let none = rising-none x (key_place y) (y ∷ ys) less (omega arith, ry.1) in omega (arith, h, s, none))
      | inr more ↦ elim (cases_lt (key_place y) (key_place x)) [
        | inl less ↦ absurd (let h = times-first y y ys (key-self y) in let s = same y in let none = climbs-none y (key_place x) (x ∷ xs) less (omega arith, cx.1) in omega (arith, h, s, none))
        | inr most ↦ by (same_key y x) refl (omega (arith, more, most)) (one-order (key_place x) xs ys cx.1)
      ]
    ]
  where
    tails : x ≡ y → (key : Key) → key_times key xs ≡ key_times key ys
    tails e key = at (same_key x key) refl
      where
        at : (b : Bool) → same_key x key ≡ b → key_times key xs ≡ key_times key ys
        at true f =
            let s = same key in
            let h = times-first key x xs f in
            let g = times-first key y ys (ap (λ k. same_key k key) (sym e) ∙ f) in
            omega (arith, s, h, g)
        at false f = sym (times-other key x xs f) ∙ same key ∙ times-other key y ys (ap (λ k. same_key k key) (sym e) ∙ f)

    by : (b : Bool) → same_key y x ≡ b → key_place x ≡ key_place y → (Rising (key_place x) ys → ((key : Key) → key_times key xs ≡ key_times key ys) → ys ≡ xs) → y ∷ ys ≡ x ∷ xs
    by true f place rest =
        let e : y ≡ x = key-eq y x f in
        ap (λ k. k ∷ ys) e ∙ ap (λ ks. x ∷ ks) (rest (rising-lower (key_place x) (suc (key_place y)) ys (omega (arith, place)) ry.1) (tails (sym e)))
    by false f place rest =
        absurd (let h = times-first x x xs (key-self x) in let s = same x in let o = times-other x y ys f in let none = rising-none x (suc (key_place y)) ys (omega (arith, place)) ry.1 in omega (arith, h, s, o, none))
