-- A rising list of ports is determined by the ports in it.
use Rattle.std.proofs.Common.{◌≡◌, ℕ, zero, suc, ◌+◌, ◌-◌, ◌<◌, ◌≤◌, ◌==◌, nat_le, nat_lt, Bool, true, false, cond, ◌&&◌, ◌||◌, not, inl, inr, List, [], ◌∷◌, refl, sym, ap, ◌∙◌, arith}
use Rattle.std.specs.List.{filter, range_with_len}
use Rattle.std.proofs.lemmas.Bool.{both_ways, cases_lt, cases_eq, or_from, or_left, or_right, and_from, and_left, and_parts, eq-eqb, ne_eqb, false_from_ne_true, ltb-true, ltb-false, leb-true}
use Rattle.port_range.specs.Ports.{is_listed, is_within, RiseAbove, AreRising}
use Rattle.bindings.specs.declared.entries.PortBounds.{PortBounds}
use Rattle.bindings.specs.Ports.{in_either, lowest_of, highest_of}
use Rattle.bindings.specs.Runs.{own_in, without_port, all_ports}
use Rattle.bindings.proofs.Holding.{in-both}

-- a number below all of a rising list isn't in the list
pub not-below : (low : ℕ) (xs : List ℕ) (q : ℕ) → RiseAbove low xs → q ≤ low → is_listed q xs ≡ false
not-below low [] q r h = refl
not-below low (x ∷ xs) q r h =
    let up : low < x = r.0 in
    or_from (x == q) (is_listed q xs) (ne_eqb x q (λ e. absurd (omega arith))) (not-below x xs q r.1 (omega arith))

pub rise-lower : (low high : ℕ) (xs : List ℕ) → low ≤ high → RiseAbove high xs → RiseAbove low xs
rise-lower low high [] le r = tt
rise-lower low high (x ∷ xs) le r = let up : high < x = r.0 in (omega arith, r.1)

pub rise-filter : (low : ℕ) (p : ℕ → Bool) (xs : List ℕ) → RiseAbove low xs → RiseAbove low (filter p xs)
rise-filter low p [] r = tt
rise-filter low p (x ∷ xs) r = at (p x) (rise-filter x p xs r.1)
  where
    at : (b : Bool) → RiseAbove x (filter p xs) → RiseAbove low (cond b (x ∷ filter p xs) (filter p xs))
    at true ih = (r.0, ih)
    at false ih = let up : low < x = r.0 in rise-lower low x (filter p xs) (omega arith) ih

pub rise-range : (low start count : ℕ) → low < start → RiseAbove low (range_with_len start count)
rise-range low start zero h = tt
rise-range low start (suc count) h = (h, rise-range start (start + 1) count (omega arith))

-- ---- what is listed

filtered : (p : ℕ → Bool) (x q : ℕ) (rest : Bool) (xs : List ℕ) (b : Bool) → p x ≡ b → is_listed q xs ≡ (p q && rest) → is_listed q (cond b (x ∷ xs) xs) ≡ (p q && ((x == q) || rest))
filtered p x q rest xs true is h =
    elim (cases_eq x q) [
      | inl same ↦
          (or_left (x == q) (is_listed q xs) (eq-eqb x q same)
          ∙ sym (and_from (p q) ((x == q) || rest) (ap p (sym same) ∙ is) (or_left (x == q) rest (eq-eqb x q same))))
      | inr other ↦
          (ap (λ b. b || is_listed q xs) (ne_eqb x q other) ∙ h ∙ ap (λ b. p q && (b || rest)) (sym (ne_eqb x q other)))
    ]
filtered p x q rest xs false is h =
    elim (cases_eq x q) [
      | inl same ↦ (h ∙ and_left (p q) rest (ap p (sym same) ∙ is) ∙ sym (and_left (p q) ((x == q) || rest) (ap p (sym same) ∙ is)))
      | inr other ↦ h ∙ ap (λ b. p q && (b || rest)) (sym (ne_eqb x q other))
    ]

and-false : (b : Bool) → false ≡ (b && false)
and-false true = refl
and-false false = refl

pub listed-filter : (p : ℕ → Bool) (xs : List ℕ) (q : ℕ) → is_listed q (filter p xs) ≡ (p q && is_listed q xs)
listed-filter p [] q = and-false (p q)
listed-filter p (x ∷ xs) q = filtered p x q (is_listed q xs) (filter p xs) (p x) refl (listed-filter p xs q)

pub listed-range : (start count q : ℕ) → start ≤ q → q < start + count → is_listed q (range_with_len start count) ≡ true
listed-range start zero q low high = absurd (omega arith)
listed-range start (suc count) q low high =
    elim (cases_eq start q) [
      | inl same ↦ or_left (start == q) (is_listed q (range_with_len (start + 1) count)) (eq-eqb start q same)
      | inr other ↦ or_right (start == q) (is_listed q (range_with_len (start + 1) count)) (listed-range (start + 1) count q (omega arith) (omega arith))
    ]

swap : (a b c : Bool) → (a || (b || c)) ≡ (b || (a || c))
swap true true c = refl
swap true false c = refl
swap false b c = refl

or-cond : (b c : Bool) → (b || c) ≡ cond b true c
or-cond true c = refl
or-cond false c = refl

turned : (a b : ℕ) → (a == b) ≡ (b == a)
turned a b =
    elim (cases_eq a b) [
      | inl same ↦ eq-eqb a b same ∙ sym (eq-eqb b a (sym same))
      | inr other ↦ ne_eqb a b other ∙ sym (ne_eqb b a (λ e. other (sym e)))
    ]

listed-put : (p : ℕ) (xs : List ℕ) (q : ℕ) → is_listed q (own_in p xs) ≡ ((p == q) || is_listed q xs)
listed-put p [] q = refl
listed-put p (x ∷ xs) q = at (nat_lt p x) (listed-put p xs q)
  where
    at : (b : Bool) → is_listed q (own_in p xs) ≡ ((p == q) || is_listed q xs) → is_listed q (cond b (p ∷ x ∷ xs) (x ∷ own_in p xs)) ≡ ((p == q) || ((x == q) || is_listed q xs))
    at true ih = refl
    at false ih = ap (λ b. (x == q) || b) ih ∙ swap (x == q) (p == q) (is_listed q xs)

pub listed-own_in : (p : ℕ) (xs : List ℕ) (q : ℕ) → is_listed q (own_in p xs) ≡ cond (q == p) true (is_listed q xs)
listed-own_in p xs q = listed-put p xs q ∙ ap (λ b. b || is_listed q xs) (turned p q) ∙ or-cond (q == p) (is_listed q xs)

not-and : (b c : Bool) → (not b && c) ≡ cond b false c
not-and true c = refl
not-and false c = refl

pub listed-without : (p : ℕ) (xs : List ℕ) (q : ℕ) → is_listed q (without_port p xs) ≡ cond (q == p) false (is_listed q xs)
listed-without p xs q = listed-filter (λ x. not (x == p)) xs q ∙ not-and (q == p) (is_listed q xs)

pub rise-own_in : (low p : ℕ) (xs : List ℕ) → low < p → RiseAbove low xs → is_listed p xs ≡ false → RiseAbove low (own_in p xs)
rise-own_in low p [] above r h = (above, tt)
rise-own_in low p (x ∷ xs) above r h = at (nat_lt p x) refl (λ past. rise-own_in x p xs past r.1 rest)
  where
    rest : is_listed p xs ≡ false
    rest = false_from_ne_true (is_listed p xs) (λ there. both_ways (is_listed p (x ∷ xs)) h (or_right (x == p) (is_listed p xs) there))

    apart : x ≡ p → ⊥
    apart e = both_ways (is_listed p (x ∷ xs)) h (or_left (x == p) (is_listed p xs) (eq-eqb x p e))

    at : (b : Bool) → nat_lt p x ≡ b → (x < p → RiseAbove x (own_in p xs)) → RiseAbove low (cond b (p ∷ x ∷ xs) (x ∷ own_in p xs))
    at true is ih = (above, (ltb-true p x is, r.1))
    at false is ih =
        let le : x ≤ p = ltb-false p x is in
        (r.0, ih (elim (cases_eq x p) [ inl same ↦ absurd (apart same) | inr other ↦ omega (arith, other) ]))

-- a list in which no port is listed is empty
pub none-listed : (xs : List ℕ) → ((q : ℕ) → is_listed q xs ≡ false) → xs ≡ []
none-listed [] h = refl
none-listed (x ∷ xs) h = absurd (both_ways (is_listed x (x ∷ xs)) (h x) (or_left (x == x) (is_listed x xs) (eq-eqb x x refl)))

-- ---- the same ports in order are the same list

pub same-rising : (low : ℕ) (xs ys : List ℕ) → RiseAbove low xs → RiseAbove low ys → ((q : ℕ) → is_listed q xs ≡ is_listed q ys) → xs ≡ ys
same-rising low [] [] rx ry same = refl
same-rising low [] (y ∷ ys) rx ry same = absurd (both_ways (is_listed y (y ∷ ys)) (sym (same y)) (or_left (y == y) (is_listed y ys) (eq-eqb y y refl)))
same-rising low (x ∷ xs) [] rx ry same = absurd (both_ways (is_listed x (x ∷ xs)) (same x) (or_left (x == x) (is_listed x xs) (eq-eqb x x refl)))
same-rising low (x ∷ xs) (y ∷ ys) rx ry same =
    elim (cases_lt x y) [
      | inl less ↦ absurd (both_ways (is_listed x (x ∷ xs)) (same x ∙ not-below x (y ∷ ys) x (less, ry.1) (omega arith)) (or_left (x == x) (is_listed x xs) (eq-eqb x x refl)))
      | inr from ↦ elim (cases_lt y x) [
        | inl less ↦ absurd (both_ways (is_listed y (y ∷ ys)) (sym (same y) ∙ not-below y (x ∷ xs) y (less, rx.1) (omega arith)) (or_left (y == y) (is_listed y ys) (eq-eqb y y refl)))
        | inr to ↦
            (let one : x ≡ y = omega arith in
            let rises : RiseAbove x ys = rise-lower x y ys (omega arith) ry.1 in
            ap (λ (z : ℕ). z ∷ xs) one ∙ ap (λ zs. y ∷ zs) (same-rising x xs ys rx.1 rises (rest one rises)))
      ]
    ]
  where
    rest : x ≡ y → RiseAbove x ys → (q : ℕ) → is_listed q xs ≡ is_listed q ys
    rest one rises q =
        elim (cases_lt x q) [
          | inl past ↦
              (let a : (x == q) ≡ false = ne_eqb x q (λ e. absurd (omega arith)) in
              let b : (y == q) ≡ false = ne_eqb y q (λ e. absurd (omega arith)) in
              sym (ap (λ c. c || is_listed q xs) a) ∙ same q ∙ ap (λ c. c || is_listed q ys) b)
          | inr before ↦ not-below x xs q rx.1 before ∙ sym (not-below x ys q rises before)
        ]

-- a port of a range isn't 0
pub above-none : (lowest highest p : ℕ) → 1024 ≤ lowest → is_within lowest highest p ≡ true → 0 < p
above-none lowest highest p low within =
    let from : lowest ≤ p = leb-true lowest p (and_parts (nat_le lowest p) (nat_le p highest) within).0 in
    omega arith

-- the owned ports with one more are the list with that port at its place
pub owned-more : (p : ℕ) (xs ys : List ℕ) → AreRising xs → AreRising ys → 0 < p → is_listed p xs ≡ false → ((q : ℕ) → is_listed q ys ≡ cond (q == p) true (is_listed q xs)) → ys ≡ own_in p xs
owned-more p xs ys rx ry above h is = same-rising 0 ys (own_in p xs) ry (rise-own_in 0 p xs above rx h) (λ q. is q ∙ sym (listed-own_in p xs q))

-- the owned ports with one fewer are the list without that port
pub owned-less : (p : ℕ) (xs ys : List ℕ) → AreRising xs → AreRising ys → ((q : ℕ) → is_listed q ys ≡ cond (q == p) false (is_listed q xs)) → ys ≡ without_port p xs
owned-less p xs ys rx ry is = same-rising 0 ys (without_port p xs) ry (rise-filter 0 (λ q. not (q == p)) xs rx) (λ q. is q ∙ sym (listed-without p xs q))

-- a port is one of all ports of both ranges where it is in either range
pub listed-all : (low high : PortBounds) (q : ℕ) → is_listed q (all_ports low high) ≡ in_either low high q
listed-all low high q =
    listed-filter (in_either low high) (range_with_len (lowest_of low high) (highest_of low high + 1 - lowest_of low high)) q ∙ at (in_either low high q) refl
  where
    at : (b : Bool) → in_either low high q ≡ b → (b && is_listed q (range_with_len (lowest_of low high) (highest_of low high + 1 - lowest_of low high))) ≡ b
    at true is =
        let parts = and_parts (nat_le (lowest_of low high) q) (nat_le q (highest_of low high)) (in-both low high q is) in
        let a : lowest_of low high ≤ q = leb-true (lowest_of low high) q parts.0 in
        let b : q ≤ highest_of low high = leb-true q (highest_of low high) parts.1 in
        listed-range (lowest_of low high) (highest_of low high + 1 - lowest_of low high) q a (between (lowest_of low high) (highest_of low high) a b)
      where
        between : (l h : ℕ) → l ≤ q → q ≤ h → q < l + (h + 1 - l)
        between l h a b = omega arith
    at false is = refl

pub owned-all : (low high : PortBounds) (xs : List ℕ) → AreRising xs → 0 < lowest_of low high → ((q : ℕ) → is_listed q xs ≡ in_either low high q) → xs ≡ all_ports low high
owned-all low high xs rises above is =
    same-rising 0 xs (all_ports low high) rises
    (rise-filter 0 (in_either low high) (range_with_len (lowest_of low high) (highest_of low high + 1 - lowest_of low high)) (rise-range 0 (lowest_of low high) (highest_of low high + 1 - lowest_of low high) above))
    (λ q. is q ∙ sym (listed-all low high q))

-- ---- the ports of one range are made owned, and then those of the other

pub both-owned : (o a b : Bool) → (o ≡ true → (a || b) ≡ true) → ((o || a) || b) ≡ (a || b)
both-owned true a b inside = sym (inside refl)
both-owned false a b inside = refl
