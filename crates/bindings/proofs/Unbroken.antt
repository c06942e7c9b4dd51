-- The ports of a rising list from a port on, and their unbroken runs.
use Rattle.std.proofs.Common.{◌≡◌, ℕ, zero, suc, ◌+◌, ◌-◌, ◌<◌, ◌≤◌, ◌==◌, nat_le, Bool, true, false, cond, ◌||◌, not, Option, Some, None, IfSome, IfNone, inl, inr, List, [], ◌∷◌, refl, sym, ap, ◌∙◌, arith}
use Rattle.std.proofs.lemmas.Bool.{both_ways, cases_lt, cases_eq, cond-true, cond-false, or_parts, or_left, or_right, and_right, eq-eqb, ne_eqb, le-leb, lt-leb, false_from_ne_true, and_parts, leb-true}
use Rattle.addresses.specs.declared.transport.Port.{Port}
use Rattle.port_range.specs.Ports.{Range, IsRange, is_listed, is_owned, RiseAbove}
use Rattle.port_range.specs.Searches.{IsFirstFrom}
use Rattle.bindings.specs.declared.entries.PortBounds.{PortBounds}
use Rattle.bindings.specs.Runs.{run_of, runs_on, ports_from_on, first_of}
use Rattle.bindings.proofs.Rising.{not-below, listed-filter}

-- a port that isn't listed is skipped
pub from-skip : (q : ℕ) (xs : List ℕ) → is_listed q xs ≡ false → ports_from_on q xs ≡ ports_from_on (q + 1) xs
from-skip q [] h = refl
from-skip q (x ∷ xs) h =
    let parts = or_parts (x == q) (is_listed q xs) h in
    let differs : (x ≡ q → ⊥) = λ e. both_ways (x == q) parts.0 (eq-eqb x q e) in
    let same : nat_le q x ≡ nat_le (q + 1) x = at differs in
    ap (λ b. cond b (x ∷ ports_from_on q xs) (ports_from_on q xs)) same
    ∙ ap (λ (zs : List ℕ). cond (nat_le (q + 1) x) (x ∷ zs) zs) (from-skip q xs parts.1)
  where
    at : (x ≡ q → ⊥) → nat_le q x ≡ nat_le (q + 1) x
    at differs =
        elim (cases_lt x q) [
          | inl below ↦ lt-leb q x below ∙ sym (lt-leb (q + 1) x (omega arith))
          | inr from ↦ le-leb q x from ∙ sym (le-leb (q + 1) x (omega (arith, differs)))
        ]

-- the ports from one on are all ports, where each is at least that one
pub from-all : (a : ℕ) (xs : List ℕ) → ((q : ℕ) → is_listed q xs ≡ true → a ≤ q) → ports_from_on a xs ≡ xs
from-all a [] h = refl
from-all a (x ∷ xs) h =
    cond-true (nat_le a x) (x ∷ ports_from_on a xs) (ports_from_on a xs) (le-leb a x (h x (or_left (x == x) (is_listed x xs) (eq-eqb x x refl))))
    ∙ ap (λ zs. x ∷ zs) (from-all a xs (λ q there. h q (or_right (x == q) (is_listed q xs) there)))

-- there is no port from one on, where each is lower
pub from-none : (a : ℕ) (xs : List ℕ) → ((q : ℕ) → is_listed q xs ≡ true → q < a) → ports_from_on a xs ≡ []
from-none a [] h = refl
from-none a (x ∷ xs) h =
    cond-false (nat_le a x) (x ∷ ports_from_on a xs) (ports_from_on a xs) (lt-leb a x (h x (or_left (x == x) (is_listed x xs) (eq-eqb x x refl))))
    ∙ from-none a xs (λ q there. h q (or_right (x == q) (is_listed q xs) there))

-- no owned port of a range is after the range's end
pub none-owned : (r : Range) (a : ℕ) → IsRange r → r.highest < a → ports_from_on a r.owned ≡ []
none-owned r a is h =
    from-none a r.owned (λ q there.
    let parts = and_parts (nat_le r.lowest q) (nat_le q r.highest) (is.owned q there) in
    let high : q ≤ r.highest = leb-true q r.highest parts.1 in omega arith)

pub all-owned : (r : Range) → IsRange r → ports_from_on r.lowest r.owned ≡ r.owned
all-owned r is =
    from-all r.lowest r.owned (λ q there.
    leb-true r.lowest q (and_parts (nat_le r.lowest q) (nat_le q r.highest) (is.owned q there)).0)

-- no port after a range's end is owned
pub not-owned : (r : Range) (a : ℕ) → IsRange r → r.highest < a → is_listed a r.owned ≡ false
not-owned r a is h =
    false_from_ne_true (is_listed a r.owned) (λ there.
    let high : a ≤ r.highest = leb-true a r.highest (and_parts (nat_le r.lowest a) (nat_le a r.highest) (is.owned a there)).1 in
    absurd (omega arith))

-- an owned port isn't after a range's end
pub owned-high : (r : Range) (a : ℕ) → IsRange r → is_listed a r.owned ≡ true → a ≤ r.highest
owned-high r a is there = leb-true a r.highest (and_parts (nat_le r.lowest a) (nat_le a r.highest) (is.owned a there)).1

-- where a port is listed, the ports from it on are that port and the ports after it
pub from-take : (low q : ℕ) (xs : List ℕ) → RiseAbove low xs → is_listed q xs ≡ true → ports_from_on q xs ≡ q ∷ ports_from_on (q + 1) xs
from-take low q [] r h = cc
from-take low q (x ∷ xs) r h =
    elim (cases_eq x q) [
      | inl same ↦
          (let none : is_listed q xs ≡ false = not-below x xs q r.1 (omega arith) in
          cond-true (nat_le q x) (x ∷ ports_from_on q xs) (ports_from_on q xs) (le-leb q x (omega arith))
          ∙ ap (λ (z : ℕ). z ∷ ports_from_on q xs) same
          ∙ ap (λ zs. q ∷ zs) (from-skip q xs none ∙ sym (cond-false (nat_le (q + 1) x) (x ∷ ports_from_on (q + 1) xs) (ports_from_on (q + 1) xs) (lt-leb (q + 1) x (omega arith)))))
      | inr other ↦
          (let there : is_listed q xs ≡ true = ap (λ b. b || is_listed q xs) (sym (ne_eqb x q other)) ∙ h in
          let past : x < q = above there in
          cond-false (nat_le q x) (x ∷ ports_from_on q xs) (ports_from_on q xs) (lt-leb q x past)
          ∙ from-take x q xs r.1 there
          ∙ ap (λ zs. q ∷ zs) (sym (cond-false (nat_le (q + 1) x) (x ∷ ports_from_on (q + 1) xs) (ports_from_on (q + 1) xs) (lt-leb (q + 1) x (omega arith)))))
    ]
  where
    above : is_listed q xs ≡ true → x < q
    above there =
        elim (cases_lt x q) [
          | inl past ↦ past
          | inr before ↦ absurd (both_ways (is_listed q xs) (not-below x xs q r.1 before) there)
        ]

-- a run ends before a port that isn't listed
ended : (first last next : ℕ) (ys : List ℕ) → next ≡ last + 1 → is_listed next ys ≡ false → first_of (runs_on first last ys) ≡ Some (run_of first last)
ended first last next [] is h = refl
ended first last next (y ∷ ys) is h =
    let parts = or_parts (y == next) (is_listed next ys) h in
    let differs : (y == suc last) ≡ false = ne_eqb y (suc last) (λ e. both_ways (y == next) parts.0 (eq-eqb y next (omega arith))) in
    ap (λ (rs : List PortBounds). first_of rs) (cond-false (y == suc last) (runs_on first y ys) (run_of first last ∷ runs_on y y ys) differs)

pub run-stops : (first last next : ℕ) (xs : List ℕ) → next ≡ last + 1 → is_listed next xs ≡ false → first_of (runs_on first last (ports_from_on next xs)) ≡ Some (run_of first last)
run-stops first last next xs is h =
    ended first last next (ports_from_on next xs) is (listed-filter (nat_le next) xs next ∙ and_right (nat_le next next) (is_listed next xs) h)

-- a run goes on with the next port where that is listed
pub run-goes : (low first last next : ℕ) (xs : List ℕ) → next ≡ last + 1 → RiseAbove low xs → is_listed next xs ≡ true → runs_on first last (ports_from_on next xs) ≡ runs_on first next (ports_from_on (next + 1) xs)
run-goes low first last next xs is r h =
    ap (runs_on first last) (from-take low next xs r h)
    ∙ cond-true (next == suc last) (runs_on first next (ports_from_on (next + 1) xs)) (run_of first last ∷ runs_on next next (ports_from_on (next + 1) xs)) (eq-eqb next (suc last) (omega arith))

-- ---- the first owned port from one on

-- the unlisted ports up to a listed one are skipped
from-reach : (low n a p : ℕ) (xs : List ℕ) → p ≡ a + n → RiseAbove low xs → is_listed p xs ≡ true → ((q : ℕ) → a ≤ q → q < p → is_listed q xs ≡ false) → ports_from_on a xs ≡ p ∷ ports_from_on (p + 1) xs
from-reach low zero a p xs is r here none =
    let same : a ≡ p = omega (arith, is) in ap (λ (m : ℕ). ports_from_on m xs) same ∙ from-take low p xs r here
from-reach low (suc n) a p xs is r here none =
    from-skip a xs (none a (omega arith) (omega (arith, is))) ∙ from-reach low n (a + 1) p xs (omega (arith, is)) r here (λ q from to. none q (omega (arith, from)) to)

pub found-owned : (r : Range) (a : ℕ) (answer : Option Port) → IfSome answer (λ p. IsFirstFrom (is_owned r) a p.0) → IfSome answer (λ p. is_owned r p.0 ≡ true)
found-owned r a None is = tt
found-owned r a (Some p) is = is.passes

pub found-some : (r : Range) (a : ℕ) (answer : Option Port) → IsRange r → IfSome answer (λ p. IsFirstFrom (is_owned r) a p.0) → IfSome answer (λ p. ports_from_on a r.owned ≡ p.0 ∷ ports_from_on (p.0 + 1) r.owned)
found-some r a None range is = tt
found-some r a (Some p) range is = from-reach 0 (p.0 - a) a p.0 r.owned (let from = is.from in omega (arith, from)) range.rising is.passes is.first

pub found-none : (r : Range) (a : ℕ) (answer : Option Port) → IfNone answer ((q : ℕ) → a ≤ q → is_owned r q ≡ false) → IfNone answer (ports_from_on a r.owned ≡ [])
found-none r a None none =
    from-none a r.owned (λ q there. elim (cases_lt q a) [
      | inl below ↦ below
      | inr from ↦ absurd (both_ways (is_listed q r.owned) (none q from) there)
    ])
found-none r a (Some p) none = tt

-- ---- the end of a run

-- a run goes on over ports that are all owned
run-along : (low first n last end : ℕ) (xs : List ℕ) → end ≡ last + n → RiseAbove low xs → ((q : ℕ) → last < q → q ≤ end → is_listed q xs ≡ true)
    → runs_on first last (ports_from_on (last + 1) xs) ≡ runs_on first end (ports_from_on (end + 1) xs)
run-along low first zero last end xs is r owned =
    let same : last ≡ end = omega (arith, is) in ap (λ (m : ℕ). runs_on first m (ports_from_on (m + 1) xs)) same
run-along low first (suc n) last end xs is r owned =
    run-goes low first last (last + 1) xs refl r (owned (last + 1) (omega arith) (omega (arith, is)))
    ∙ run-along low first n (last + 1) end xs (omega (arith, is)) r (λ q past to. owned q (omega (arith, past)) to)

-- a run ends before a port that isn't owned
run-ends : (r : Range) (first end : ℕ) → IsRange r → first ≤ end → ((q : ℕ) → first ≤ q → q ≤ end → is_listed q r.owned ≡ true) → is_listed (end + 1) r.owned ≡ false
    → first_of (runs_on first first (ports_from_on (first + 1) r.owned)) ≡ Some (run_of first end)
run-ends r first end is order owned stops =
    ap first_of (run-along 0 first (end - first) first end r.owned (omega (arith, order)) is.rising (λ q past to. owned q (omega (arith, past)) to))
    ∙ run-stops first end (end + 1) r.owned refl stops

not-false : (b : Bool) → not b ≡ false → b ≡ true
not-false true h = refl
not-false false h = cc

not-true : (b : Bool) → not b ≡ true → b ≡ false
not-true true h = cc
not-true false h = refl

-- the first port that isn't owned, from an owned one on, is after that one
pub behind-first : (r : Range) (first port : ℕ) → is_listed first r.owned ≡ true → IsFirstFrom (λ q. not (is_owned r q)) first port → first < port
behind-first r first port owned is =
    elim (cases_eq port first) [
      | inl same ↦ absurd (both_ways (is_listed first r.owned) (ap (λ (n : ℕ). is_listed n r.owned) (sym same) ∙ not-true (is_owned r port) is.passes) owned)
      | inr other ↦ (let from = is.from in omega (arith, from, other))
    ]

pub run-before : (r : Range) (first port end : ℕ) → IsRange r → is_listed first r.owned ≡ true → IsFirstFrom (λ q. not (is_owned r q)) first port → end + 1 ≡ port
    → first_of (runs_on first first (ports_from_on (first + 1) r.owned)) ≡ Some (run_of first end)
run-before r first port end range owned is next =
    let past = behind-first r first port owned is in
    run-ends r first end range (omega (arith, past, next)) (λ q from to. not-false (is_owned r q) (is.first q from (omega (arith, to, next))))
    (ap (λ (n : ℕ). is_listed n r.owned) next ∙ not-true (is_owned r port) is.passes)

-- where no port that isn't owned follows, a run ends with the range
pub run-whole : (r : Range) (first highest : ℕ) → r.highest ≡ highest → IsRange r → is_listed first r.owned ≡ true → ((q : ℕ) → first ≤ q → q < 65536 → is_owned r q ≡ true)
    → first_of (runs_on first first (ports_from_on (first + 1) r.owned)) ≡ Some (run_of first highest)
run-whole r first highest end range owned all =
    let low = owned-high r first range owned in
    let top = range.high in
    run-ends r first highest range (omega (arith, low, end)) (λ q from to. all q from (omega (arith, to, end, top))) (not-owned r (highest + 1) range (omega (arith, end)))
