-- The port that is chosen.
use Rattle.std.proofs.Common.{◌≡◌, ℕ, zero, suc, ◌+◌, ◌-◌, ◌<◌, ◌≤◌, Bool, true, false, cond, ◌&&◌, Option, Some, None, ◌⊎◌, inl, inr, nat_le, IfSome, IfNone, refl, ap, ◌∙◌, sym, arith}
use Rattle.std.proofs.lemmas.Bool.{and_parts, and_from, and_left, both_ways, cases_eq, cases_lt, cond-true, cond-false, false_from_ne_true, leb-true}
use Rattle.addresses.specs.declared.transport.Parity.{Parity}
use Rattle.addresses.specs.declared.transport.Parity.TheVariants.{Even, Odd}
use Rattle.addresses.specs.declared.transport.Port.{Port}
use Rattle.addresses.specs.Transport.{parity_of}
use Rattle.port_range.specs.Ports.{Range, same_parity, fits, is_available, is_open, first_where, lowest_open, or_else, chosen_open, chosen_port, is_free, is_owned, IsRange, IsChosen}
use Rattle.port_range.specs.Marks.{other_parity, IsLowestOf}

-- a conditional that begins with an item is None only where its test fails and the rest is None
pub cond_none : {X : Type 0} (b : Bool) (x : X) (o : Option X) → cond b (Some x) o ≡ None → (b ≡ false) × (o ≡ None)
cond_none true x o h = cc
cond_none false x o h = (refl, h)

-- the first of a list is found, or it doesn't pass
pub find-some : {X : Type 0} (b : Bool) (x : X) (o : Option X) (y : X) → cond b (Some x) o ≡ Some y → ((b ≡ true) × (x ≡ y)) ⊎ ((b ≡ false) × (o ≡ Some y))
find-some true x o y h = inl (refl, cc)
find-some false x o y h = inr (refl, h)

-- what is found passes, lies among the numbers looked at, and no lower one passes
pub record IsFirst (test : ℕ → Bool) (start count : ℕ) (port : Port) : Type 0 where
  pub passes : test port.0 ≡ true
  pub from : start ≤ port.0
  pub below : port.0 < start + count
  pub lowest : (q : ℕ) → start ≤ q → q < port.0 → test q ≡ false

-- what fails at a number, and from the next on, fails from that number on
pub fails_from : (test : ℕ → Bool) (start end : ℕ) → test start ≡ false → ((q : ℕ) → start + 1 ≤ q → q < end → test q ≡ false) → (q : ℕ) → start ≤ q → q < end → test q ≡ false
fails_from test start end here rest q low high =
    elim (cases_eq q start) [ inl same ↦ ap test same ∙ here | inr other ↦ rest q (omega arith) high ]

pub first_where-some : (test : ℕ → Bool) (start count : ℕ) (port : Port) → first_where test start count ≡ Some port → IsFirst test start count port
first_where-some test start zero port h = cc
first_where-some test start (suc count) port h =
    elim (find-some {X = Port} (test start) (record { 0 = start }) (first_where test (start + 1) count) port h) [
      | inl w ↦ (let here : start ≡ port.0 = ap (λ (p : Port). p.0) w.1 in
          record { passes = ap test (sym here) ∙ w.0; from = omega arith; below = omega arith; lowest = λ q low high. absurd (omega arith) })
      | inr w ↦ (let rest = first_where-some test (start + 1) count port w.1 in
          record { passes = rest.passes; from = omega arith; below = omega arith; lowest = fails_from test start port.0 w.0 rest.lowest })
    ]

-- where nothing is found, none of the numbers looked at passes
pub first_where-none : (test : ℕ → Bool) (start count : ℕ) → first_where test start count ≡ None → (q : ℕ) → start ≤ q → q < start + count → test q ≡ false
first_where-none test start zero h q low high = absurd (omega arith)
first_where-none test start (suc count) h q low high =
    let parts = cond_none {X = Port} (test start) (record { 0 = start }) (first_where test (start + 1) count) h in
    fails_from test start (start + suc count) parts.0 (λ r from below. first_where-none test (start + 1) count parts.1 r from (omega arith)) q low high

-- the port passes, is of the wanted parity, lies between the two, and is the lowest such
pub record IsLowest (test : ℕ → Bool) (lowest highest : ℕ) (wanted : Option Parity) (port : Port) : Type 0 where
  pub passes : test port.0 ≡ true
  pub kind : fits wanted port.0 ≡ true
  pub from : lowest ≤ port.0
  pub to : port.0 ≤ highest
  pub first : (q : ℕ) → lowest ≤ q → q < port.0 → fits wanted q ≡ true → test q ≡ false

pub lowest_open-some : (test : ℕ → Bool) (lowest highest : ℕ) (wanted : Option Parity) (port : Port) → lowest_open test lowest highest wanted ≡ Some port → IsLowest test lowest highest wanted port
lowest_open-some test lowest highest wanted port h =
    let first = first_where-some (is_open test wanted) lowest (highest + 1 - lowest) port h in
    let parts = and_parts (test port.0) (fits wanted port.0) first.passes in
    record {
      passes = parts.0;
      kind = parts.1;
      from = first.from;
      to = omega (arith, first.from, first.below);
      first = λ q low high fit. false_from_ne_true (test q) (λ holds. both_ways (is_open test wanted q) (first.lowest q low high) (and_from (test q) (fits wanted q) holds fit));
    }

-- where none is found, no port between the two passes and is of the wanted parity
pub lowest_open-none : (test : ℕ → Bool) (lowest highest : ℕ) (wanted : Option Parity) → lowest_open test lowest highest wanted ≡ None → (q : ℕ) → lowest ≤ q → q ≤ highest → fits wanted q ≡ true → test q ≡ false
lowest_open-none test lowest highest wanted h q low high fit =
    let none = first_where-none (is_open test wanted) lowest (highest + 1 - lowest) h q low (omega arith) in
    false_from_ne_true (test q) (λ holds. both_ways (is_open test wanted q) none (and_from (test q) (fits wanted q) holds fit))

pub or_else-some : (first second : Option Port) (port : Port) → or_else first second ≡ Some port → (first ≡ Some port) ⊎ ((first ≡ None) × (second ≡ Some port))
or_else-some None second port h = inr (refl, h)
or_else-some (Some p) second port h = inl h

pub or_else-none : (first second : Option Port) → or_else first second ≡ None → (first ≡ None) × (second ≡ None)
or_else-none None second h = (refl, h)
or_else-none (Some p) second h = cc

-- two parities are one where the test says so
pub parity-eq : (a b : Parity) → same_parity a b ≡ true → a ≡ b
parity-eq Even Even h = refl
parity-eq Even Odd h = cc
parity-eq Odd Even h = cc
parity-eq Odd Odd h = refl

pub parity-self : (a : Parity) → same_parity a a ≡ true
parity-self Even = refl
parity-self Odd = refl

pub parity-true : (a b : Parity) → a ≡ b → same_parity a b ≡ true
parity-true a b e = ap (same_parity a) (sym e) ∙ parity-self a

-- each port that may be given out lies between the two
abbrev pub Between : (ℕ → Bool) → ℕ → ℕ → Type 0
Between test lowest highest = (q : ℕ) → test q ≡ true → (lowest ≤ q) × (q ≤ highest)

at-or-above : (test : ℕ → Bool) (lowest highest : ℕ) (wanted : Option Parity) (port : Port) (q : ℕ) → Between test lowest highest → IsLowest test lowest highest wanted port → test q ≡ true → fits wanted q ≡ true → port.0 ≤ q
at-or-above test lowest highest wanted port q between is holds fit =
    elim (cases_lt q port.0) [
      | inl below ↦ absurd (both_ways (test q) (is.first q (between q holds).0 below fit) holds)
      | inr above ↦ above
    ]

-- a chosen port is one that `IsChosen` allows
pub chosen-is : (test : ℕ → Bool) (lowest highest : ℕ) (parity : Parity) (port : Port) → Between test lowest highest → chosen_open test lowest highest parity ≡ Some port → IsChosen test parity port
chosen-is test lowest highest parity port between h =
    elim (or_else-some (lowest_open test lowest highest (Some parity)) (lowest_open test lowest highest None) port h) [
      | inl w ↦ (let is = lowest_open-some test lowest highest (Some parity) port w in
          let kind : parity_of port.0 ≡ parity = parity-eq (parity_of port.0) parity is.kind in
          record {
            available = is.passes;
            like = λ q holds same. kind;
            lowest = λ q holds same. at-or-above test lowest highest (Some parity) port q between is holds (parity-true (parity_of q) parity (same ∙ kind));
          })
      | inr w ↦ (let is = lowest_open-some test lowest highest None port w.1 in
          record {
            available = is.passes;
            like = λ q holds same. absurd (both_ways (test q) (lowest_open-none test lowest highest (Some parity) w.0 q (between q holds).0 (between q holds).1 (parity-true (parity_of q) parity same)) holds);
            lowest = λ q holds same. at-or-above test lowest highest None port q between is holds refl;
          })
    ]

-- where no port is chosen, no port may be given out
pub chosen-none : (test : ℕ → Bool) (lowest highest : ℕ) (parity : Parity) → Between test lowest highest → chosen_open test lowest highest parity ≡ None → (q : ℕ) → test q ≡ false
chosen-none test lowest highest parity between h q =
    false_from_ne_true (test q) (λ holds.
    both_ways (test q) (lowest_open-none test lowest highest None (or_else-none (lowest_open test lowest highest (Some parity)) (lowest_open test lowest highest None) h).1 q (between q holds).0 (between q holds).1 refl) holds)

-- two tests that agree choose the same port
first_where-same : (a b : ℕ → Bool) (start count : ℕ) → ((q : ℕ) → a q ≡ b q) → first_where a start count ≡ first_where b start count
first_where-same a b start zero same = refl
first_where-same a b start (suc count) same =
    ap (λ x. cond x (Some (record { 0 = start })) (first_where a (start + 1) count)) (same start)
    ∙ ap (λ (o : Option Port). cond (b start) (Some (record { 0 = start })) o) (first_where-same a b (start + 1) count same)

pub chosen-same : (a b : ℕ → Bool) (lowest highest : ℕ) (parity : Parity) → ((q : ℕ) → a q ≡ b q) → chosen_open a lowest highest parity ≡ chosen_open b lowest highest parity
chosen-same a b lowest highest parity same =
    ap (λ o. or_else o (lowest_open a lowest highest None)) (one (Some parity)) ∙ ap (or_else (lowest_open b lowest highest (Some parity))) (one None)
  where
    one : (wanted : Option Parity) → lowest_open a lowest highest wanted ≡ lowest_open b lowest highest wanted
    one wanted = first_where-same (is_open a wanted) (is_open b wanted) lowest (highest + 1 - lowest) (λ q. ap (λ x. x && fits wanted q) (same q))

-- a port of a range that may be given out lies in the range
pub available-between : (range : Range) → IsRange range → Between (is_available range) range.lowest range.highest
available-between range is q holds =
    let within = is.free q (and_parts (is_free range q) (is_owned range q) holds).0 in
    let parts = and_parts (nat_le range.lowest q) (nat_le q range.highest) within in
    (leb-true range.lowest q parts.0, leb-true q range.highest parts.1)

-- where the answer is a port, the port is one that `IsChosen` allows
pub answer-like : (range : Range) (parity : Parity) (answer : Option Port) → IsRange range → answer ≡ chosen_port range parity → IfSome answer (IsChosen (is_available range) parity)
answer-like range parity None is e = tt
answer-like range parity (Some port) is e = chosen-is (is_available range) range.lowest range.highest parity port (available-between range is) (sym e)

-- where the answer is None, no port may be given out
pub answer-none : (range : Range) (parity : Parity) (answer : Option Port) → IsRange range → answer ≡ chosen_port range parity → IfNone answer ((port : ℕ) → is_available range port ≡ false)
answer-none range parity None is e = chosen-none (is_available range) range.lowest range.highest parity (available-between range is) (sym e)
answer-none range parity (Some port) is e = tt

-- ---- what a search by parity finds is the choice

-- the first number that passes is what the search gives
first_where-is : (test : ℕ → Bool) (start count : ℕ) (port : Port) → test port.0 ≡ true → start ≤ port.0 → port.0 < start + count → ((q : ℕ) → q < port.0 → test q ≡ false) → first_where test start count ≡ Some port
first_where-is test start zero port passes from below none = absurd (omega arith)
first_where-is test start (suc count) port passes from below none =
    elim (cases_eq port.0 start) [
      | inl same ↦ (cond-true (test start) (Some (record { 0 = start })) (first_where test (start + 1) count) (ap test (sym same) ∙ passes)
          ∙ ap (λ (n : ℕ). Some (record { 0 = n })) (sym same))
      | inr other ↦ (cond-false (test start) (Some (record { 0 = start })) (first_where test (start + 1) count) (none start (omega arith))
          ∙ first_where-is test (start + 1) count port passes (omega arith) (omega arith) none)
    ]

first_where-nothing : (test : ℕ → Bool) (start count : ℕ) → ((q : ℕ) → test q ≡ false) → first_where test start count ≡ None
first_where-nothing test start zero none = refl
first_where-nothing test start (suc count) none =
    cond-false (test start) (Some (record { 0 = start })) (first_where test (start + 1) count) (none start) ∙ first_where-nothing test (start + 1) count none

-- no port of the parity passes
abbrev pub NonePass : (ℕ → Bool) → Parity → Type 0
NonePass test parity = (q : ℕ) → parity_of q ≡ parity → test q ≡ false

-- the test of a parity fails where the number is of the other, or the test itself fails
not-of : (test : ℕ → Bool) (parity : Parity) (q : ℕ) → (parity_of q ≡ parity → test q ≡ false) → is_open test (Some parity) q ≡ false
not-of test parity q fails = false_from_ne_true (is_open test (Some parity) q) (λ holds.
    let parts = and_parts (test q) (same_parity (parity_of q) parity) holds in
    both_ways (test q) (fails (parity-eq (parity_of q) parity parts.1)) parts.0)

-- two parities are one, or the first is the other of the second
pub parity-cases : (a b : Parity) → (a ≡ b) ⊎ (a ≡ other_parity b)
parity-cases Even Even = inl refl
parity-cases Even Odd = inr refl
parity-cases Odd Even = inr refl
parity-cases Odd Odd = inl refl

-- the lowest port of the parity is chosen, where there is one
pub chosen-like : (test : ℕ → Bool) (lowest highest : ℕ) (parity : Parity) (port : Port) → Between test lowest highest → IsLowestOf test parity port → chosen_open test lowest highest parity ≡ Some port
chosen-like test lowest highest parity port between is =
    ap (λ o. or_else o (lowest_open test lowest highest None))
    (first_where-is (is_open test (Some parity)) lowest (highest + 1 - lowest) port
    (and_from (test port.0) (same_parity (parity_of port.0) parity) is.passes (parity-true (parity_of port.0) parity is.kind))
    (between port.0 is.passes).0 (omega (arith, (between port.0 is.passes).1, (between port.0 is.passes).0))
    (λ q low. not-of test parity q (is.lowest q low)))

none-like : (test : ℕ → Bool) (lowest highest : ℕ) (parity : Parity) → NonePass test parity → chosen_open test lowest highest parity ≡ lowest_open test lowest highest None
none-like test lowest highest parity none =
    ap (λ o. or_else o (lowest_open test lowest highest None))
    (first_where-nothing (is_open test (Some parity)) lowest (highest + 1 - lowest) (λ q. not-of test parity q (none q)))

-- where no port of the parity passes, the lowest of the other parity is chosen
pub chosen-other : (test : ℕ → Bool) (lowest highest : ℕ) (parity : Parity) (port : Port) → Between test lowest highest → NonePass test parity → IsLowestOf test (other_parity parity) port → chosen_open test lowest highest parity ≡ Some port
chosen-other test lowest highest parity port between none is =
    none-like test lowest highest parity none
    ∙ first_where-is (is_open test None) lowest (highest + 1 - lowest) port
    (and_from (test port.0) true is.passes refl)
    (between port.0 is.passes).0 (omega (arith, (between port.0 is.passes).1, (between port.0 is.passes).0))
    (λ q low. and_left (test q) true (elim (parity-cases (parity_of q) parity) [
      | inl same ↦ none q same
      | inr other ↦ is.lowest q low other
    ]))

-- where no port of either parity passes, none is chosen
pub chosen-nothing : (test : ℕ → Bool) (lowest highest : ℕ) (parity : Parity) → NonePass test parity → NonePass test (other_parity parity) → chosen_open test lowest highest parity ≡ None
chosen-nothing test lowest highest parity none others =
    none-like test lowest highest parity none
    ∙ first_where-nothing (is_open test None) lowest (highest + 1 - lowest) (λ q. and_left (test q) true (elim (parity-cases (parity_of q) parity) [
      | inl same ↦ none q same
      | inr other ↦ others q other
    ]))
