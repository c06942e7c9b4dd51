-- Which ports of a range are listed by their marks.
use Rattle.std.proofs.Common.{◌≡◌, ℕ, zero, suc, ◌+◌, ◌-◌, ◌/◌, ◌<◌, ◌≤◌, ◌==◌, nat_le, Bool, true, false, cond, ◌&&◌, ◌||◌, not, Option, Some, None, IfSome, IfNone, inl, inr, List, [], ◌∷◌, refl, ap, ◌∙◌, sym, arith}
use Rattle.std.proofs.lemmas.Bool.{both_ways, cases_eq, cases_lt, eq-eqb, ne_eqb, or_left, and_left, and_right, and_from, le-leb, lt-leb, cond-true, cond-false, leb-true, and_parts, false_from_ne_true}
use Rattle.addresses.specs.declared.transport.Port.{Port}
use Rattle.port_range.specs.Ports.{is_listed, is_within, is_available, IsRange, RiseAbove, chosen_open, chosen_port, same_parity}
use Rattle.addresses.specs.declared.transport.Parity.{Parity}
use Rattle.addresses.specs.declared.transport.Parity.TheVariants.{Even, Odd}
use Rattle.addresses.specs.Transport.{parity_of}
use Rattle.port_range.specs.Searches.{IsFirstFrom}
use Rattle.port_range.specs.Words.{has_bit}
use Rattle.port_range.specs.Marks.{Marked, has_both, other_parity, words_looked_at, ports_where, ranged, HasMarks, IsLowestOf}
use Rattle.port_range.proofs.Choice.{Between, NonePass, chosen-same, chosen-like, chosen-other, chosen-nothing, parity-true}

-- ---- lists by a test

-- a port is listed where it is the first and passes, or among the rest
first-listed : (passes : Bool) (first q : ℕ) (rest : List ℕ) → is_listed q (cond passes (first ∷ rest) rest) ≡ ((passes && (first == q)) || is_listed q rest)
first-listed true first q rest = refl
first-listed false first q rest = refl

not-first : (passes same rest : Bool) → same ≡ false → ((passes && same) || rest) ≡ rest
not-first passes same rest is = ap (λ b. b || rest) (and_right passes same is)

is-first : (passes same rest : Bool) → same ≡ true → rest ≡ false → ((passes && same) || rest) ≡ passes
is-first true same rest is none = or_left same rest is
is-first false same rest is none = none

-- a port below the start, or past the last one, isn't listed
where-outside : (test : ℕ → Bool) (start count q : ℕ) → (start ≤ q → start + count ≤ q) → is_listed q (ports_where test start count) ≡ false
where-outside test start zero q out = refl
where-outside test start (suc count) q out =
    first-listed (test start) start q (ports_where test (start + 1) count)
    ∙ not-first (test start) (start == q) (is_listed q (ports_where test (start + 1) count)) (ne_eqb start q (λ e. absurd (omega (arith, out (omega arith)))))
    ∙ where-outside test (start + 1) count q (λ low. omega (arith, out (omega arith)))

-- a port between the start and the last one is listed where it passes
where-within : (test : ℕ → Bool) (start count q : ℕ) → start ≤ q → q < start + count → is_listed q (ports_where test start count) ≡ test q
where-within test start zero q low high = absurd (omega arith)
where-within test start (suc count) q low high =
    first-listed (test start) start q (ports_where test (start + 1) count)
    ∙ elim (cases_eq q start) [
      | inl same ↦ (is-first (test start) (start == q) (is_listed q (ports_where test (start + 1) count)) (eq-eqb start q (sym same)) (where-outside test (start + 1) count q (λ more. absurd (omega arith)))
          ∙ ap test (sym same))
      | inr other ↦ (not-first (test start) (start == q) (is_listed q (ports_where test (start + 1) count)) (ne_eqb start q (λ e. other (sym e)))
          ∙ where-within test (start + 1) count q (omega arith) (omega arith))
    ]

-- each port that passes lies in the range
abbrev pub PassWithin : ℕ → ℕ → (ℕ → Bool) → Type 0
PassWithin lowest highest test = (port : ℕ) → test port ≡ true → is_within lowest highest port ≡ true

-- the ports of a range that pass a test are those that pass it
pub where-is : (lowest highest : ℕ) (test : ℕ → Bool) → lowest ≤ highest → PassWithin lowest highest test → (q : ℕ) → is_listed q (ports_where test lowest (highest + 1 - lowest)) ≡ test q
where-is lowest highest test order within q =
    elim (cases_lt q lowest) [
      | inl below ↦ where-outside test lowest (highest + 1 - lowest) q (λ from. absurd (omega arith)) ∙ sym (fails (and_left (nat_le lowest q) (nat_le q highest) (lt-leb lowest q below)))
      | inr from ↦ elim (cases_lt highest q) [
        | inl past ↦ where-outside test lowest (highest + 1 - lowest) q (λ from. omega arith) ∙ sym (fails (and_right (nat_le lowest q) (nat_le q highest) (lt-leb q highest past)))
        | inr to ↦ where-within test lowest (highest + 1 - lowest) q from (omega arith)
      ]
    ]
  where
    fails : is_within lowest highest q ≡ false → test q ≡ false
    fails outside = false_from_ne_true (test q) (λ holds. both_ways (is_within lowest highest q) outside (within q holds))

-- the listed ports rise, above any number before the first
rise-on : (passes : Bool) (low first : ℕ) (rest : List ℕ) → low < first → RiseAbove first rest → RiseAbove low rest → RiseAbove low (cond passes (first ∷ rest) rest)
rise-on true low first rest before from_first from_low = (before, from_first)
rise-on false low first rest before from_first from_low = from_low

where-rising : (test : ℕ → Bool) (low start count : ℕ) → low < start → RiseAbove low (ports_where test start count)
where-rising test low start zero before = tt
where-rising test low start (suc count) before =
    rise-on (test start) low start (ports_where test (start + 1) count) before (where-rising test start (start + 1) count (omega arith)) (where-rising test low (start + 1) count (omega arith))

-- where no port passes, the list is empty
pub where-none : (test : ℕ → Bool) (start count : ℕ) → ((q : ℕ) → test q ≡ false) → ports_where test start count ≡ []
where-none test start zero none = refl
where-none test start (suc count) none =
    cond-false (test start) (start ∷ ports_where test (start + 1) count) (ports_where test (start + 1) count) (none start) ∙ where-none test (start + 1) count none

-- ---- a range by its marks

-- a range by its marks keeps what each range does
pub kept-marks : (lowest highest : ℕ) (marks : Marked) → HasMarks lowest highest marks → IsRange (ranged lowest highest marks)
kept-marks lowest highest marks h = record {
  low = h.low;
  order = h.order;
  high = h.high;
  free = λ port listed. h.free port (sym (where-is lowest highest (has_bit marks.free) h.order h.free port) ∙ listed);
  owned = λ port listed. h.owned port (sym (where-is lowest highest (has_bit marks.owned) h.order h.owned port) ∙ listed);
  rising = where-rising (has_bit marks.owned) 0 lowest (highest + 1 - lowest) (let low : 1024 ≤ lowest = h.low in omega arith);
}

-- a port may be given out where it has both marks
pub available-is : (lowest highest : ℕ) (marks : Marked) → HasMarks lowest highest marks → (q : ℕ) → is_available (ranged lowest highest marks) q ≡ has_both marks.free marks.owned q
available-is lowest highest marks h q =
    ap (λ b. b && is_listed q (ports_where (has_bit marks.owned) lowest (highest + 1 - lowest))) (where-is lowest highest (has_bit marks.free) h.order h.free q)
    ∙ ap (λ b. has_bit marks.free q && b) (where-is lowest highest (has_bit marks.owned) h.order h.owned q)

-- one port's mark is written, and all others stay
abbrev pub ArePut : ℕ → Bool → List ℕ → List ℕ → Type 0
ArePut port flag old new = (p : ℕ) → has_bit new p ≡ cond (p == port) flag (has_bit old p)

-- each marked port lies in the range after one mark is written, where the port of that mark does
pub within-put : (lowest highest port : ℕ) (flag : Bool) (old new : List ℕ) → PassWithin lowest highest (has_bit old) → (flag ≡ true → is_within lowest highest port ≡ true) → ArePut port flag old new → PassWithin lowest highest (has_bit new)
within-put lowest highest port flag old new within fits put p holds =
    elim (cases_eq p port) [
      | inl same ↦ ap (is_within lowest highest) same ∙ fits (sym (put p ∙ cond-true (p == port) flag (has_bit old p) (eq-eqb p port same)) ∙ holds)
      | inr other ↦ within p (sym (put p ∙ cond-false (p == port) flag (has_bit old p) (ne_eqb p port other)) ∙ holds)
    ]

-- a port is listed after its mark is written where the mark is set
pub listed-put : (lowest highest port : ℕ) (flag : Bool) (old new : List ℕ) → lowest ≤ highest → PassWithin lowest highest (has_bit old) → (flag ≡ true → is_within lowest highest port ≡ true) → ArePut port flag old new
    → (p : ℕ) → is_listed p (ports_where (has_bit new) lowest (highest + 1 - lowest)) ≡ cond (p == port) flag (is_listed p (ports_where (has_bit old) lowest (highest + 1 - lowest)))
listed-put lowest highest port flag old new order before fits put p =
    where-is lowest highest (has_bit new) order (within-put lowest highest port flag old new before fits put) p ∙ put p
    ∙ ap (cond (p == port) flag) (sym (where-is lowest highest (has_bit old) order before p))

-- where all ports of a range are marked, or none is, they are listed so
pub listed-filled : (lowest highest : ℕ) (flag : Bool) (marks : List ℕ) → lowest ≤ highest → ((p : ℕ) → has_bit marks p ≡ (flag && is_within lowest highest p))
    → (p : ℕ) → is_listed p (ports_where (has_bit marks) lowest (highest + 1 - lowest)) ≡ (flag && is_within lowest highest p)
listed-filled lowest highest flag marks order filled p =
    where-is lowest highest (has_bit marks) order (λ q holds. (and_parts flag (is_within lowest highest q) (sym (filled q) ∙ holds)).1) p ∙ filled p

-- the ports between two are marked too
abbrev pub AreMore : ℕ → ℕ → List ℕ → List ℕ → Type 0
AreMore low high old new = (p : ℕ) → has_bit new p ≡ (has_bit old p || is_within low high p)

either : {P : Type 0} (b c : Bool) → (b ≡ true → P) → (c ≡ true → P) → (b || c) ≡ true → P
either true c one two h = one refl
either false c one two h = two h

within-wider : (lowest highest low high p : ℕ) → lowest ≤ low → high ≤ highest → is_within low high p ≡ true → is_within lowest highest p ≡ true
within-wider lowest highest low high p below above h =
    let parts = and_parts (nat_le low p) (nat_le p high) h in
    let from : low ≤ p = leb-true low p parts.0 in
    let to : p ≤ high = leb-true p high parts.1 in
    and_from (nat_le lowest p) (nat_le p highest) (le-leb lowest p (omega arith)) (le-leb p highest (omega arith))

pub within-more : (lowest highest low high : ℕ) (old new : List ℕ) → PassWithin lowest highest (has_bit old) → lowest ≤ low → high ≤ highest → AreMore low high old new → PassWithin lowest highest (has_bit new)
within-more lowest highest low high old new before below above more p holds =
    either (has_bit old p) (is_within low high p) (before p) (within-wider lowest highest low high p below above) (sym (more p) ∙ holds)

pub listed-more : (lowest highest low high : ℕ) (old new : List ℕ) → lowest ≤ highest → PassWithin lowest highest (has_bit old) → lowest ≤ low → high ≤ highest → AreMore low high old new
    → (p : ℕ) → is_listed p (ports_where (has_bit new) lowest (highest + 1 - lowest)) ≡ (is_listed p (ports_where (has_bit old) lowest (highest + 1 - lowest)) || is_within low high p)
listed-more lowest highest low high old new order before below above more p =
    where-is lowest highest (has_bit new) order (within-more lowest highest low high old new before below above more) p ∙ more p
    ∙ ap (λ b. b || is_within low high p) (sym (where-is lowest highest (has_bit old) order before p))

-- ---- the next port

-- a port that is the first by one test is the first by a test that agrees
pub some-first : (answer : Option Port) (a b : ℕ → Bool) (start : ℕ) → ((q : ℕ) → b q ≡ a q) → IfSome answer (λ port. IsFirstFrom a start port.0) → IfSome answer (λ port. IsFirstFrom b start port.0)
some-first None a b start same h = tt
some-first (Some port) a b start same h = record {
  passes = same port.0 ∙ h.passes;
  from = h.from;
  first = λ q low high. same q ∙ h.first q low high;
}

-- where no port passes below 65536, none passes at all
pub none-first : (answer : Option Port) (a b : ℕ → Bool) (start : ℕ) → ((q : ℕ) → b q ≡ a q) → ((q : ℕ) → 65536 ≤ q → b q ≡ false)
    → IfNone answer ((port : ℕ) → start ≤ port → port < 65536 → a port ≡ false) → IfNone answer ((port : ℕ) → start ≤ port → b port ≡ false)
none-first None a b start same past h = λ port from.
    elim (cases_lt port 65536) [ inl low ↦ same port ∙ h port from low | inr high ↦ past port high ]
none-first (Some port) a b start same past h = tt

not-false : (b : Bool) → not b ≡ false → b ≡ true
not-false true h = refl
not-false false h = cc

-- where each port is marked, each is listed
pub all-first : (answer : Option Port) (marked listed : ℕ → Bool) (start : ℕ) → ((q : ℕ) → listed q ≡ marked q)
    → IfNone answer ((port : ℕ) → start ≤ port → port < 65536 → not (marked port) ≡ false) → IfNone answer ((port : ℕ) → start ≤ port → port < 65536 → listed port ≡ true)
all-first None marked listed start same h = λ port from low. same port ∙ not-false (marked port) (h port from low)
all-first (Some port) marked listed start same h = tt

-- no port past all ports is owned
pub past-owned : (lowest highest : ℕ) (marks : Marked) → HasMarks lowest highest marks → (q : ℕ) → 65536 ≤ q → is_listed q (ports_where (has_bit marks.owned) lowest (highest + 1 - lowest)) ≡ false
past-owned lowest highest marks h q far =
    where-is lowest highest (has_bit marks.owned) h.order h.owned q
    ∙ false_from_ne_true (has_bit marks.owned q) (λ holds.
    let parts = and_parts (nat_le lowest q) (nat_le q highest) (h.owned q holds) in
    let to : q ≤ highest = leb-true q highest parts.1 in
    let top : highest ≤ 65535 = h.high in absurd (omega arith))

-- ---- the choice

between : (lowest highest : ℕ) (marks : Marked) → HasMarks lowest highest marks → Between (has_both marks.free marks.owned) lowest highest
between lowest highest marks h q holds =
    let within = h.free q (and_parts (has_bit marks.free q) (has_bit marks.owned q) holds).0 in
    let parts = and_parts (nat_le lowest q) (nat_le q highest) within in
    (leb-true lowest q parts.0, leb-true q highest parts.1)

choice : (lowest highest : ℕ) (marks : Marked) (parity : Parity) → HasMarks lowest highest marks → chosen_port (ranged lowest highest marks) parity ≡ chosen_open (has_both marks.free marks.owned) lowest highest parity
choice lowest highest marks parity h =
    chosen-same (is_available (ranged lowest highest marks)) (has_both marks.free marks.owned) lowest highest parity (available-is lowest highest marks h)

-- the lowest port of the parity that is found is the chosen one
pub found-like : (lowest highest : ℕ) (marks : Marked) (parity : Parity) (port : Port) → HasMarks lowest highest marks → IsLowestOf (has_both marks.free marks.owned) parity port
    → Some port ≡ chosen_port (ranged lowest highest marks) parity
found-like lowest highest marks parity port h is =
    sym (choice lowest highest marks parity h ∙ chosen-like (has_both marks.free marks.owned) lowest highest parity port (between lowest highest marks h) is)

-- where no port of the parity is found, the lowest of the other parity is the chosen one
pub found-other : (lowest highest : ℕ) (marks : Marked) (parity : Parity) (answer : Option Port) → HasMarks lowest highest marks → NonePass (has_both marks.free marks.owned) parity
    → IfSome answer (IsLowestOf (has_both marks.free marks.owned) (other_parity parity)) → IfNone answer (NonePass (has_both marks.free marks.owned) (other_parity parity))
    → answer ≡ chosen_port (ranged lowest highest marks) parity
found-other lowest highest marks parity None h none some others =
    sym (choice lowest highest marks parity h ∙ chosen-nothing (has_both marks.free marks.owned) lowest highest parity none others)
found-other lowest highest marks parity (Some port) h none some others =
    sym (choice lowest highest marks parity h ∙ chosen-other (has_both marks.free marks.owned) lowest highest parity port (between lowest highest marks h) none some)

-- ---- how many words are looked at

-- a found port is at most 65535
found-port : (lowest highest : ℕ) (marks : Marked) (parity : Parity) (port : Port) → HasMarks lowest highest marks → IsLowestOf (has_both marks.free marks.owned) parity port → port.0 ≤ 65535
found-port lowest highest marks parity port h is = omega (arith, (between lowest highest marks h port.0 is.passes).1, h.high)

pub looked-like : (lowest highest : ℕ) (marks : Marked) (parity : Parity) (port : Port) (looked : ℕ) → HasMarks lowest highest marks → IsLowestOf (has_both marks.free marks.owned) parity port
    → looked ≡ port.0 / 4096 + 3 → (looked ≡ words_looked_at parity (Some port)) × (looked ≤ 34)
looked-like lowest highest marks parity port looked h is many =
    let same = cond-true {A = ℕ} (same_parity (parity_of port.0) parity) 0 16 (parity-true (parity_of port.0) parity is.kind) in
    (omega (arith, same, many), omega (arith, many, found-port lowest highest marks parity port h is))

pub other-parity : (parity : Parity) → same_parity (other_parity parity) parity ≡ false
other-parity Even = refl
other-parity Odd = refl

pub looked-other : (lowest highest : ℕ) (marks : Marked) (parity : Parity) (answer : Option Port) (looked more : ℕ) → HasMarks lowest highest marks → looked ≡ 16
    → IfSome answer (IsLowestOf (has_both marks.free marks.owned) (other_parity parity)) → IfSome answer (λ port. more ≡ port.0 / 4096 + 3) → IfNone answer (more ≡ 16)
    → (looked + more ≡ words_looked_at parity answer) × (looked + more ≤ 34)
looked-other lowest highest marks parity None looked more h whole is some none = (omega (arith, whole, none), omega (arith, whole, none))
looked-other lowest highest marks parity (Some port) looked more h whole is some none =
    let apart = cond-false {A = ℕ} (same_parity (parity_of port.0) parity) 0 16 (ap (λ (p : Parity). same_parity p parity) is.kind ∙ other-parity parity) in
    (omega (arith, apart, whole, some), omega (arith, whole, some, found-port lowest highest marks (other_parity parity) port h is))
