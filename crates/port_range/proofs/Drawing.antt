-- The port that is drawn: what it keeps, by its definition.
use Rattle.std.proofs.Common.{◌≡◌, ℕ, ◌+◌, ◌*◌, ◌/◌, ◌<◌, ◌≤◌, Bool, true, false, Option, Some, None, is_some, option_and_then, ◌⊎◌, inl, inr, IfSome, IfNone, refl, ap, ◌∙◌, sym, arith}
use Rattle.std.proofs.lemmas.Bool.{and_parts, and_from, both_ways, cases_lt, false_from_ne_true}
use Rattle.addresses.specs.declared.transport.Parity.{Parity}
use Rattle.addresses.specs.declared.transport.Port.{Port}
use Rattle.addresses.specs.Transport.{parity_of}
use Rattle.port_range.specs.Ports.{Range, same_parity, fits, is_open, is_free, is_owned, is_available, lowest_open, IsRange}
use Rattle.port_range.specs.Marks.{other_parity}
use Rattle.port_range.specs.Drawn.{picked, first_from, first_round, has_open, open_blocks, owned_in, drawn_in, drawn_like, drawn_open, drawn_port, IsLike}
use Rattle.port_range.proofs.Choice.{IsLowest, lowest_open-some, lowest_open-none, or_else-some, or_else-none, parity-eq, parity-true, parity-cases, available-between}
use Rattle.port_range.proofs.Counting.{get-passes, get-none, nothing-where}

-- ---- the lowest port between two

-- a port that is the lowest is the one that is found
pub lowest-is : (test : ℕ → Bool) (lowest highest : ℕ) (wanted : Option Parity) (port : Port) → IsLowest test lowest highest wanted port → lowest_open test lowest highest wanted ≡ Some port
lowest-is test lowest highest wanted port is = by-answer (lowest_open test lowest highest wanted) refl
  where
    same-port : (p : Port) → IsLowest test lowest highest wanted p → p.0 ≡ port.0
    same-port p found =
        elim (cases_lt p.0 port.0) [
          | inl below ↦ absurd (both_ways (test p.0) (is.first p.0 found.from below found.kind) found.passes)
          | inr up ↦ elim (cases_lt port.0 p.0) [
            | inl past ↦ absurd (both_ways (test port.0) (found.first port.0 is.from past is.kind) is.passes)
            | inr down ↦ omega (arith, up, down)
          ]
        ]

    by-answer : (o : Option Port) → lowest_open test lowest highest wanted ≡ o → lowest_open test lowest highest wanted ≡ Some port
    by-answer None e = absurd (both_ways (test port.0) (lowest_open-none test lowest highest wanted e port.0 is.from is.to is.kind) is.passes)
    by-answer (Some p) e = e ∙ ap (λ (n : ℕ). Some (record { 0 = n })) (same-port p (lowest_open-some test lowest highest wanted p e))

-- where no port of the wanted parity passes, none is found
pub lowest-nothing : (test : ℕ → Bool) (lowest highest : ℕ) (wanted : Option Parity) → ((q : ℕ) → lowest ≤ q → q ≤ highest → fits wanted q ≡ true → test q ≡ false) → lowest_open test lowest highest wanted ≡ None
lowest-nothing test lowest highest wanted none = by-answer (lowest_open test lowest highest wanted) refl
  where
    by-answer : (o : Option Port) → lowest_open test lowest highest wanted ≡ o → lowest_open test lowest highest wanted ≡ None
    by-answer None e = e
    by-answer (Some p) e =
        let found = lowest_open-some test lowest highest wanted p e in
        absurd (both_ways (test p.0) (none p.0 found.from found.to found.kind) found.passes)

-- ---- options

then-some : {X Y : Type 0} (f : X → Option Y) (o : Option X) (y : Y) → option_and_then f o ≡ Some y → (x : X) × (o ≡ Some x) × (f x ≡ Some y)
then-some f None y h = cc
then-some f (Some x) y h = (x, refl, h)

then-none : {X Y : Type 0} (f : X → Option Y) (o : Option X) → option_and_then f o ≡ None → (o ≡ None) ⊎ ((x : X) × (o ≡ Some x) × (f x ≡ None))
then-none f None h = inl refl
then-none f (Some x) h = inr (x, refl, h)

none-of : (o : Option Port) → is_some o ≡ false → o ≡ None
none-of None h = refl
none-of (Some p) h = cc

some-of : (o : Option Port) → is_some o ≡ true → (p : Port) × (o ≡ Some p)
some-of None h = cc
some-of (Some p) h = (p, refl)

-- ---- what is drawn passes, and is of the parity

round-some : (test : ℕ → Bool) (parity : Parity) (block place : ℕ) (port : Port) → first_round test parity block place ≡ Some port → (test port.0 ≡ true) × (parity_of port.0 ≡ parity)
round-some test parity block place port h =
    elim (or_else-some (first_from test parity block place) (first_from test parity block (block * 64)) port h) [
      | inl w ↦ (let is = lowest_open-some test place (block * 64 + 63) (Some parity) port w in (is.passes, parity-eq (parity_of port.0) parity is.kind))
      | inr w ↦ (let is = lowest_open-some test (block * 64) (block * 64 + 63) (Some parity) port w.1 in (is.passes, parity-eq (parity_of port.0) parity is.kind))
    ]

pub like-some : (test owned : ℕ → Bool) (parity : Parity) (x y : ℕ) (port : Port) → drawn_like test owned parity x y ≡ Some port → (test port.0 ≡ true) × (parity_of port.0 ≡ parity)
like-some test owned parity x y port h =
    let block = then-some {X = ℕ} {Y = Port} (drawn_in test owned parity y) (picked (open_blocks test parity) x) port h in
    let place = then-some {X = ℕ} {Y = Port} (first_round test parity block.0) (picked (owned_in owned parity block.0) y) port block.2 in
    round-some test parity block.0 place.0 port place.2

-- ---- where nothing is drawn, nothing passes

-- each port that may be given out is owned
abbrev pub AreOwned : (ℕ → Bool) → (ℕ → Bool) → Type 0
AreOwned test owned = (q : ℕ) → test q ≡ true → owned q ≡ true

-- each port that may be given out is a port
abbrev pub ArePorts : (ℕ → Bool) → Type 0
ArePorts test = (q : ℕ) → test q ≡ true → q < 65536

-- where nothing is drawn in a block, no port of the parity in it may be given out
pub in-none : (test owned : ℕ → Bool) (parity : Parity) (y block : ℕ) → AreOwned test owned → drawn_in test owned parity y block ≡ None
    → (q : ℕ) → block * 64 ≤ q → q ≤ block * 64 + 63 → parity_of q ≡ parity → test q ≡ false
unfolding owned_in
in-none test owned parity y block own h q low high kind =
    elim (then-none {X = ℕ} {Y = Port} (first_round test parity block) (picked (owned_in owned parity block) y) h) [
      | inl nothing ↦ (let closed = nothing-where (is_open owned (Some parity)) (block * 64) 64 (get-none (owned_in owned parity block) y nothing) q low (omega (arith, high)) in
          false_from_ne_true (test q) (λ holds.
          both_ways (is_open owned (Some parity) q) closed (and_from (owned q) (same_parity (parity_of q) parity) (own q holds) (parity-true (parity_of q) parity kind))))
      | inr w ↦ (let none = (or_else-none (first_from test parity block w.0) (first_from test parity block (block * 64)) w.2).1 in
          lowest_open-none test (block * 64) (block * 64 + 63) (Some parity) none q low high (parity-true (parity_of q) parity kind))
    ]

-- in a block that has an open port of the parity one is drawn
pub in-some : (test owned : ℕ → Bool) (parity : Parity) (y block : ℕ) → AreOwned test owned → has_open test parity block ≡ true → drawn_in test owned parity y block ≡ None → ⊥
in-some test owned parity y block own opened h =
    let first = some-of (first_from test parity block (block * 64)) opened in
    let is = lowest_open-some test (block * 64) (block * 64 + 63) (Some parity) first.0 first.1 in
    both_ways (test first.0.0) (in-none test owned parity y block own h first.0.0 is.from is.to (parity-eq (parity_of first.0.0) parity is.kind)) is.passes

like-none : (test owned : ℕ → Bool) (parity : Parity) (x y : ℕ) → AreOwned test owned → drawn_like test owned parity x y ≡ None
    → (q : ℕ) → q < 65536 → parity_of q ≡ parity → test q ≡ false
unfolding open_blocks
like-none test owned parity x y own h q low kind =
    elim (then-none {X = ℕ} {Y = Port} (drawn_in test owned parity y) (picked (open_blocks test parity) x) h) [
      | inl nothing ↦ (let closed = nothing-where (has_open test parity) 0 1024 (get-none (open_blocks test parity) x nothing) (q / 64) (omega arith) (omega (arith, low)) in
          let none = none-of (first_from test parity (q / 64) (q / 64 * 64)) closed in
          lowest_open-none test (q / 64 * 64) (q / 64 * 64 + 63) (Some parity) none q (omega arith) (omega arith) (parity-true (parity_of q) parity kind))
      | inr w ↦ absurd (in-some test owned parity y w.0 own (get-passes (has_open test parity) 0 1024 _ w.0 w.1).0 w.2)
    ]

-- ---- both parities

-- a drawn port is one that `IsLike` allows
pub drawn-is : (test owned : ℕ → Bool) (parity : Parity) (x y : ℕ) (port : Port) → AreOwned test owned → ArePorts test → drawn_open test owned parity x y ≡ Some port → IsLike test parity port
drawn-is test owned parity x y port own ports h =
    elim (or_else-some (drawn_like test owned parity x y) (drawn_like test owned (other_parity parity) x y) port h) [
      | inl w ↦ (let is = like-some test owned parity x y port w in record { available = is.0; like = λ q holds same. is.1 })
      | inr w ↦ (let is = like-some test owned (other_parity parity) x y port w.1 in
          record { available = is.0; like = λ q holds same. absurd (both_ways (test q) (like-none test owned parity x y own w.0 q (ports q holds) same) holds) })
    ]

-- where no port is drawn, no port may be given out
pub drawn-none : (test owned : ℕ → Bool) (parity : Parity) (x y : ℕ) → AreOwned test owned → ArePorts test → drawn_open test owned parity x y ≡ None → (q : ℕ) → test q ≡ false
drawn-none test owned parity x y own ports h q =
    let parts = or_else-none (drawn_like test owned parity x y) (drawn_like test owned (other_parity parity) x y) h in
    false_from_ne_true (test q) (λ holds. both_ways (test q) (elim (parity-cases (parity_of q) parity) [
      | inl same ↦ like-none test owned parity x y own parts.0 q (ports q holds) same
      | inr other ↦ like-none test owned (other_parity parity) x y own parts.1 q (ports q holds) other
    ]) holds)

-- tests that agree draw the same port
pub drawn-same : (a b c d : ℕ → Bool) (parity : Parity) (x y : ℕ) → ((q : ℕ) → a q ≡ b q) → ((q : ℕ) → c q ≡ d q) → drawn_open a c parity x y ≡ drawn_open b d parity x y
drawn-same a b c d parity x y same-a same-c = λ i. drawn_open (λ q. same-a q i) (λ q. same-c q i) parity x y

-- ---- of a range

available-owned : (range : Range) → AreOwned (is_available range) (is_owned range)
available-owned range q holds = (and_parts (is_free range q) (is_owned range q) holds).1

available-ports : (range : Range) → IsRange range → ArePorts (is_available range)
available-ports range is q holds = (let to = (available-between range is q holds).1 in omega (arith, to, is.high))

-- where the answer is a port, the port is one that `IsLike` allows
pub answer-alike : (range : Range) (parity : Parity) (x y : ℕ) (answer : Option Port) → IsRange range → answer ≡ drawn_port range parity x y → IfSome answer (IsLike (is_available range) parity)
answer-alike range parity x y None is e = tt
answer-alike range parity x y (Some port) is e =
    drawn-is (is_available range) (is_owned range) parity x y port (available-owned range) (available-ports range is) (sym e)

-- where the answer is None, no port may be given out
pub answer-nothing : (range : Range) (parity : Parity) (x y : ℕ) (answer : Option Port) → IsRange range → answer ≡ drawn_port range parity x y → IfNone answer ((port : ℕ) → is_available range port ≡ false)
answer-nothing range parity x y None is e =
    drawn-none (is_available range) (is_owned range) parity x y (available-owned range) (available-ports range is) (sym e)
answer-nothing range parity x y (Some port) is e = tt
