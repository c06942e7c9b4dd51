-- The tests of a packet inside an error, and what they say of numbers.
use Rattle.std.proofs.Common.{refl, ◌≡◌, ◌≤◌, ◌<◌, ℕ, ◌+◌, ◌%◌, Bool, true, false, not, ◌||◌, ◌==◌, nat_lt, arith, ap, ◌∙◌, sym, List, IsTrue, ◌↔◌}
use Rattle.std.proofs.lemmas.Bool.Decides.{nat_tests}
use Rattle.sums.specs.Sum.{word_sum, IsRight}
use Rattle.ipv4.specs.Header.{has_wrong_sum}

-- the tests of a header, on numbers in the place of bytes
abbrev pub no_header : (long version header sum offset protocol : ℕ) → Bool
no_header long version header sum offset protocol =
    nat_lt long 20
    || not (version == 4)
    || nat_lt header 20
    || nat_lt long (header + 8)
    || (not (sum % 65535 == 0) || (sum == 0))
    || not (offset == 0)
    || not ((protocol == 1) || (protocol == 6) || (protocol == 17))

abbrev pub no_packet : (long version header sum offset protocol : ℕ) (other : Bool) (from to : ℕ) → Bool
no_packet long version header sum offset protocol other from to =
    no_header long version header sum offset protocol || other || ((from == 0) || (to == 0))

pub record Passes (long version header sum offset protocol : ℕ) (other : Bool) (from to : ℕ) : Type 0 where
  pub whole : 20 ≤ long
  pub version_four : version ≡ 4
  pub holds_fields : 20 ≤ header
  pub there : header + 8 ≤ long
  pub sum_zero : sum % 65535 ≡ 0
  pub sum_some : 0 < sum
  pub first : offset ≡ 0
  pub translated : ((protocol == 1) || (protocol == 6) || (protocol == 17)) ≡ true
  pub query : other ≡ false
  pub from_some : 0 < from
  pub to_some : 0 < to

-- where none of three tests is true, each of them is false
pub three-clear : (a b d : Bool) → (a || b || d) ≡ false → (a ≡ false) × ((b ≡ false) × (d ≡ false))
three-clear false false false e = (refl, (refl, refl))
three-clear false false true e = cc
three-clear false true d e = cc
three-clear true b d e = cc

pub passes-header : (long version header sum offset protocol : ℕ) (other : Bool) (from to : ℕ) → no_header long version header sum offset protocol ≡ false → other ≡ false → ((from == 0) || (to == 0)) ≡ false
    → Passes long version header sum offset protocol other from to
passes-header long version header sum offset protocol other from to e query ports =
    let a : 20 ≤ long = grind (arith, nat_tests) in
    let b : version ≡ 4 = grind (arith, nat_tests) in
    let c : 20 ≤ header = grind (arith, nat_tests) in
    let d : header + 8 ≤ long = grind (arith, nat_tests) in
    let f : sum % 65535 ≡ 0 = grind (arith, nat_tests) in
    let g : 0 < sum = grind (arith, nat_tests) in
    let h : offset ≡ 0 = grind (arith, nat_tests) in
    let i : ((protocol == 1) || (protocol == 6) || (protocol == 17)) ≡ true = grind (arith, nat_tests) in
    let j : 0 < from = grind (arith, nat_tests) in
    let k : 0 < to = grind (arith, nat_tests) in
    record { whole = a; version_four = b; holds_fields = c; there = d; sum_zero = f; sum_some = g; first = h; translated = i; query = query; from_some = j; to_some = k }

pub none-passes : (long version header sum offset protocol : ℕ) (other : Bool) (from to : ℕ) → no_packet long version header sum offset protocol other from to ≡ false
    → Passes long version header sum offset protocol other from to
none-passes long version header sum offset protocol other from to e =
    let clear = three-clear (no_header long version header sum offset protocol) other ((from == 0) || (to == 0)) e in
    passes-header long version header sum offset protocol other from to clear.0 clear.1.0 clear.1.1

pub passes-none : (long version header sum offset protocol : ℕ) (other : Bool) (from to : ℕ) → Passes long version header sum offset protocol other from to
    → no_packet long version header sum offset protocol other from to ≡ false
passes-none long version header sum offset protocol false from to p = grind (arith, nat_tests)
passes-none long version header sum offset protocol true from to p = let e = p.query in cc

-- a right sum isn't a wrong one
right-number : (n : ℕ) (r : Bool) → IsTrue r ↔ ((n % 65535 ≡ 0) × (0 < n)) → r ≡ true → (not (n % 65535 == 0) || (n == 0)) ≡ false
right-number n r decides tested = grind (arith, nat_tests)

pub not_wrong : (bytes : List ℕ) (r : Bool) → IsTrue r ↔ IsRight bytes → r ≡ true → has_wrong_sum bytes ≡ false
not_wrong bytes r decides tested = right-number (word_sum bytes) r decides tested

-- where the first two of three tests are false, the third decides
pub third_decides : (a b x y : Bool) → a ≡ false → b ≡ false → x ≡ y → x ≡ (a || b || y)
third_decides a b x y e f same = same ∙ (ap (λ (t : Bool). false || t || y) (sym f) ∙ ap (λ (t : Bool). t || b || y) (sym e))
