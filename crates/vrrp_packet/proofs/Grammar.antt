-- The tests of an advertisement, and what they say of numbers.
use Rattle.std.proofs.Common.{◌≡◌, ◌≤◌, ◌<◌, ℕ, ◌+◌, ◌*◌, ◌%◌, Bool, true, false, not, ◌&&◌, ◌||◌, ◌==◌, nat_lt, ◌⊎◌, List, [], ◌∷◌, ◌++◌, length, ap, ◌∙◌, sym, arith, Option, None, IsTrue, ◌↔◌}
use Rattle.std.proofs.lemmas.Bool.Decides.{nat_tests}
use Rattle.sums.specs.Sum.{word_sum, ones_sum, IsRight}
use Rattle.sums.proofs.Offered.{word_sum-append}
use Rattle.ipv4.specs.Order.{first_fault}
use Rattle.ipv4.specs.Header.{has_wrong_sum}
use Rattle.vrrp_packet.specs.declared.AdvertFault.{AdvertFault}
use Rattle.vrrp_packet.specs.declared.AdvertFault.TheVariants.{BadTtl, BadVersion, BadType, TooShort, NoAddress, BadSum, ZeroInterval}

-- where not both of two sums are wrong, one of them is right
wrong_sum-false : (n m : ℕ) → ((not (n % 65535 == 0) || (n == 0)) && (not (m % 65535 == 0) || (m == 0))) ≡ false
    → ((n % 65535 ≡ 0) × (0 < n)) ⊎ ((m % 65535 ≡ 0) × (0 < m))
wrong_sum-false n m e = grind (arith, nat_tests)

wrong_sum-none : (n m : ℕ) → ((n % 65535 ≡ 0) × (0 < n)) ⊎ ((m % 65535 ≡ 0) × (0 < m))
    → ((not (n % 65535 == 0) || (n == 0)) && (not (m % 65535 == 0) || (m == 0))) ≡ false
wrong_sum-none n m right = grind (arith, nat_tests)

pub one_right : (a b : List ℕ) → (has_wrong_sum a && has_wrong_sum b) ≡ false → IsRight a ⊎ IsRight b
one_right a b e = wrong_sum-false (word_sum a) (word_sum b) e

pub not_both_wrong : (a b : List ℕ) → IsRight a ⊎ IsRight b → (has_wrong_sum a && has_wrong_sum b) ≡ false
not_both_wrong a b right = wrong_sum-none (word_sum a) (word_sum b) right

-- the tests of an advertisement, on numbers in the place of bytes
abbrev pub refusal : (ttl long version kind count size interval : ℕ) → Bool → Option AdvertFault
refusal ttl long version kind count size interval wrong =
    first_fault (
    (not (ttl == 255), BadTtl)
    ∷ (nat_lt long 8, TooShort)
    ∷ (not (version == 3), BadVersion)
    ∷ (not (kind == 1), BadType)
    ∷ (count == 0, NoAddress)
    ∷ (nat_lt long size, TooShort)
    ∷ (wrong, BadSum)
    ∷ (interval == 0, ZeroInterval)
    ∷ [])

pub record Passes (ttl long version kind count size interval : ℕ) (wrong : Bool) : Type 0 where
  pub one_hop : ttl ≡ 255
  pub whole : 8 ≤ long
  pub version_three : version ≡ 3
  pub kind_one : kind ≡ 1
  pub some_address : 0 < count
  pub there : size ≤ long
  pub sum : wrong ≡ false
  pub some_interval : 0 < interval

pub refusal-none : (ttl long version kind count size interval : ℕ) (wrong : Bool) → refusal ttl long version kind count size interval wrong ≡ None
    → Passes ttl long version kind count size interval wrong
refusal-none ttl long version kind count size interval wrong e =
    let a : ttl ≡ 255 = grind (arith, nat_tests) in
    let b : 8 ≤ long = grind (arith, nat_tests) in
    let c : version ≡ 3 = grind (arith, nat_tests) in
    let d : kind ≡ 1 = grind (arith, nat_tests) in
    let f : 0 < count = grind (arith, nat_tests) in
    let g : size ≤ long = grind (arith, nat_tests) in
    let h : wrong ≡ false = grind (arith, nat_tests) in
    let i : 0 < interval = grind (arith, nat_tests) in
    record { one_hop = a; whole = b; version_three = c; kind_one = d; some_address = f; there = g; sum = h; some_interval = i }

pub none-passes : (ttl long version kind count size interval : ℕ) (wrong : Bool) → Passes ttl long version kind count size interval wrong
    → refusal ttl long version kind count size interval wrong ≡ None
none-passes ttl long version kind count size interval wrong p = grind (arith, nat_tests)

-- a one's complement sum has all bits set exactly where the words have a right sum
all_ones : (m n : ℕ) → not (ones_sum (m + n) == 65535) ≡ (not ((m + n) % 65535 == 0) || ((m + n) == 0))
all_ones m n = grind (arith, nat_tests)

-- where the test doesn't find a right sum, the sum is wrong
wrong_number : (n : ℕ) (r : Bool) → IsTrue r ↔ ((n % 65535 ≡ 0) × (0 < n)) → r ≡ false → (not (n % 65535 == 0) || (n == 0)) ≡ true
wrong_number n r decides tested = grind (arith, nat_tests)

pub wrong_where_not : (message : List ℕ) (r : Bool) → IsTrue r ↔ IsRight message → r ≡ false → has_wrong_sum message ≡ true
wrong_where_not message r decides tested = wrong_number (word_sum message) r decides tested

-- the added sums of two parts have all bits set exactly where the whole has a right sum
pub wrong_in_parts : (first second : List ℕ) (half r : ℕ) → length first ≡ 2 * half → r ≡ ones_sum (word_sum first + word_sum second)
    → not (r == 65535) ≡ has_wrong_sum (first ++ second)
wrong_in_parts first second half r even sum =
    ap (λ (x : ℕ). not (x == 65535)) sum
    ∙ all_ones (word_sum first) (word_sum second)
    ∙ ap (λ (x : ℕ). not (x % 65535 == 0) || (x == 0)) (sym (word_sum-append first second half even))

-- where the message alone has a wrong sum, the form with the pseudo-header decides
pub other_decides : (a b : List ℕ) (x : Bool) → has_wrong_sum a ≡ true → x ≡ has_wrong_sum b → x ≡ (has_wrong_sum a && has_wrong_sum b)
other_decides a b x wrong same = same ∙ ap (λ (t : Bool). t && has_wrong_sum b) (sym wrong)
