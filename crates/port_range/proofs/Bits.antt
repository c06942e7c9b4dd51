-- Bits of words, and numbers as bits of a list of words.
use Rattle.std.proofs.Common.{◌≡◌, ℕ, zero, suc, ◌+◌, ◌-◌, ◌*◌, ◌/◌, ◌%◌, ◌^◌, ◌<◌, ◌≤◌, ◌==◌, nat_le, nat_lt, min, max, Bool, true, false, cond, not, ◌&&◌, ◌||◌, ◌⊎◌, inl, inr, List, length, set, get_or, bit_and, bit_or, w64, refl, sym, ap, ◌∙◌, arith}
use Rattle.std.specs.Int.{bit_at, trailing_zeros}
use Rattle.std.proofs.lemmas.Bool.{cases_eq, cases_lt, cond-true, cond-false, eq-eqb, ne_eqb, lt-ltb, le-ltb, le-leb, lt-leb, and_right}
use Rattle.std.proofs.lemmas.List.{get_or-set_same, get_or-set_other, get_or_past}
use Rattle.std.proofs.lemmas.Nat.{one_shl}
use Rattle.std.proofs.lemmas.Nat.Bits.{bit_at-lt, bit_at-zero, bit_at_and, bit_at_or, bit_at_not, bit_at_ones, bit_at_ones_above, bit_at_set_same, bit_at_set_other, bit_at_clear_same, bit_at_clear_other, bit_at-trailing_zeros}
use Rattle.port_range.specs.Ports.{is_within}
use Rattle.port_range.specs.Words.{is_set, has_bit, IsLowestBit}

-- ---- one word

pub is_set-or : (word k : ℕ) (flag : Bool) → flag ≡ true → k < 64 → (i : ℕ) → is_set (bit_or word (1 * 2 ^ k % 18446744073709551616)) i ≡ cond (i == k) flag (is_set word i)
unfolding is_set
is_set-or word k flag on within i =
    let after : ℕ = bit_or word (1 * 2 ^ k % 18446744073709551616) in
    elim (cases_eq i k) [
      | inl same ↦ (ap (λ x. bit_at after x == 1) same ∙ ap (λ b. b == 1) (bit_at_set_same w64 word k within)
          ∙ sym (cond-true (i == k) flag (is_set word i) (eq-eqb i k same) ∙ on))
      | inr other ↦ (ap (λ b. b == 1) (bit_at_set_other w64 word k within i other)
          ∙ sym (cond-false (i == k) flag (is_set word i) (ne_eqb i k other)))
    ]

pub is_set-clear : (word k : ℕ) (flag : Bool) → flag ≡ false → k < 64 → (i : ℕ) → i < 64 → is_set (bit_and word (18446744073709551615 - 1 * 2 ^ k % 18446744073709551616)) i ≡ cond (i == k) flag (is_set word i)
unfolding is_set
is_set-clear word k flag off within i low =
    let after : ℕ = bit_and word (18446744073709551615 - 1 * 2 ^ k % 18446744073709551616) in
    elim (cases_eq i k) [
      | inl same ↦ (ap (λ x. bit_at after x == 1) same ∙ ap (λ b. b == 1) (bit_at_clear_same w64 word k within)
          ∙ sym (cond-true (i == k) flag (is_set word i) (eq-eqb i k same) ∙ off))
      | inr other ↦ (ap (λ b. b == 1) (bit_at_clear_other w64 word k within i low other)
          ∙ sym (cond-false (i == k) flag (is_set word i) (ne_eqb i k other)))
    ]

-- the word 2 ^ count - 1 has its `count` lowest bits set, and no other
pub is_set-ones : (count i : ℕ) → is_set (2 ^ count - 1) i ≡ nat_lt i count
unfolding is_set
is_set-ones count i =
    elim (cases_lt i count) [
      | inl low ↦ ap (λ b. b == 1) (bit_at_ones count i low) ∙ sym (lt-ltb i count low)
      | inr high ↦ ap (λ b. b == 1) (bit_at_ones_above count i high) ∙ sym (le-ltb i count high)
    ]

pub is_set-shifted : (count i : ℕ) → count < 64 → is_set (1 * 2 ^ count % 18446744073709551616 - 1) i ≡ nat_lt i count
is_set-shifted count i within = ap (λ (x : ℕ). is_set (x - 1) i) (one_shl count 64 within) ∙ is_set-ones count i

pub is_set-zero : (i : ℕ) → is_set 0 i ≡ false
unfolding is_set
is_set-zero i = ap (λ b. b == 1) (bit_at-zero i)

min-both : (x y : ℕ) → x < 2 → y < 2 → (min x y == 1) ≡ ((x == 1) && (y == 1))
min-both zero zero p q = refl
min-both zero (suc zero) p q = refl
min-both (suc zero) zero p q = refl
min-both (suc zero) (suc zero) p q = refl
min-both (suc (suc x)) y p q = absurd (omega arith)
min-both x (suc (suc y)) p q = absurd (omega arith)

pub is_set-and : (a b i : ℕ) → is_set (bit_and a b) i ≡ (is_set a i && is_set b i)
unfolding is_set
is_set-and a b i =
    ap (λ x. x == 1) (bit_at_and a b i) ∙ min-both (bit_at a i) (bit_at b i) (bit_at-lt a i) (bit_at-lt b i)

max-either : (x y : ℕ) → x < 2 → y < 2 → (max x y == 1) ≡ ((x == 1) || (y == 1))
max-either zero zero p q = refl
max-either zero (suc zero) p q = refl
max-either (suc zero) zero p q = refl
max-either (suc zero) (suc zero) p q = refl
max-either (suc (suc x)) y p q = absurd (omega arith)
max-either x (suc (suc y)) p q = absurd (omega arith)

pub is_set-or_word : (a b i : ℕ) → is_set (bit_or a b) i ≡ (is_set a i || is_set b i)
unfolding is_set
is_set-or_word a b i =
    ap (λ x. x == 1) (bit_at_or a b i) ∙ max-either (bit_at a i) (bit_at b i) (bit_at-lt a i) (bit_at-lt b i)

one-less : (x : ℕ) → x < 2 → (1 - x == 1) ≡ not (x == 1)
one-less zero p = refl
one-less (suc zero) p = refl
one-less (suc (suc x)) p = absurd (omega arith)

pub is_set-not : (b i : ℕ) → b < 2 ^ 64 → i < 64 → is_set (18446744073709551615 - b) i ≡ not (is_set b i)
unfolding is_set
is_set-not b i fits low = ap (λ x. x == 1) (bit_at_not w64 b i fits low) ∙ one-less (bit_at b i) (bit_at-lt b i)

-- the bits of one word that another doesn't have
pub is_set-without : (a b i : ℕ) → b < 2 ^ 64 → i < 64 → is_set (bit_and a (18446744073709551615 - b)) i ≡ (is_set a i && not (is_set b i))
is_set-without a b i fits low = is_set-and a (18446744073709551615 - b) i ∙ ap (λ x. is_set a i && x) (is_set-not b i fits low)

-- ---- numbers

-- a number's test by its offset in a word is that by the number
end-test : (start highest end i : ℕ) → i < 64 → end ≡ min (highest + 1 - start) 64 → nat_lt i end ≡ nat_le (start + i) highest
end-test start highest end i low is =
    elim (cases_lt i end) [
      | inl before ↦ lt-ltb i end before ∙ sym (le-leb (start + i) highest (omega arith))
      | inr past ↦ le-ltb i end past ∙ sym (lt-leb (start + i) highest (omega arith))
    ]

below-test : (start lowest below i : ℕ) → i < 64 → below ≡ min (lowest - start) 64 → not (nat_lt i below) ≡ nat_le lowest (start + i)
below-test start lowest below i low is =
    elim (cases_lt i below) [
      | inl before ↦ ap not (lt-ltb i below before) ∙ sym (lt-leb lowest (start + i) (omega arith))
      | inr past ↦ ap not (le-ltb i below past) ∙ sym (le-leb lowest (start + i) (omega arith))
    ]

and-swap : (a b : Bool) → (a && b) ≡ (b && a)
and-swap true true = refl
and-swap true false = refl
and-swap false true = refl
and-swap false false = refl

pub between-test : (start lowest highest below end i : ℕ) → i < 64 → below ≡ min (lowest - start) 64 → end ≡ min (highest + 1 - start) 64 → (nat_lt i end && not (nat_lt i below)) ≡ is_within lowest highest (start + i)
between-test start lowest highest below end i low is-below is-end =
    ap (λ b. b && not (nat_lt i below)) (end-test start highest end i low is-end)
    ∙ ap (λ b. nat_le (start + i) highest && b) (below-test start lowest below i low is-below)
    ∙ and-swap (nat_le (start + i) highest) (nat_le lowest (start + i))

-- the bit of a number by its word
pub has_bit-in : (words : List ℕ) (index i : ℕ) → i < 64 → has_bit words (index * 64 + i) ≡ is_set (get_or words index 0) i
unfolding has_bit
has_bit-in words index i low =
    let word : (index * 64 + i) / 64 ≡ index = omega arith in
    let bit : (index * 64 + i) % 64 ≡ i = omega arith in
    ap (λ (x : ℕ). is_set (get_or words x 0) ((index * 64 + i) % 64)) word ∙ ap (λ (x : ℕ). is_set (get_or words index 0) x) bit

-- the bit of a number by its word, where the number is given
pub has_bit-of : (words : List ℕ) (index n : ℕ) → n / 64 ≡ index → has_bit words n ≡ is_set (get_or words index 0) (n % 64)
unfolding has_bit
has_bit-of words index n is = ap (λ (x : ℕ). is_set (get_or words x 0) (n % 64)) is

-- no number past the words has its bit set
pub has_bit-past : (words : List ℕ) (n : ℕ) → 64 * length words ≤ n → has_bit words n ≡ false
unfolding has_bit
has_bit-past words n past = ap (λ (w : ℕ). is_set w (n % 64)) (get_or_past words (n / 64) 0 (omega arith)) ∙ is_set-zero (n % 64)

-- a number's bit after one word was written: the new one at the number written, else the old one
pub has_bit-set : (words : List ℕ) (number word : ℕ) (flag : Bool) → number < 64 * length words
    → ((i : ℕ) → i < 64 → is_set word i ≡ cond (i == number % 64) flag (is_set (get_or words (number / 64) 0) i))
    → (n : ℕ) → has_bit (set words (number / 64) word) n ≡ cond (n == number) flag (has_bit words n)
has_bit-set words number word flag within bits n =
    elim (cases_eq (n / 64) (number / 64)) [
      | inl here ↦ (has_bit-of (set words (number / 64) word) (number / 64) n here
          ∙ ap (λ (w : ℕ). is_set w (n % 64)) (get_or-set_same words (number / 64) word 0 (omega arith)) ∙ bits (n % 64) (omega arith)
          ∙ by-bit (cases_eq (n % 64) (number % 64)) here)
      | inr apart ↦ (has_bit-of (set words (number / 64) word) (n / 64) n refl
          ∙ ap (λ (w : ℕ). is_set w (n % 64)) (get_or-set_other words (number / 64) (n / 64) word 0 apart)
          ∙ sym (has_bit-of words (n / 64) n refl)
          ∙ sym (cond-false (n == number) flag (has_bit words n) (ne_eqb n number (λ e. apart (ap (λ (x : ℕ). x / 64) e)))))
    ]
  where
    by-bit : ((n % 64 ≡ number % 64) ⊎ (n % 64 ≡ number % 64 → ⊥)) → n / 64 ≡ number / 64
        → cond (n % 64 == number % 64) flag (is_set (get_or words (number / 64) 0) (n % 64)) ≡ cond (n == number) flag (has_bit words n)
    by-bit (inl same) here =
        cond-true (n % 64 == number % 64) flag (is_set (get_or words (number / 64) 0) (n % 64)) (eq-eqb (n % 64) (number % 64) same)
        ∙ sym (cond-true (n == number) flag (has_bit words n) (eq-eqb n number (omega arith)))
    by-bit (inr apart) here =
        cond-false (n % 64 == number % 64) flag (is_set (get_or words (number / 64) 0) (n % 64)) (ne_eqb (n % 64) (number % 64) apart)
        ∙ sym (has_bit-of words (number / 64) n here)
        ∙ sym (cond-false (n == number) flag (has_bit words n) (ne_eqb n number (λ e. apart (ap (λ (x : ℕ). x % 64) e))))

-- where the words up to one agree with a test, and the word written there too, the words up to the next one agree
pub has_bit-more : (words : List ℕ) (index word : ℕ) (test : ℕ → Bool) → index < length words
    → ((i : ℕ) → i < 64 → is_set word i ≡ test (index * 64 + i)) → ((n : ℕ) → n < 64 * index → has_bit words n ≡ test n)
    → (n : ℕ) → n < 64 * (index + 1) → has_bit (set words index word) n ≡ test n
has_bit-more words index word test within bits so-far n low =
    elim (cases_lt n (64 * index)) [
      | inl before ↦ (has_bit-of (set words index word) (n / 64) n refl
          ∙ ap (λ (w : ℕ). is_set w (n % 64)) (get_or-set_other words index (n / 64) word 0 (λ e. absurd (omega arith)))
          ∙ sym (has_bit-of words (n / 64) n refl) ∙ so-far n before)
      | inr from ↦ (let moved : index * 64 + n % 64 ≡ n = omega arith in
          has_bit-of (set words index word) index n (omega arith)
          ∙ ap (λ (w : ℕ). is_set w (n % 64)) (get_or-set_same words index word 0 within) ∙ bits (n % 64) (omega arith) ∙ ap test moved)
    ]

-- a test that fails past the words agrees with the bits of all numbers where it does with those of the words
pub has_bit-all : (words : List ℕ) (index : ℕ) (test : ℕ → Bool) → length words ≤ index → ((n : ℕ) → n < 64 * index → has_bit words n ≡ test n)
    → ((n : ℕ) → 64 * length words ≤ n → test n ≡ false) → (n : ℕ) → has_bit words n ≡ test n
has_bit-all words index test all so-far past n =
    elim (cases_lt n (64 * length words)) [
      | inl within ↦ so-far n (omega arith)
      | inr out ↦ has_bit-past words n out ∙ sym (past n out)
    ]

-- a filled test fails past the highest number
pub filled-past : (flag : Bool) (lowest highest n : ℕ) → highest < n → (flag && is_within lowest highest n) ≡ false
filled-past flag lowest highest n past =
    and_right flag (is_within lowest highest n) (and_right (nat_le lowest n) (nat_le n highest) (lt-leb n highest past))

-- where a word is zero too, no number up to the next word has its bit set
pub none-more : (words : List ℕ) (index : ℕ) → get_or words index 0 ≡ 0 → ((n : ℕ) → n < 64 * index → has_bit words n ≡ false)
    → (n : ℕ) → n < 64 * (index + 1) → has_bit words n ≡ false
none-more words index nothing before n low =
    elim (cases_lt n (64 * index)) [
      | inl down ↦ before n down
      | inr from ↦ has_bit-of words index n (omega arith) ∙ ap (λ (w : ℕ). is_set w (n % 64)) nothing ∙ is_set-zero (n % 64)
    ]

-- where no word has a bit, no number has
pub none-all : (words : List ℕ) (index : ℕ) → length words ≤ index → ((n : ℕ) → n < 64 * index → has_bit words n ≡ false)
    → (n : ℕ) → has_bit words n ≡ false
none-all words index all before n =
    elim (cases_lt n (64 * index)) [ inl down ↦ before n down | inr past ↦ has_bit-past words n (omega arith) ]

-- where the words up to one are zero, and it isn't, the lowest bit of it is the lowest of all
pub lowest-here : (words : List ℕ) (index word : ℕ) → word ≡ get_or words index 0 → 0 < word → word < 2 ^ 64
    → ((n : ℕ) → n < 64 * index → has_bit words n ≡ false) → IsLowestBit words (index * 64 + trailing_zeros w64 word)
unfolding is_set
lowest-here words index word is some fits before =
    let first = bit_at-trailing_zeros w64 word some fits in
    record {
      here = has_bit-in words index (trailing_zeros w64 word) first.0 ∙ ap (λ (w : ℕ). is_set w (trailing_zeros w64 word)) (sym is) ∙ ap (λ b. b == 1) first.1;
      lowest = λ q low. elim (cases_lt q (64 * index)) [
        | inl down ↦ before q down
        | inr from ↦ (has_bit-of words index q (omega (arith, first.0)) ∙ ap (λ (w : ℕ). is_set w (q % 64)) (sym is)
            ∙ ap (λ b. b == 1) (first.2 (q % 64) (omega (arith, first.0))))
      ];
    }
