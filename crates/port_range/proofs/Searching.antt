-- The first and the last bit that is set, of a word and of a list of words.
use Rattle.std.proofs.Common.{◌≡◌, ℕ, suc, ◌+◌, ◌-◌, ◌*◌, ◌/◌, ◌%◌, ◌^◌, ◌<◌, ◌≤◌, ◌==◌, nat_lt, Bool, true, false, ◌&&◌, not, inl, inr, List, get_or, w64, refl, sym, ap, ◌∙◌, subst, arith}
use Rattle.std.specs.Int.{bit_at, trailing_zeros, leading_zeros}
use Rattle.std.proofs.lemmas.Bool.{cases_lt, and_parts, ltb-true, ltb-false, lt-ltb, le-ltb}
use Rattle.std.proofs.lemmas.Nat.{leading_top}
use Rattle.std.proofs.lemmas.Nat.Bits.{bit_at-trailing_zeros, bit_at_cat_high, bit_at_above}
use Rattle.std.proofs.Math.Nat.{pow-succ'}
use Rattle.port_range.specs.Searches.{IsFirstFrom, IsLastBelow}
use Rattle.port_range.specs.Words.{is_set, has_bit, agrees}
use Rattle.port_range.proofs.Bits.{is_set-zero, has_bit-in, has_bit-of}

and-true : (b : Bool) → (b && true) ≡ b
and-true true = refl
and-true false = refl

not-true : (b : Bool) → not b ≡ true → b ≡ false
not-true true h = cc
not-true false h = refl

-- ---- one word

-- `rest` has the bits of a word from a number on, and no lower ones
abbrev pub IsFrom : ℕ → ℕ → ℕ → Type 0
IsFrom word rest start = (i : ℕ) → i < 64 → is_set rest i ≡ (is_set word i && not (nat_lt i start))

-- a bit from that number on that `rest` doesn't have isn't set in the word
clear-from : (word rest start i : ℕ) → IsFrom word rest start → start ≤ i → i < 64 → is_set rest i ≡ false → is_set word i ≡ false
clear-from word rest start i is from low clear =
    sym (and-true (is_set word i)) ∙ ap (λ b. is_set word i && not b) (sym (le-ltb i start from)) ∙ sym (is i low) ∙ clear

pub first-bit : (word rest start : ℕ) → 0 < rest → rest < 2 ^ 64 → IsFrom word rest start → (trailing_zeros w64 rest < 64) × IsFirstFrom (is_set word) start (trailing_zeros w64 rest)
unfolding is_set
first-bit word rest start some fits is =
    let bit = bit_at-trailing_zeros w64 rest some fits in
    let parts = and_parts (is_set word (trailing_zeros w64 rest)) (not (nat_lt (trailing_zeros w64 rest) start)) (sym (is (trailing_zeros w64 rest) bit.0) ∙ ap (λ b. b == 1) bit.1) in (
      bit.0,
      record {
        passes = parts.0;
        from = ltb-false (trailing_zeros w64 rest) start (not-true (nat_lt (trailing_zeros w64 rest) start) parts.1);
        first = λ q low high. clear-from word rest start q is low (omega (arith, high, bit.0)) (ap (λ b. b == 1) (bit.2 q high));
      },
    )

pub no-bit-from : (word rest start : ℕ) → rest ≡ 0 → IsFrom word rest start → (i : ℕ) → start ≤ i → i < 64 → is_set word i ≡ false
no-bit-from word rest start nothing is i from low =
    clear-from word rest start i is from low (ap (λ (w : ℕ). is_set w i) nothing ∙ is_set-zero i)

-- `rest` has the bits of a word below a number, and no higher ones
abbrev pub IsBelow : ℕ → ℕ → ℕ → Type 0
IsBelow word rest end = (i : ℕ) → i < 64 → is_set rest i ≡ (is_set word i && nat_lt i end)

clear-below : (word rest end i : ℕ) → IsBelow word rest end → i < end → i < 64 → is_set rest i ≡ false → is_set word i ≡ false
clear-below word rest end i is below low clear =
    sym (and-true (is_set word i)) ∙ ap (λ b. is_set word i && b) (sym (lt-ltb i end below)) ∙ sym (is i low) ∙ clear

-- the highest bit of a number between two powers
high-bit : (n j : ℕ) → 2 ^ j ≤ n → n < 2 ^ suc j → bit_at n j ≡ 1
high-bit n j low high =
    let twice = pow-succ' 2 j in
    let split : n ≡ 1 * 2 ^ j + (n - 2 ^ j) = omega (arith, low) in
    let less : n - 2 ^ j < 2 ^ j = omega (arith, low, high, twice) in
    let none : j - j ≡ 0 = omega arith in
    ap (λ (x : ℕ). bit_at x j) split ∙ bit_at_cat_high 1 j (n - 2 ^ j) j less (omega arith) ∙ ap (λ (i : ℕ). bit_at 1 i) none

pub last-bit : (word rest end : ℕ) → 0 < rest → rest < 2 ^ 64 → end ≤ 64 → IsBelow word rest end → IsLastBelow (is_set word) end (63 - leading_zeros w64 rest)
unfolding is_set
last-bit word rest end some fits short is =
    let top = leading_top 64 rest some fits in
    let place : 63 - leading_zeros w64 rest ≡ top.0 = omega (arith, top.1) in
    let low : top.0 < 64 = omega (arith, top.1) in
    let parts = and_parts (is_set word top.0) (nat_lt top.0 end) (sym (is top.0 low) ∙ ap (λ b. b == 1) (high-bit rest top.0 top.2 top.3)) in
    subst (IsLastBelow (is_set word) end) (sym place) record {
      passes = parts.0;
      below = ltb-true top.0 end parts.1;
      last = λ q high below. clear-below word rest end q is below (omega (arith, below, short)) (ap (λ b. b == 1) (bit_at_above rest (suc top.0) q top.3 (omega (arith, high))));
    }

pub no-bit-below : (word rest end : ℕ) → rest ≡ 0 → end ≤ 64 → IsBelow word rest end → (i : ℕ) → i < end → is_set word i ≡ false
no-bit-below word rest end nothing short is i below =
    clear-below word rest end i is below (omega (arith, below, short)) (ap (λ (w : ℕ). is_set w i) nothing ∙ is_set-zero i)

-- ---- the words from a number on

-- a word has the bits that agree with a flag of one word of the list
abbrev pub IsMatching : List ℕ → Bool → ℕ → ℕ → Type 0
IsMatching words flag index word = (i : ℕ) → i < 64 → is_set word i ≡ agrees flag (is_set (get_or words index 0) i)

-- no number from a start on agrees up to a word
abbrev pub NoneYet : List ℕ → Bool → ℕ → ℕ → Type 0
NoneYet words flag from index = (n : ℕ) → from ≤ n → n < index * 64 → agrees flag (has_bit words n) ≡ false

by-word : (words : List ℕ) (flag : Bool) (index word q : ℕ) → IsMatching words flag index word → q / 64 ≡ index → agrees flag (has_bit words q) ≡ is_set word (q % 64)
by-word words flag index word q is at = ap (agrees flag) (has_bit-of words index q at) ∙ sym (is (q % 64) (omega arith))

pub next-here : (words : List ℕ) (flag : Bool) (from index word start bit : ℕ) → start ≡ from - index * 64 → IsMatching words flag index word → bit < 64
    → IsFirstFrom (is_set word) start bit → NoneYet words flag from index → IsFirstFrom (λ n. agrees flag (has_bit words n)) from (index * 64 + bit)
next-here words flag from index word start bit begins matches low is before = record {
  passes = ap (agrees flag) (has_bit-in words index bit low) ∙ sym (matches bit low) ∙ is.passes;
  from = (let reached = is.from in omega (arith, reached, begins));
  first = λ q above below. elim (cases_lt q (index * 64)) [
    | inl down ↦ before q above down
    | inr here ↦ (by-word words flag index word q matches (omega (arith, here, below, low))
        ∙ is.first (q % 64) (omega (arith, here, below, low, above, begins)) (omega (arith, here, below, low)))
  ];
}

pub next-later : (words : List ℕ) (flag : Bool) (from index word start : ℕ) → start ≡ from - index * 64 → IsMatching words flag index word
    → ((i : ℕ) → start ≤ i → i < 64 → is_set word i ≡ false) → NoneYet words flag from index → NoneYet words flag from (index + 1)
next-later words flag from index word start begins matches none before n above below =
    elim (cases_lt n (index * 64)) [
      | inl down ↦ before n above down
      | inr here ↦ (by-word words flag index word n matches (omega (arith, here, below))
          ∙ none (n % 64) (omega (arith, here, below, above, begins)) (omega arith))
    ]
