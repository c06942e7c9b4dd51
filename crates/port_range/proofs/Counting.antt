-- How many numbers pass a test, and which item of a list is picked.
use Rattle.std.proofs.Common.{◌≡◌, ℕ, zero, suc, ◌+◌, ◌-◌, ◌*◌, ◌/◌, ◌%◌, ◌^◌, ◌<◌, ◌≤◌, ◌==◌, Bool, true, false, cond, Some, None, ◌⊎◌, inl, inr, List, [], ◌∷◌, length, slice_get, count_ones, mod-lt, refl, sym, ap, ◌∙◌, arith}
use Rattle.std.proofs.lemmas.Nat.{ones_cat}
use Rattle.std.proofs.lemmas.Nat.Bits.{bit_at_lowest, bit_at-suc}
use Rattle.std.proofs.Math.Nat.{pow-succ'}
use Rattle.port_range.specs.Words.{is_set}
use Rattle.port_range.specs.Counts.{one_if}
use Rattle.port_range.specs.Marks.{ports_where}
use Rattle.port_range.proofs.Choice.{fails_from}

-- how many of so many numbers from a start pass a test
abbrev pub count_of : (ℕ → Bool) → ℕ → ℕ → ℕ
count_of test start count = length (ports_where test start count)

length-more : (b : Bool) (x : ℕ) (xs : List ℕ) → length (cond b (x ∷ xs) xs) ≡ one_if b + length xs
length-more true x xs = omega arith
length-more false x xs = omega arith

pub count-step : (test : ℕ → Bool) (start count : ℕ) → count_of test start (suc count) ≡ one_if (test start) + count_of test (start + 1) count
count-step test start count = length-more (test start) start (ports_where test (start + 1) count)

-- the numbers that pass are those of the first so many, and those of the rest
pub count-split : (test : ℕ → Bool) (start more a b count : ℕ) → count ≡ a + b → more ≡ start + a → count_of test start count ≡ count_of test start a + count_of test more b
count-split test start more zero b count is-count is-more =
    let same-count : count ≡ b = omega arith in
    let same-start : more ≡ start = omega arith in
    let same = ap (count_of test start) same-count ∙ ap (λ (s : ℕ). count_of test s b) (sym same-start) in omega (arith, same)
count-split test start more (suc a) b zero is-count is-more = absurd (omega arith)
count-split test start more (suc a) b (suc count) is-count is-more =
    let rest = count-split test (start + 1) more a b count (omega arith) (omega arith) in
    omega (arith, count-step test start count, count-step test start a, rest)

-- two tests that agree, number by number, count the same
pub count-same : (a b : ℕ → Bool) (s t count : ℕ) → ((p q : ℕ) → p + t ≡ q + s → s ≤ p → p < s + count → a p ≡ b q) → count_of a s count ≡ count_of b t count
count-same a b s t zero same = refl
count-same a b s t (suc count) same =
    let here = ap one_if (same s t (omega arith) (omega arith) (omega arith)) in
    let rest = count-same a b (s + 1) (t + 1) count (λ p q e low high. same p q (omega (arith, e)) (omega (arith, low)) (omega (arith, high))) in
    omega (arith, count-step a s count, count-step b t count, here, rest)

-- where no number passes, none is counted
pub count-none : (test : ℕ → Bool) (start count : ℕ) → ((q : ℕ) → start ≤ q → q < start + count → test q ≡ false) → count_of test start count ≡ 0
count-none test start zero none = refl
count-none test start (suc count) none =
    let here = ap one_if (none start (omega arith) (omega arith)) in
    let rest = count-none test (start + 1) count (λ q low high. none q (omega (arith, low)) (omega (arith, high))) in
    omega (arith, count-step test start count, here, rest)

one_if-le : (b : Bool) → one_if b ≤ 1
one_if-le true = omega arith
one_if-le false = omega arith

pub count-le : (test : ℕ → Bool) (start count : ℕ) → count_of test start count ≤ count
count-le test start zero = omega arith
count-le test start (suc count) = omega (arith, count-step test start count, one_if-le (test start), count-le test (start + 1) count)

-- where no number from one to another passes, as many pass below the one as below the other
pub count-upto : (test : ℕ → Bool) (start place : ℕ) → start ≤ place → ((q : ℕ) → start ≤ q → q < place → test q ≡ false) → count_of test 0 place ≡ count_of test 0 start
count-upto test start place up none =
    let parts = count-split test 0 start start (place - start) place (omega arith) (omega arith) in
    let rest = count-none test start (place - start) (λ q low high. none q low (omega (arith, high, up))) in
    omega (arith, parts, rest)

-- one more passes at a number that does
pub count-past : (test : ℕ → Bool) (place : ℕ) → test place ≡ true → count_of test 0 (place + 1) ≡ count_of test 0 place + 1
count-past test place passes =
    let parts = count-split test 0 place place 1 (place + 1) (omega arith) (omega arith) in
    let here = ap one_if passes in
    omega (arith, parts, count-step test place 0, here)

-- ---- the ones of a word

one_if-bit : (x : ℕ) → x < 2 → count_ones x ≡ one_if (x == 1)
unfolding lib.Count.ones
one_if-bit zero low = refl
one_if-bit (suc zero) low = refl
one_if-bit (suc (suc x)) low = absurd (omega arith)

pub ones-bits : (width word : ℕ) → word < 2 ^ width → count_ones word ≡ count_of (is_set word) 0 width
unfolding is_set
ones-bits zero word low = let none : word ≡ 0 = omega (arith, low) in ap count_ones none ∙ one_if-bit 0 (omega arith)
ones-bits (suc width) word low =
    let twice = pow-succ' 2 width in
    let half : word / 2 < 2 ^ width = omega (arith, low, twice) in
    let parts : word ≡ word / 2 * 2 ^ 1 + word % 2 = omega arith in
    let split = ap count_ones parts ∙ ones_cat 1 (word / 2) (word % 2) (omega arith) in
    let first = one_if-bit (word % 2) (omega arith) ∙ ap (λ (x : ℕ). one_if (x == 1)) (sym (bit_at_lowest word)) in
    let rest = ones-bits width (word / 2) half in
    let moved = count-same (is_set word) (is_set (word / 2)) 1 0 width
    (λ p q e low high. let next : p ≡ suc q = omega (arith, e) in ap (is_set word) next ∙ ap (λ (x : ℕ). x == 1) (bit_at-suc word q)) in
    omega (arith, split, first, rest, moved, count-step (is_set word) 0 width)

-- ---- the item with a number

get-here : (b : Bool) (x : ℕ) (xs : List ℕ) → b ≡ true → slice_get (cond b (x ∷ xs) xs) 0 ≡ Some x
get-here true x xs h = refl
get-here false x xs h = cc

get-later : (b : Bool) (x : ℕ) (xs : List ℕ) (j k : ℕ) → k ≡ one_if b + j → slice_get (cond b (x ∷ xs) xs) k ≡ slice_get xs j
get-later true x xs j zero h = absurd (omega (arith, h))
get-later true x xs j (suc k) h = let same : k ≡ j = omega (arith, h) in ap (slice_get xs) same
get-later false x xs j k h = let same : k ≡ j = omega (arith, h) in ap (slice_get xs) same

-- a number that passes is the item that so many stand before
pub get-place : (test : ℕ → Bool) (start count before place k : ℕ) → test place ≡ true → place ≡ start + before → before < count → count_of test start before ≡ k
    → slice_get (ports_where test start count) k ≡ Some place
get-place test start zero before place k passes at within nth = absurd (omega arith)
get-place test start (suc count) zero place k passes at within nth =
    let same : place ≡ start = omega (arith, at) in
    ap (slice_get (ports_where test start (suc count))) (sym nth)
    ∙ get-here (test start) start (ports_where test (start + 1) count) (ap test (sym same) ∙ passes) ∙ ap (λ (n : ℕ). Some n) (sym same)
get-place test start (suc count) (suc before) place k passes at within nth =
    get-later (test start) start (ports_where test (start + 1) count) (count_of test (start + 1) before) k (omega (arith, count-step test start before, nth))
    ∙ get-place test (start + 1) count before place (count_of test (start + 1) before) passes (omega (arith, at)) (omega (arith, within)) refl

get-cases : (b : Bool) (x : ℕ) (xs : List ℕ) (k y : ℕ) → slice_get (cond b (x ∷ xs) xs) k ≡ Some y → ((b ≡ true) × (x ≡ y)) ⊎ ((j : ℕ) × (slice_get xs j ≡ Some y))
get-cases true x xs zero y h = inl (refl, cc)
get-cases true x xs (suc k) y h = inr (k, h)
get-cases false x xs k y h = inr (k, h)

-- each item passes, and is one of the numbers that were looked at
pub get-passes : (test : ℕ → Bool) (start count k y : ℕ) → slice_get (ports_where test start count) k ≡ Some y → (test y ≡ true) × (start ≤ y) × (y < start + count)
get-passes test start zero k y h = cc
get-passes test start (suc count) k y h =
    elim (get-cases (test start) start (ports_where test (start + 1) count) k y h) [
      | inl w ↦ (ap test (sym w.1) ∙ w.0, omega (arith, w.1), omega (arith, w.1))
      | inr w ↦ (let rest = get-passes test (start + 1) count w.0 y w.1 in (rest.0, omega (arith, rest.1), omega (arith, rest.2)))
    ]

get-within : (xs : List ℕ) (k : ℕ) → k < length xs → slice_get xs k ≡ None → ⊥
get-within [] k low h = absurd (omega (arith, low))
get-within (x ∷ xs) zero low h = cc
get-within (x ∷ xs) (suc k) low h = get-within xs k (omega (arith, low)) h

-- a list of which no item is picked is empty
pub get-none : (xs : List ℕ) (z : ℕ) → slice_get xs (z % length xs) ≡ None → xs ≡ []
get-none [] z h = refl
get-none (x ∷ xs) z h = absurd (get-within (x ∷ xs) (z % length (x ∷ xs)) (mod-lt z {m = length (x ∷ xs)} (omega arith)) h)

nothing-more : (b : Bool) (x : ℕ) (xs : List ℕ) → cond b (x ∷ xs) xs ≡ [] → (b ≡ false) × (xs ≡ [])
nothing-more true x xs h = cc
nothing-more false x xs h = (refl, h)

-- where the list is empty, no number that was looked at passes
pub nothing-where : (test : ℕ → Bool) (start count : ℕ) → ports_where test start count ≡ [] → (q : ℕ) → start ≤ q → q < start + count → test q ≡ false
nothing-where test start zero h q low high = absurd (omega arith)
nothing-where test start (suc count) h q low high =
    let parts = nothing-more (test start) start (ports_where test (start + 1) count) h in
    fails_from test start (start + suc count) parts.0 (λ r from below. nothing-where test (start + 1) count parts.1 r from (omega (arith, below))) q low high
