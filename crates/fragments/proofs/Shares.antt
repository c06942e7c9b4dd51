-- Which bytes each fragment of a packet that is cut carries, in numbers: n bytes in `count` fragments, all but the last of s.
use Rattle.std.proofs.Common.{◌≡◌, ◌⊎◌, inl, inr, ℕ, suc, ◌+◌, ◌*◌, ◌/◌, ◌%◌, ◌<◌, ◌≤◌, true, false, ◌&&◌, nat_le, nat_lt, ap, arith}
use Rattle.std.proofs.lemmas.Bool.{cases_lt, and_from, and_left, and_right, le-leb, le-ltb, lt-leb, lt-ltb}
use Rattle.std.proofs.lemmas.Nat.{div-add-mod', div_below, mod_below, mul-le}

-- the place at which the k-th ends is at or before that of a later one
pub before : (k j s : ℕ) → k < j → k * s + s ≤ j * s
before k j s below = omega (arith, mul-le (suc k) s j s (omega (arith, below)) (omega arith), steps k s)
  where
    steps : (k s : ℕ) → suc k * s ≡ k * s + s
    steps k s = omega arith

-- the fragment that carries a byte, and what is known of the others
pub record Holds (count s x j : ℕ) : Type 0 where
  pub there : j < count
  pub low : j * s ≤ x
  pub high : j + 1 < count → x < j * s + s
  pub others : (k : ℕ) → k < count → (k ≡ j → ⊥) → (k + 1 < count → (x < k * s) ⊎ (k * s + s ≤ x)) × (k + 1 ≡ count → x < k * s)

in-last : (last s x : ℕ) → last * s ≤ x → Holds (last + 1) s x last
in-last last s x behind = record {
  there = omega arith;
  low = behind;
  high = λ more. absurd (omega (arith, more));
  others = λ k below differs.
      ((λ more. inr (omega (arith, behind, before k last s (omega (arith, more))))), λ same. absurd (omega (arith, same, differs)));
}

in-full : (last s x : ℕ) → 0 < s → x < last * s → Holds (last + 1) s x (x / s)
in-full last s x some ahead =
    let whole = div-add-mod' x s in
    let rest = mod_below x s some in
    let below = div_below x s last some ahead in
    record {
      there = omega (arith, below);
      low = omega (arith, whole);
      high = λ more. omega (arith, whole, rest);
      others = λ k there differs. (λ more. at k (cases_lt k (x / s)) differs whole rest, λ same. at-last k same);
    }
  where
    at : (k : ℕ) → (k < x / s) ⊎ (x / s ≤ k) → (k ≡ x / s → ⊥) → x / s * s + x % s ≡ x → x % s < s → (x < k * s) ⊎ (k * s + s ≤ x)
    at k (inl less) differs whole rest = inr (omega (arith, before k (x / s) s less, whole))
    at k (inr more) differs whole rest = inl (omega (arith, before (x / s) k s (omega (arith, more, differs)), whole, rest))

    at-last : (k : ℕ) → k + 1 ≡ last + 1 → x < k * s
    at-last k same =
        let is : k ≡ last = omega (arith, same) in
        let there : k * s ≡ last * s = ap (λ (m : ℕ). m * s) is in
        omega (arith, there, ahead)

pub holder : (last s x : ℕ) → 0 < s → (j : ℕ) × Holds (last + 1) s x j
holder last s x some = by (cases_lt x (last * s))
  where
    by : (x < last * s) ⊎ (last * s ≤ x) → (j : ℕ) × Holds (last + 1) s x j
    by (inl ahead) = (x / s, in-full last s x some ahead)
    by (inr behind) = (last, in-last last s x behind)

-- ---- whether a byte lies between two ends
pub within-ends : (x first size : ℕ) → first ≤ x → x < first + size → (nat_le first x && nat_lt x (first + size)) ≡ true
within-ends x first size low high = and_from _ _ (le-leb first x low) (lt-ltb x (first + size) high)

pub beyond-ends : (x first size : ℕ) → (x < first) ⊎ (first + size ≤ x) → (nat_le first x && nat_lt x (first + size)) ≡ false
beyond-ends x first size (inl ahead) = and_left _ _ (lt-leb first x ahead)
beyond-ends x first size (inr behind) = and_right _ _ (le-ltb x (first + size) behind)

-- ---- the flags and the offset of a fragment, as they are read
pub record FlagsAre (word more m place : ℕ) : Type 0 where
  pub more_is : (word + more + place) / 8192 % 2 ≡ m
  pub offset : (word + more + place) % 8192 ≡ place
  pub reserved : (word + more + place) / 32768 * 32768 ≡ word
  pub fits : word + more + place < 65536

-- a packet that is no fragment and has no Don't Fragment has no flag but the reserved one
pub flag-alone : (word : ℕ) → word < 65536 → word / 8192 % 2 ≡ 0 → word % 8192 ≡ 0 → word / 16384 % 2 ≡ 0 → word ≡ 32768 * (word / 32768)
flag-alone word fits more offset allowed = omega (arith, fits, more, offset, allowed)

pub flags-are : (top m place : ℕ) → top ≤ 1 → m ≤ 1 → place < 8192 → FlagsAre (32768 * top) (8192 * m) m place
flags-are top m place a b c = record {
  more_is = omega (arith, a, b, c);
  offset = omega (arith, a, b, c);
  reserved = omega (arith, a, b, c);
  fits = omega (arith, a, b, c);
}
