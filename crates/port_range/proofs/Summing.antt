-- The summaries: which words have a port of a parity to give out, and the lowest such port.
use Rattle.std.proofs.Common.{◌≡◌, ℕ, zero, ◌+◌, ◌*◌, ◌/◌, ◌%◌, ◌^◌, ◌<◌, ◌==◌, nat_lt, Bool, true, false, cond, ◌&&◌, inl, inr, List, ◌++◌, length, take, drop, replicate, get_or, bit_and, w64, refl, sym, ap, ◌∙◌, arith}
use Rattle.std.specs.Int.{trailing_zeros}
use Rattle.std.proofs.lemmas.Bool.{cases_eq, cases_lt, both_ways, cond-true, cond-false, eq-eqb, ne_eqb, ltb-true, ltb-false, and_parts, and_from, and_left, false_from_ne_true, agree_below_at}
use Rattle.std.proofs.lemmas.List.{get_or_past, get_or-replicate, length-replicate}
use Rattle.std.proofs.Math.Seq.{take-append_seam}
use Rattle.std.proofs.lemmas.Nat.{and_le_r}
use Rattle.std.proofs.lemmas.Nat.Bits.{bit_at-trailing_zeros}
use Rattle.addresses.specs.declared.transport.Parity.{Parity}
use Rattle.addresses.specs.declared.transport.Parity.TheVariants.{Even, Odd}
use Rattle.addresses.specs.declared.transport.Port.{Port}
use Rattle.addresses.specs.Transport.{parity_of}
use Rattle.port_range.specs.Ports.{is_within, same_parity}
use Rattle.port_range.specs.Words.{is_set, has_bit, IsLowestBit, AreOthers}
use Rattle.port_range.specs.Marks.{has_both, mask_of, open_word, IsSummary, AreMarks, IsLowestOf}
use Rattle.port_range.proofs.Bits.{is_set-zero, is_set-and, has_bit-in, has_bit-of, has_bit-past}
use Rattle.port_range.proofs.Choice.{parity-eq, parity-true}
use Rattle.port_range.proofs.Keeping.{open-none}

-- ---- the bits of a word that are of a parity

pub mask-bits : (parity : Parity) (i : ℕ) → i < 64 → is_set (mask_of parity) i ≡ same_parity (parity_of i) parity
unfolding is_set
mask-bits Even i low = agree_below_at (λ j. is_set (mask_of Even) j) (λ j. same_parity (parity_of j) Even) 64 i refl low
mask-bits Odd i low = agree_below_at (λ j. is_set (mask_of Odd) j) (λ j. same_parity (parity_of j) Odd) 64 i refl low

pub same-parity_of : (a b : ℕ) → a % 2 ≡ b % 2 → parity_of a ≡ parity_of b
same-parity_of a b same = ap (λ (x : ℕ). cond (x == 0) Even Odd) same

open-bits : (parity : Parity) (free owned : List ℕ) (index i : ℕ) → i < 64
    → is_set (open_word parity free owned index) i ≡ ((is_set (get_or free index 0) i && is_set (get_or owned index 0) i) && same_parity (parity_of i) parity)
open-bits parity free owned index i low =
    is_set-and (bit_and (get_or free index 0) (get_or owned index 0)) (mask_of parity) i
    ∙ ap (λ b. b && is_set (mask_of parity) i) (is_set-and (get_or free index 0) (get_or owned index 0) i)
    ∙ ap (λ b. (is_set (get_or free index 0) i && is_set (get_or owned index 0) i) && b) (mask-bits parity i low)

-- a port has both marks where its bit is set in the free word and in the owned word
both-bits : (free owned : List ℕ) (index q : ℕ) → q / 64 ≡ index → has_both free owned q ≡ (is_set (get_or free index 0) (q % 64) && is_set (get_or owned index 0) (q % 64))
both-bits free owned index q is =
    ap (λ b. b && has_bit owned q) (has_bit-of free index q is) ∙ ap (λ b. is_set (get_or free index 0) (q % 64) && b) (has_bit-of owned index q is)

-- a port of the parity may not be given out where its bit isn't set
not-open : (parity : Parity) (free owned : List ℕ) (index q : ℕ) → q / 64 ≡ index → parity_of q ≡ parity → is_set (open_word parity free owned index) (q % 64) ≡ false → has_both free owned q ≡ false
not-open parity free owned index q is kind clear =
    let low : q % 64 < 64 = omega arith in
    let even : q % 64 % 2 ≡ q % 2 = omega arith in
    let same = parity-true (parity_of (q % 64)) parity (same-parity_of (q % 64) q even ∙ kind) in
    let bits : Bool = is_set (get_or free index 0) (q % 64) && is_set (get_or owned index 0) (q % 64) in
    false_from_ne_true (has_both free owned q) (λ holds.
    both_ways (is_set (open_word parity free owned index) (q % 64)) clear
    (open-bits parity free owned index (q % 64) low ∙ and_from bits (same_parity (parity_of (q % 64)) parity) (sym (both-bits free owned index q is) ∙ holds) same))

-- no port of the parity may be given out of a word that has none
pub none-open : (parity : Parity) (free owned : List ℕ) (index q : ℕ) → q / 64 ≡ index → parity_of q ≡ parity → nat_lt 0 (open_word parity free owned index) ≡ false → has_both free owned q ≡ false
none-open parity free owned index q is kind nothing =
    let clear : open_word parity free owned index ≡ 0 = omega (arith, ltb-false 0 (open_word parity free owned index) nothing) in
    not-open parity free owned index q is kind (ap (λ (w : ℕ). is_set w (q % 64)) clear ∙ is_set-zero (q % 64))

-- a port of the word's lowest bit may be given, and is of the parity
pub is-open : (parity : Parity) (free owned : List ℕ) (index i : ℕ) → i < 64 → is_set (open_word parity free owned index) i ≡ true
    → (has_both free owned (index * 64 + i) ≡ true) × (parity_of (index * 64 + i) ≡ parity)
is-open parity free owned index i low holds =
    let parts = and_parts (is_set (get_or free index 0) i && is_set (get_or owned index 0) i) (same_parity (parity_of i) parity) (sym (open-bits parity free owned index i low) ∙ holds) in
    let even : (index * 64 + i) % 2 ≡ i % 2 = omega arith in (
      ap (λ b. b && has_bit owned (index * 64 + i)) (has_bit-in free index i low)
          ∙ ap (λ b. is_set (get_or free index 0) i && b) (has_bit-in owned index i low) ∙ parts.0,
      same-parity_of (index * 64 + i) i even ∙ parity-eq (parity_of i) parity parts.1,
    )

mask-fits : (parity : Parity) → mask_of parity < 2 ^ 64
mask-fits Even = omega arith
mask-fits Odd = omega arith

pub open-fits : (parity : Parity) (free owned : List ℕ) (index : ℕ) → open_word parity free owned index < 2 ^ 64
open-fits parity free owned index =
    omega (arith, and_le_r (bit_and (get_or free index 0) (get_or owned index 0)) (mask_of parity), mask-fits parity)

-- ---- the lowest port

-- a bit of a summary is that of a word
pub summary-within : (parity : Parity) (free owned summary : List ℕ) (index : ℕ) → IsSummary parity free owned summary → has_bit summary index ≡ true → index < 1024
summary-within parity free owned summary index is holds =
    elim (cases_lt index 1024) [
      | inl within ↦ within
      | inr past ↦ absurd (both_ways (has_bit summary index) (has_bit-past summary index (omega (arith, is.size))) holds)
    ]

pub open-some : (parity : Parity) (free owned summary : List ℕ) (index : ℕ) → IsSummary parity free owned summary → has_bit summary index ≡ true → 0 < open_word parity free owned index
open-some parity free owned summary index is holds =
    ltb-true 0 (open_word parity free owned index) (sym (is.each index (summary-within parity free owned summary index is holds)) ∙ holds)

-- the port of a word's lowest bit is a port
pub open-port : (parity : Parity) (free owned summary : List ℕ) (index word : ℕ) → IsSummary parity free owned summary → has_bit summary index ≡ true
    → word ≡ open_word parity free owned index → index * 64 + trailing_zeros w64 word < 65536
open-port parity free owned summary index word is holds named =
    let within = summary-within parity free owned summary index is holds in
    let bit = bit_at-trailing_zeros w64 word (omega (arith, named, open-some parity free owned summary index is holds)) (omega (arith, named, open-fits parity free owned index)) in
    omega (arith, within, bit.0)

-- the port of a word's lowest bit lies in the word that the summary names, so the count of words is that of the port
pub open-looked : (parity : Parity) (free owned summary : List ℕ) (index word : ℕ) → IsSummary parity free owned summary → has_bit summary index ≡ true
    → word ≡ open_word parity free owned index → index / 64 + 1 + 2 ≡ (index * 64 + trailing_zeros w64 word) / 4096 + 3
open-looked parity free owned summary index word is holds named =
    let bit = bit_at-trailing_zeros w64 word (omega (arith, named, open-some parity free owned summary index is holds)) (omega (arith, named, open-fits parity free owned index)) in
    omega (arith, bit.0)

pub lowest-found : (parity : Parity) (free owned summary : List ℕ) (index : ℕ) (port : Port) → IsSummary parity free owned summary
    → IsLowestBit summary index → port.0 ≡ index * 64 + trailing_zeros w64 (open_word parity free owned index) → IsLowestOf (has_both free owned) parity port
unfolding is_set
lowest-found parity free owned summary index port is first named =
    let word : ℕ = open_word parity free owned index in
    let within = summary-within parity free owned summary index is first.here in
    let bit = bit_at-trailing_zeros w64 word (open-some parity free owned summary index is first.here) (open-fits parity free owned index) in
    let here = is-open parity free owned index (trailing_zeros w64 word) bit.0 (ap (λ b. b == 1) bit.1) in
    record {
      passes = ap (has_both free owned) named ∙ here.0;
      kind = ap parity_of named ∙ here.1;
      lowest = λ q low kind. elim (cases_lt (q / 64) index) [
        | inl before ↦ none-open parity free owned (q / 64) q refl kind (sym (is.each (q / 64) (omega (arith, within))) ∙ first.lowest (q / 64) before)
        | inr from ↦ not-open parity free owned index q (omega (arith, bit.0, named)) kind (ap (λ b. b == 1) (bit.2 (q % 64) (omega (arith, bit.0, named))))
      ];
    }

pub lowest-none : (parity : Parity) (free owned summary : List ℕ) → length free ≡ 1024 → IsSummary parity free owned summary
    → ((n : ℕ) → has_bit summary n ≡ false) → (port : ℕ) → parity_of port ≡ parity → has_both free owned port ≡ false
lowest-none parity free owned summary size is none port kind =
    elim (cases_lt (port / 64) 1024) [
      | inl within ↦ none-open parity free owned (port / 64) port refl kind (sym (is.each (port / 64) within) ∙ none (port / 64))
      | inr past ↦ and_left (has_bit free port) (has_bit owned port) (has_bit-past free port (omega arith))
    ]

-- ---- a summary that is kept

-- a summary stays right where one word changes and its bit is updated
pub summary-put : (parity : Parity) (free owned summary free' owned' summary' : List ℕ) (index : ℕ) → IsSummary parity free owned summary
    → AreOthers index free free' → AreOthers index owned owned' → length summary' ≡ length summary
    → ((n : ℕ) → has_bit summary' n ≡ cond (n == index) (nat_lt 0 (open_word parity free' owned' index)) (has_bit summary n))
    → IsSummary parity free' owned' summary'
summary-put parity free owned summary free' owned' summary' index is same-free same-owned size put = record {
  size = size ∙ is.size;
  each = λ n low. elim (cases_eq n index) [
    | inl same ↦ (put n ∙ cond-true (n == index) (nat_lt 0 (open_word parity free' owned' index)) (has_bit summary n) (eq-eqb n index same)
        ∙ ap (λ (j : ℕ). nat_lt 0 (open_word parity free' owned' j)) (sym same))
    | inr other ↦ (put n ∙ cond-false (n == index) (nat_lt 0 (open_word parity free' owned' index)) (has_bit summary n) (ne_eqb n index other)
        ∙ is.each n low
        ∙ ap (λ (w : ℕ). nat_lt 0 (bit_and (bit_and w (get_or owned n 0)) (mask_of parity))) (sym (same-free n other))
        ∙ ap (λ (w : ℕ). nat_lt 0 (bit_and (bit_and (get_or free' n 0) w) (mask_of parity))) (sym (same-owned n other)))
  ];
}

-- a summary stays right where one word changes and its bit is updated, with the words given by equations
pub summary-said : (parity : Parity) (free owned summary free' owned' summary' : List ℕ) (index : ℕ) (f o s : List ℕ) → f ≡ free' → o ≡ owned' → s ≡ summary
    → IsSummary parity free owned summary → AreOthers index free free' → AreOthers index owned owned' → length summary' ≡ length s
    → ((n : ℕ) → has_bit summary' n ≡ cond (n == index) (nat_lt 0 (open_word parity f o index)) (has_bit s n)) → IsSummary parity free' owned' summary'
summary-said parity free owned summary free' owned' summary' index f o s is-f is-o is-s is same-free same-owned size put =
    summary-put parity free owned summary free' owned' summary' index is same-free same-owned (size ∙ ap length is-s) (λ n. put n
    ∙ ap (λ l. cond (n == index) (nat_lt 0 (open_word parity l o index)) (has_bit s n)) is-f
    ∙ ap (λ l. cond (n == index) (nat_lt 0 (open_word parity free' l index)) (has_bit s n)) is-o
    ∙ ap (λ l. cond (n == index) (nat_lt 0 (open_word parity free' owned' index)) (has_bit l n)) is-s)

-- a summary's bit stays right where the words from one to another change and their bits are updated
each-ranged : (parity : Parity) (free owned summary owned' : List ℕ) (first last n : ℕ) (b : Bool) → is_within first last n ≡ b → IsSummary parity free owned summary → n < 1024
    → (is_within first last n ≡ false → get_or owned' n 0 ≡ get_or owned n 0)
    → cond b (nat_lt 0 (open_word parity free owned' n)) (has_bit summary n) ≡ nat_lt 0 (open_word parity free owned' n)
each-ranged parity free owned summary owned' first last n true within is low same = refl
each-ranged parity free owned summary owned' first last n false without is low same =
    is.each n low ∙ ap (λ (w : ℕ). nat_lt 0 (bit_and (bit_and (get_or free n 0) w) (mask_of parity))) (sym (same without))

pub summary-ranged : (parity : Parity) (free owned summary owned' summary' : List ℕ) (first last : ℕ) (f o s : List ℕ) → f ≡ free → o ≡ owned' → s ≡ summary
    → IsSummary parity free owned summary → ((at : ℕ) → is_within first last at ≡ false → get_or owned' at 0 ≡ get_or owned at 0) → length summary' ≡ length s
    → ((n : ℕ) → has_bit summary' n ≡ cond (is_within first last n) (nat_lt 0 (open_word parity f o n)) (has_bit s n)) → IsSummary parity free owned' summary'
summary-ranged parity free owned summary owned' summary' first last f o s is-f is-o is-s is same size put = record {
  size = size ∙ ap length is-s ∙ is.size;
  each = λ n low. put n
      ∙ ap (λ l. cond (is_within first last n) (nat_lt 0 (open_word parity l o n)) (has_bit s n)) is-f
      ∙ ap (λ l. cond (is_within first last n) (nat_lt 0 (open_word parity free l n)) (has_bit s n)) is-o
      ∙ ap (λ l. cond (is_within first last n) (nat_lt 0 (open_word parity free owned' n)) (has_bit l n)) is-s
      ∙ each-ranged parity free owned summary owned' first last n (is_within first last n) refl is low (same n);
}

-- words that replace all words of a slice are the slice
pub written : (count : ℕ) (new old : List ℕ) → length new ≡ count → take count (new ++ drop (length new) old) ≡ new
written count new old all =
    ap (λ (n : ℕ). take n (new ++ drop (length new) old)) (sym all) ∙ take-append_seam new (drop (length new) old)

-- words that are all zero

zero-at : (count i : ℕ) → get_or (replicate {A = ℕ} count 0) i 0 ≡ zero
zero-at count i =
    elim (cases_lt i count) [
      | inl within ↦ get_or-replicate count i 0 0 within
      | inr past ↦ get_or_past (replicate count 0) i 0 (rw length-replicate past)
    ]

pub zero-bits : (count n : ℕ) → has_bit (replicate count 0) n ≡ false
unfolding has_bit
zero-bits count n = ap (λ (w : ℕ). is_set w (n % 64)) (zero-at count (n / 64)) ∙ is_set-zero (n % 64)

-- the summary of no ports is empty
pub summary-zero : (parity : Parity) (many some few : ℕ) → few ≡ 16 → IsSummary parity (replicate many 0) (replicate some 0) (replicate few 0)
summary-zero parity many some few is = record {
  size = length-replicate few 0 ∙ is;
  each = λ n low. zero-bits few n ∙ sym (ap (λ (w : ℕ). nat_lt 0 (bit_and (bit_and w (get_or (replicate some 0) n 0)) (mask_of parity))) (zero-at many n));
}

pub marks-zero : AreMarks (replicate 1024 0) (replicate 1024 0) (replicate 16 0) (replicate 16 0) 0
marks-zero = record {
  free_size = length-replicate {A = ℕ} 1024 0;
  owned_size = length-replicate {A = ℕ} 1024 0;
  summed_even = summary-zero Even 1024 1024 16 refl;
  summed_odd = summary-zero Odd 1024 1024 16 refl;
  counted = sym (open-none (replicate 1024 0) (replicate 1024 0) (zero-bits 1024));
}
