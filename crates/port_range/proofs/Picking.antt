-- The words of a draw: the bit that is picked, and the port that it is.
use Rattle.std.proofs.Common.{◌≡◌, ℕ, ◌+◌, ◌-◌, ◌*◌, ◌%◌, ◌^◌, ◌<◌, ◌≤◌, ◌==◌, nat_lt, Bool, true, false, ◌&&◌, Option, Some, None, is_some, option_and_then, IfSome, IfNone, inl, inr, List, length, get_or, bit_and, count_ones, mod-lt, w64, refl, ap, ◌∙◌, sym, arith}
use Rattle.std.specs.Int.{trailing_zeros}
use Rattle.std.proofs.lemmas.Bool.{and_parts, and_from, and_left, and_right, both_ways, false_from_ne_true, ltb-true}
use Rattle.std.proofs.lemmas.List.{nil_from_length}
use Rattle.std.proofs.lemmas.Nat.{zero_from_ones}
use Rattle.std.proofs.lemmas.Nat.Bits.{bit_at-trailing_zeros}
use Rattle.addresses.specs.declared.transport.Parity.{Parity}
use Rattle.addresses.specs.declared.transport.Port.{Port}
use Rattle.addresses.specs.Transport.{parity_of}
use Rattle.port_range.specs.Ports.{same_parity, is_open, or_else}
use Rattle.port_range.specs.Searches.{IsFirstFrom}
use Rattle.port_range.specs.Words.{is_set, has_bit}
use Rattle.port_range.specs.Counts.{count_below, IsNth, IsFirstRound, IsDrawnBit}
use Rattle.port_range.specs.Marks.{has_both, mask_of, open_word, IsSummary}
use Rattle.port_range.specs.Drawn.{picked, first_from, first_round, has_open, open_blocks, owned_in, drawn_in, drawn_like}
use Rattle.port_range.proofs.Bits.{is_set-and, is_set-zero, has_bit-in}
use Rattle.port_range.proofs.Choice.{lowest_open-none, parity-eq, parity-true}
use Rattle.port_range.proofs.Summing.{mask-bits, same-parity_of, none-open, is-open, open-fits, summary-within}
use Rattle.port_range.proofs.Counting.{count_of, count-split, count-same, count-upto, count-past, ones-bits, get-place, get-passes}
use Rattle.port_range.proofs.Drawing.{AreOwned, lowest-is, lowest-nothing, in-some}

-- ---- the bit with a number

-- the first bit from a start on has as many below it as the start
pub nth-first : (word start number bit : ℕ) → count_below (is_set word) start ≡ number → IsFirstFrom (is_set word) start bit → IsNth (is_set word) number bit
nth-first word start number bit so-far first = record {
  passes = first.passes;
  below = count-upto (is_set word) start bit first.from first.first ∙ so-far;
}

-- past that bit it is one more
pub nth-past : (word start number bit : ℕ) → count_below (is_set word) start ≡ number → IsFirstFrom (is_set word) start bit → count_below (is_set word) (bit + 1) ≡ number + 1
nth-past word start number bit so-far first =
    let up = count-upto (is_set word) start bit first.from first.first in
    omega (arith, count-past (is_set word) bit first.passes, up, so-far)

-- where no bit from a start on is set, the word has no more than those below
pub nth-none : (word start number count : ℕ) → start ≤ 64 → count_below (is_set word) start ≡ number → number ≤ count → ((i : ℕ) → start ≤ i → i < 64 → is_set word i ≡ false) → count_below (is_set word) 64 ≤ count
nth-none word start number count low so-far few none = omega (arith, count-upto (is_set word) start 64 low none, so-far, few)

-- what holds, holds where an answer is None
pub if-none : {X : Type 0} {P : Type 0} (answer : Option X) → P → IfNone answer P
if-none None p = p
if-none (Some x) p = tt

pub none-absurd : {X : Type 0} (P : Type 0) (answer : Option X) → (answer ≡ None → ⊥) → IfNone answer P
none-absurd P None h = absurd (h refl)
none-absurd P (Some x) h = tt

-- the first bit from where the search stands is the one with the number
pub nth-all : (word start passed number : ℕ) (answer : Option ℕ) → passed ≡ number → count_below (is_set word) start ≡ passed → IfSome answer (IsFirstFrom (is_set word) start)
    → IfSome answer (IsNth (is_set word) number)
nth-all word start passed number None is so-far first = tt
nth-all word start passed number (Some bit) is so-far first = nth-first word start number bit (so-far ∙ is) first

pub nth-nothing : (word start passed number : ℕ) (answer : Option ℕ) → start ≤ 64 → passed ≤ number → count_below (is_set word) start ≡ passed
    → IfNone answer ((i : ℕ) → start ≤ i → i < 64 → is_set word i ≡ false) → IfNone answer (count_below (is_set word) 64 ≤ number)
nth-nothing word start passed number None low few so-far none = nth-none word start passed number low so-far few none
nth-nothing word start passed number (Some bit) low few so-far none = tt

-- the number of a bit, by the count of the ones
pub nth-ones : (owned y count place : ℕ) → owned < 2 ^ 64 → count ≡ count_ones owned → IsNth (is_set owned) (y % count) place → IsNth (is_set owned) (y % count_below (is_set owned) 64) place
nth-ones owned y count place fits is nth = record {
  passes = nth.passes;
  below = nth.below ∙ ap (λ (n : ℕ). y % n) (is ∙ ones-bits 64 owned fits);
}

-- a remainder is less than the count, so its bit is there
pub nth-there : (owned y count : ℕ) → owned < 2 ^ 64 → count ≡ count_ones owned → 0 < count → count_below (is_set owned) 64 ≤ y % count → ⊥
nth-there owned y count fits is some none = absurd (omega (arith, is, ones-bits 64 owned fits, mod-lt y {m = count} some, none))

-- the first of all is drawn, where none is from the place on
pub drawn-later : (owned free : ℕ → Bool) (y place : ℕ) (answer : Option ℕ) → IsNth owned (y % count_below owned 64) place → place < 64
    → ((i : ℕ) → place ≤ i → i < 64 → free i ≡ false) → IfSome answer (IsFirstFrom free 0) → IfSome answer (λ bit. bit < 64) → IfSome answer (IsDrawnBit owned free y)
drawn-later owned free y place None nth low none first within = tt
drawn-later owned free y place (Some bit) nth low none first within = record { place = place; nth = nth; low = low; within = within; first = inr (none, first) }

pub drawn-nothing : (owned free : ℕ → Bool) (answer : Option ℕ) → IfNone answer ((i : ℕ) → 0 ≤ i → i < 64 → free i ≡ false)
    → IfNone answer ((i : ℕ) → i < 64 → (owned i && free i) ≡ false)
drawn-nothing owned free None none = λ i low. and_right (owned i) (free i) (none i (omega arith) low)
drawn-nothing owned free (Some bit) none = tt

-- a word without ones has no bit
pub no-ones : (owned free count : ℕ) → count ≡ count_ones owned → count ≡ 0 → (i : ℕ) → i < 64 → (is_set owned i && is_set free i) ≡ false
no-ones owned free count is none i low =
    let zero_word : owned ≡ 0 = zero_from_ones owned (sym is ∙ none) in
    and_left (is_set owned i) (is_set free i) (ap (λ (w : ℕ). is_set w i) zero_word ∙ is_set-zero i)

-- ---- the words of a list

-- the bits of a list up to a word and some of its bits are those up to the word, and those of the word
pub bits-within : (words : List ℕ) (index bit count : ℕ) → bit ≤ 64 → count ≡ index * 64 + bit → count_below (has_bit words) count ≡ count_below (has_bit words) (64 * index) + count_below (is_set (get_or words index 0)) bit
bits-within words index bit count low is =
    let parts = count-split (has_bit words) 0 (64 * index) (64 * index) bit count (omega (arith, is)) (omega arith) in
    let moved = count-same (has_bit words) (is_set (get_or words index 0)) (64 * index) 0 bit
    (λ p q e from below. let at : p ≡ index * 64 + q = omega (arith, e) in
    ap (has_bit words) at ∙ has_bit-in words index q (omega (arith, e, from, below, low))) in
    omega (arith, parts, moved)

-- the bits up to the end of a word
pub bits-more : (words : List ℕ) (index word : ℕ) → word ≡ get_or words index 0 → word < 2 ^ 64 → count_below (has_bit words) (64 * (index + 1)) ≡ count_below (has_bit words) (64 * index) + count_ones word
bits-more words index word is fits =
    let within = bits-within words index 64 (64 * (index + 1)) (omega arith) (omega arith) in
    let ones = ones-bits 64 word fits ∙ ap (λ (w : ℕ). count_below (is_set w) 64) is in
    omega (arith, within, ones)

-- a bit of a word that so many stand below is one of the list
pub nth-in : (words : List ℕ) (index word start number bit : ℕ) → word ≡ get_or words index 0 → bit < 64 → start ≤ number → start ≡ count_below (has_bit words) (64 * index)
    → IsNth (is_set word) (number - start) bit → IsNth (has_bit words) number (index * 64 + bit)
nth-in words index word start number bit is low from begins nth = record {
  passes = has_bit-in words index bit low ∙ ap (λ (w : ℕ). is_set w bit) (sym is) ∙ nth.passes;
  below = (let within = bits-within words index bit (index * 64 + bit) (omega (arith, low)) refl in
      let same = ap (λ (w : ℕ). count_below (is_set w) bit) is in
      let some = nth.below in
      omega (arith, within, same, some, from, begins));
}

-- a word that has the number has more bits than those before it leave
pub word-short : (words : List ℕ) (index start number end : ℕ) → end ≡ count_below (has_bit words) (64 * (index + 1)) → start ≡ count_below (has_bit words) (64 * index)
    → start ≤ number → number < end → count_below (is_set (get_or words index 0)) 64 ≤ number - start → ⊥
word-short words index start number end ends begins from low short =
    absurd (omega (arith, bits-within words index 64 (64 * (index + 1)) (omega arith) (omega arith), ends, begins, from, low, short))

-- ---- a block by two words that have the bits of its owned and of its open ports

module _ (test owned : ℕ → Bool) (parity : Parity) (block y : ℕ) (m w : ℕ → Bool) (mine : (i : ℕ) → i < 64 → m i ≡ is_open owned (Some parity) (block * 64 + i)) (ready : (i : ℕ) → i < 64 → w i ≡ is_open test (Some parity) (block * 64 + i)) where
  -- as many owned ports stand below a place as bits
  below-place : (place : ℕ) → place ≤ 64 → count_of (is_open owned (Some parity)) (block * 64) place ≡ count_of m 0 place
  below-place place low =
      sym (count-same m (is_open owned (Some parity)) 0 (block * 64) place
      (λ p q e from below. let at : q ≡ block * 64 + p = omega (arith, e) in
      mine p (omega (arith, below, low)) ∙ ap (is_open owned (Some parity)) (sym at)))

  pick-place : (place : ℕ) → place < 64 → IsNth m (y % count_below m 64) place → picked (owned_in owned parity block) y ≡ Some (block * 64 + place)
  unfolding owned_in
  pick-place place low nth =
      get-place (is_open owned (Some parity)) (block * 64) 64 place (block * 64 + place) (y % length (owned_in owned parity block))
      (sym (mine place low) ∙ nth.passes) refl low
      (below-place place (omega (arith, low)) ∙ nth.below ∙ ap (λ (n : ℕ). y % n) (sym (below-place 64 (omega arith))))

  -- a port of the block that is of the parity isn't open where its bit isn't set
  closed-bit : (q i : ℕ) → q ≡ block * 64 + i → i < 64 → w i ≡ false → same_parity (parity_of q) parity ≡ true → test q ≡ false
  closed-bit q i at low clear kind =
      false_from_ne_true (test q) (λ holds.
      both_ways (w i) clear (ready i low ∙ ap (is_open test (Some parity)) (sym at) ∙ and_from (test q) (same_parity (parity_of q) parity) holds kind))

  first-is : (place bit : ℕ) (port : Port) → bit < 64 → port.0 ≡ block * 64 + bit → IsFirstFrom w place bit → first_from test parity block (block * 64 + place) ≡ Some port
  first-is place bit port low at first =
      let open_port = ap (is_open test (Some parity)) at ∙ sym (ready bit low) ∙ first.passes in
      let parts = and_parts (test port.0) (same_parity (parity_of port.0) parity) open_port in
      lowest-is test (block * 64 + place) (block * 64 + 63) (Some parity) port record {
        passes = parts.0;
        kind = parts.1;
        from = (let from = first.from in omega (arith, at, from));
        to = omega (arith, at, low);
        first = λ q above below kind. closed-bit q (q - block * 64) (omega (arith, above)) (omega (arith, at, low, below))
            (first.first (q - block * 64) (omega (arith, above)) (omega (arith, at, above, below))) kind;
      }

  first-none : (place : ℕ) → block * 64 ≤ place → ((i : ℕ) → place ≤ block * 64 + i → i < 64 → w i ≡ false) → first_from test parity block place ≡ None
  first-none place from none =
      lowest-nothing test place (block * 64 + 63) (Some parity)
      (λ q above below kind. closed-bit q (q - block * 64) (omega (arith, from, above)) (omega (arith, from, above, below))
      (none (q - block * 64) (omega (arith, from, above)) (omega (arith, from, above, below))) kind)

  round-is : (place bit : ℕ) (port : Port) → bit < 64 → port.0 ≡ block * 64 + bit → IsFirstRound w place bit → first_round test parity block (block * 64 + place) ≡ Some port
  round-is place bit port low at (inl first) =
      ap (λ (o : Option Port). or_else o (first_from test parity block (block * 64))) (first-is place bit port low at first)
  round-is place bit port low at (inr (none, first)) =
      let start : block * 64 + 0 ≡ block * 64 = omega arith in
      ap (λ (o : Option Port). or_else o (first_from test parity block (block * 64)))
      (first-none (block * 64 + place) (omega arith) (λ i from below. none i (omega (arith, from)) below))
      ∙ ap (first_from test parity block) (sym start) ∙ first-is 0 bit port low at first

  -- the bit that is drawn is the port that is drawn in the block
  pub in-place : (bit : ℕ) (port : Port) → IsDrawnBit m w y bit → port.0 ≡ block * 64 + bit → drawn_in test owned parity y block ≡ Some port
  in-place bit port is at =
      ap (option_and_then (first_round test parity block)) (pick-place is.place is.low is.nth) ∙ round-is is.place bit port is.within at is.first

  picked-from : (place : ℕ) → picked (owned_in owned parity block) y ≡ Some place → block * 64 ≤ place
  unfolding owned_in
  picked-from place e = (get-passes (is_open owned (Some parity)) (block * 64) 64 (y % length (owned_in owned parity block)) place e).1

  -- where no bit is set no port is drawn in the block
  pub in-nothing : ((i : ℕ) → i < 64 → w i ≡ false) → drawn_in test owned parity y block ≡ None
  in-nothing none = by-place (picked (owned_in owned parity block) y) refl
    where
      by-place : (o : Option ℕ) → picked (owned_in owned parity block) y ≡ o → drawn_in test owned parity y block ≡ None
      by-place None e = ap (option_and_then (first_round test parity block)) e
      by-place (Some place) e =
          let from = picked-from place e in
          ap (option_and_then (first_round test parity block)) e
          ∙ ap (λ (o : Option Port). or_else o (first_from test parity block (block * 64))) (first-none place from (λ i above below. none i below))
          ∙ first-none (block * 64) (omega arith) (λ i above below. none i below)

-- ---- the words of a block

and-assoc : (a b c : Bool) → (a && (b && c)) ≡ ((a && b) && c)
and-assoc true b c = refl
and-assoc false b c = refl

and-again : (f m : Bool) → (m && (f && m)) ≡ false → (f && m) ≡ false
and-again true true h = h
and-again true false h = refl
and-again false m h = refl

-- the owned ports of a parity in a block, by its owned word
pub mine-bits : (parity : Parity) (owned : List ℕ) (block mask i : ℕ) → mask ≡ mask_of parity → i < 64
    → is_set (bit_and (get_or owned block 0) mask) i ≡ is_open (has_bit owned) (Some parity) (block * 64 + i)
mine-bits parity owned block mask i is low =
    let even : i % 2 ≡ (block * 64 + i) % 2 = omega arith in
    is_set-and (get_or owned block 0) mask i
    ∙ ap (λ (w : ℕ). is_set (get_or owned block 0) i && is_set w i) is
    ∙ ap (λ b. is_set (get_or owned block 0) i && b) (mask-bits parity i low ∙ ap (λ (p : Parity). same_parity p parity) (same-parity_of i (block * 64 + i) even))
    ∙ ap (λ b. b && same_parity (parity_of (block * 64 + i)) parity) (sym (has_bit-in owned block i low))

-- the open ports of a parity in a block, by its free word and the owned ones
pub ready-bits : (parity : Parity) (free owned : List ℕ) (block mask i : ℕ) → mask ≡ mask_of parity → i < 64
    → is_set (bit_and (get_or free block 0) (bit_and (get_or owned block 0) mask)) i ≡ is_open (has_both free owned) (Some parity) (block * 64 + i)
ready-bits parity free owned block mask i is low =
    is_set-and (get_or free block 0) (bit_and (get_or owned block 0) mask) i
    ∙ ap (λ b. is_set (get_or free block 0) i && b) (mine-bits parity owned block mask i is low)
    ∙ ap (λ b. b && is_open (has_bit owned) (Some parity) (block * 64 + i)) (sym (has_bit-in free block i low))
    ∙ and-assoc (has_bit free (block * 64 + i)) (has_bit owned (block * 64 + i)) (same_parity (parity_of (block * 64 + i)) parity)

-- where no bit is set in both words, none is in the one that is part of the other
pub none-ready : (free mine i : ℕ) → (is_set mine i && is_set (bit_and free mine) i) ≡ false → is_set (bit_and free mine) i ≡ false
none-ready free mine i none =
    is_set-and free mine i
    ∙ and-again (is_set free i) (is_set mine i) (ap (λ b. is_set mine i && b) (sym (is_set-and free mine i)) ∙ none)

-- ---- the summary

both-owned : (free owned : List ℕ) → AreOwned (has_both free owned) (has_bit owned)
both-owned free owned q holds = (and_parts (has_bit free q) (has_bit owned q) holds).1

-- the block of a word that has an open port of the parity has one
word-opens : (parity : Parity) (free owned : List ℕ) (index : ℕ) → 0 < open_word parity free owned index → has_open (has_both free owned) parity index ≡ true
unfolding is_set
word-opens parity free owned index some =
    let word : ℕ = open_word parity free owned index in
    let bit = bit_at-trailing_zeros w64 word some (open-fits parity free owned index) in
    let here = is-open parity free owned index (trailing_zeros w64 word) bit.0 (ap (λ b. b == 1) bit.1) in
    by-answer (index * 64 + trailing_zeros w64 word) (omega arith) (omega (arith, bit.0)) here.0 here.1 (first_from (has_both free owned) parity index (index * 64)) refl
  where
    by-answer : (q : ℕ) → index * 64 ≤ q → q ≤ index * 64 + 63 → has_both free owned q ≡ true → parity_of q ≡ parity
        → (o : Option Port) → first_from (has_both free owned) parity index (index * 64) ≡ o → has_open (has_both free owned) parity index ≡ true
    by-answer q low high holds kind None e =
        absurd (both_ways (has_both free owned q)
        (lowest_open-none (has_both free owned) (index * 64) (index * 64 + 63) (Some parity) e q low high (parity-true (parity_of q) parity kind)) holds)
    by-answer q low high holds kind (Some p) e = ap (λ (o : Option Port). is_some o) e

word-closed : (parity : Parity) (free owned : List ℕ) (index : ℕ) → nat_lt 0 (open_word parity free owned index) ≡ false → has_open (has_both free owned) parity index ≡ false
word-closed parity free owned index nothing =
    ap (λ (o : Option Port). is_some o) (lowest-nothing (has_both free owned) (index * 64) (index * 64 + 63) (Some parity)
    (λ q low high kind. none-open parity free owned index q (omega (arith, low, high)) (parity-eq (parity_of q) parity kind) nothing))

-- the bits of a summary are the open blocks
pub opens : (parity : Parity) (free owned summary : List ℕ) (index : ℕ) → IsSummary parity free owned summary → index < 1024
    → has_bit summary index ≡ has_open (has_both free owned) parity index
opens parity free owned summary index is low = is.each index low ∙ by-word (nat_lt 0 (open_word parity free owned index)) refl
  where
    by-word : (b : Bool) → nat_lt 0 (open_word parity free owned index) ≡ b → nat_lt 0 (open_word parity free owned index) ≡ has_open (has_both free owned) parity index
    by-word true e = e ∙ sym (word-opens parity free owned index (ltb-true 0 (open_word parity free owned index) e))
    by-word false e = e ∙ sym (word-closed parity free owned index e)

-- as many blocks are open as bits are set
count-open : (parity : Parity) (free owned summary : List ℕ) (count : ℕ) → IsSummary parity free owned summary → count ≤ 1024
    → count_of (has_open (has_both free owned) parity) 0 count ≡ count_below (has_bit summary) count
count-open parity free owned summary count is few =
    count-same (has_open (has_both free owned) parity) (has_bit summary) 0 0 count
    (λ p q e low high. let same : p ≡ q = omega (arith, e) in
    ap (has_open (has_both free owned) parity) same ∙ sym (opens parity free owned summary q is (omega (arith, same, high, few))))

-- where the summary has no bit, nothing is drawn
pub nothing-drawn : (parity : Parity) (free owned summary : List ℕ) (x y : ℕ) → IsSummary parity free owned summary → count_below (has_bit summary) 1024 ≡ 0
    → drawn_like (has_both free owned) (has_bit owned) parity x y ≡ None
unfolding open_blocks
nothing-drawn parity free owned summary x y is none =
    ap (λ (l : List ℕ). option_and_then (drawn_in (has_both free owned) (has_bit owned) parity y) (picked l x))
    (nil_from_length (open_blocks (has_both free owned) parity) (count-open parity free owned summary 1024 is (omega arith) ∙ none))

-- the port that is drawn is drawn in the block of the picked bit
pub block-drawn : (parity : Parity) (free owned summary : List ℕ) (x y count block : ℕ) → IsSummary parity free owned summary → count ≡ count_below (has_bit summary) 1024
    → IsNth (has_bit summary) (x % count) block → drawn_like (has_both free owned) (has_bit owned) parity x y ≡ drawn_in (has_both free owned) (has_bit owned) parity y block
unfolding open_blocks
block-drawn parity free owned summary x y count block is counted nth =
    let low = summary-within parity free owned summary block is nth.passes in
    let all = count-open parity free owned summary 1024 is (omega arith) in
    ap (option_and_then (drawn_in (has_both free owned) (has_bit owned) parity y))
    (get-place (has_open (has_both free owned) parity) 0 1024 block block (x % length (open_blocks (has_both free owned) parity))
    (sym (opens parity free owned summary block is low) ∙ nth.passes) (omega arith) low
    (count-open parity free owned summary block is (omega (arith, low)) ∙ nth.below ∙ ap (λ (n : ℕ). x % n) (counted ∙ sym all)))

-- in the block of a set bit a port is drawn
pub some-drawn : (parity : Parity) (free owned summary : List ℕ) (y block : ℕ) → IsSummary parity free owned summary → has_bit summary block ≡ true
    → drawn_in (has_both free owned) (has_bit owned) parity y block ≡ None → ⊥
some-drawn parity free owned summary y block is here =
    in-some (has_both free owned) (has_bit owned) parity y block (both-owned free owned)
    (sym (opens parity free owned summary block is (summary-within parity free owned summary block is here)) ∙ here)

-- a remainder is less than the count
pub past-all : (x count bits : ℕ) → count ≡ bits → 0 < count → bits ≤ x % count → ⊥
past-all x count bits is some past = absurd (omega (arith, is, mod-lt x {m = count} some, past))
