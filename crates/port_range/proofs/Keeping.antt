-- How many ports may be given out, after each change of their marks.
use Rattle.std.proofs.Common.{◌≡◌, ℕ, zero, suc, ◌+◌, ◌-◌, ◌*◌, ◌^◌, ◌<◌, ◌≤◌, nat_le, Bool, true, false, cond, ◌&&◌, List, ◌∷◌, length, get_or, bit_and, count_ones, refl, ap, ◌∙◌, sym, arith}
use Rattle.std.specs.List.{filter}
use Rattle.std.proofs.lemmas.Bool.{and_parts, and_left, leb-true, false_from_ne_true}
use Rattle.std.proofs.lemmas.Nat.{and_le_r}
use Rattle.port_range.specs.Ports.{is_free, open_ports}
use Rattle.port_range.specs.Words.{is_set, has_bit}
use Rattle.port_range.specs.Counts.{count_below, one_if}
use Rattle.port_range.specs.Marks.{Marked, has_both, open_count, ports_where, ranged, HasMarks}
use Rattle.port_range.proofs.Bits.{is_set-and, has_bit-in}
use Rattle.port_range.proofs.Counting.{count_of, count-step, count-split, count-same, count-none, count-le, ones-bits}
use Rattle.port_range.proofs.Listed.{where-is}

-- ---- one number comes or goes

-- the numbers that pass are those before a place, the place, and those past it
count-at : (test : ℕ → Bool) (place end : ℕ) → place < end → count_of test 0 end ≡ count_of test 0 place + one_if (test place) + count_of test (place + 1) (end - (place + 1))
count-at test place end low =
    let parts = count-split test 0 place place (end - place) end (omega (arith, low)) (omega arith) in
    let more = count-split test place (place + 1) 1 (end - (place + 1)) (end - place) (omega (arith, low)) (omega arith) in
    omega (arith, parts, more, count-step test place 0)

-- two tests that agree but at one place count the same but for that place
count-put : (a b : ℕ → Bool) (place end : ℕ) → place < end → ((q : ℕ) → (q ≡ place → ⊥) → b q ≡ a q) → count_of b 0 end + one_if (a place) ≡ count_of a 0 end + one_if (b place)
count-put a b place end low same =
    let before = count-same b a 0 0 place
    (λ p q e from below. (let one : p ≡ q = omega (arith, e) in same p (λ here. absurd (omega (arith, here, below))) ∙ ap a one)) in
    let past = count-same b a (place + 1) (place + 1) (end - (place + 1))
    (λ p q e from below. (let one : p ≡ q = omega (arith, e) in same p (λ here. absurd (omega (arith, here, from))) ∙ ap a one)) in
    omega (arith, count-at a place end low, count-at b place end low, before, past)

counted : (a b : ℕ → Bool) (place end count after : ℕ) (was is : Bool) → place < end → ((q : ℕ) → (q ≡ place → ⊥) → b q ≡ a q) → was ≡ a place → is ≡ b place
    → count ≡ count_of a 0 end → after + one_if was ≡ count + one_if is → after ≡ count_of b 0 end
counted a b place end count after was is low same before now so-far changed =
    omega (arith, count-put a b place end low same, ap one_if before, ap one_if now, so-far, changed)

one-counted : (test : ℕ → Bool) (place end count : ℕ) (was : Bool) → place < end → was ≡ test place → count ≡ count_of test 0 end → one_if was ≤ count
one-counted test place end count was low before so-far = omega (arith, count-at test place end low, ap one_if before, so-far)

few-counted : (test : ℕ → Bool) (end count : ℕ) → count ≡ count_of test 0 end → count ≤ end
few-counted test end count so-far = omega (arith, count-le test 0 end, so-far)

-- ---- the ports that may be given out

-- the count after one port's marks were written
pub open-put : (free owned free' owned' : List ℕ) (place count after : ℕ) (was is : Bool) → place < 65536 → ((q : ℕ) → (q ≡ place → ⊥) → has_both free' owned' q ≡ has_both free owned q)
    → was ≡ has_both free owned place → is ≡ has_both free' owned' place → count ≡ open_count free owned → after + one_if was ≡ count + one_if is → after ≡ open_count free' owned'
unfolding open_count
open-put free owned free' owned' place count after was is low same before now so-far changed =
    counted (has_both free owned) (has_both free' owned') place 65536 count after was is low same before now so-far changed

-- a port that may be given out is counted
pub open-some : (free owned : List ℕ) (place count : ℕ) (was : Bool) → place < 65536 → was ≡ has_both free owned place → count ≡ open_count free owned → one_if was ≤ count
unfolding open_count
open-some free owned place count was low before so-far = one-counted (has_both free owned) place 65536 count was low before so-far

pub open-few : (free owned : List ℕ) (count : ℕ) → count ≡ open_count free owned → count ≤ 65536
unfolding open_count
open-few free owned count so-far = few-counted (has_both free owned) 65536 count so-far

-- where no port is free, none may be given out
pub open-none : (free owned : List ℕ) → ((q : ℕ) → has_bit free q ≡ false) → open_count free owned ≡ 0
unfolding open_count
open-none free owned none = count-none (has_both free owned) 0 65536 (λ q from below. and_left (has_bit free q) (has_bit owned q) (none q))

-- the ports that may be given out up to the end of a word
pub both-more : (free owned : List ℕ) (index : ℕ) → get_or owned index 0 < 2 ^ 64
    → count_below (has_both free owned) (64 * (index + 1)) ≡ count_below (has_both free owned) (64 * index) + count_ones (bit_and (get_or free index 0) (get_or owned index 0))
both-more free owned index fits =
    let word : ℕ = bit_and (get_or free index 0) (get_or owned index 0) in
    let low : word < 2 ^ 64 = omega (arith, and_le_r (get_or free index 0) (get_or owned index 0), fits) in
    let parts = count-split (has_both free owned) 0 (64 * index) (64 * index) 64 (64 * (index + 1)) (omega arith) (omega arith) in
    let moved = count-same (has_both free owned) (is_set word) (64 * index) 0 64 (λ p q e from below. both-at p q (omega (arith, e)) (omega (arith, e, below))) in
    omega (arith, parts, moved, ones-bits 64 word low)
  where
    both-at : (p q : ℕ) → p ≡ index * 64 + q → q < 64 → has_both free owned p ≡ is_set (bit_and (get_or free index 0) (get_or owned index 0)) q
    both-at p q at low =
        ap (has_both free owned) at
        ∙ ap (λ b. b && has_bit owned (index * 64 + q)) (has_bit-in free index q low)
        ∙ ap (λ b. is_set (get_or free index 0) q && b) (has_bit-in owned index q low)
        ∙ sym (is_set-and (get_or free index 0) (get_or owned index 0) q)

-- all words are counted
pub both-all : (free owned : List ℕ) (index count : ℕ) → index ≡ 1024 → count ≡ count_below (has_both free owned) (64 * index) → count ≡ open_count free owned
unfolding open_count
both-all free owned index count whole so-far = (let all : 64 * index ≡ 65536 = omega (arith, whole) in so-far ∙ ap (count_below (has_both free owned)) all)

-- ---- of a range

filter-first : (f : ℕ → Bool) (b : Bool) (x : ℕ) (xs ys : List ℕ) → filter f xs ≡ ys → filter f (cond b (x ∷ xs) xs) ≡ cond (f x && b) (x ∷ ys) ys
filter-first f true x xs ys h = at (f x)
  where
    at : (c : Bool) → cond c (x ∷ filter f xs) (filter f xs) ≡ cond (c && true) (x ∷ ys) ys
    at true = ap (λ (zs : List ℕ). x ∷ zs) h
    at false = h
filter-first f false x xs ys h = at (f x)
  where
    at : (c : Bool) → filter f xs ≡ cond (c && false) (x ∷ ys) ys
    at true = h
    at false = h

-- of the numbers that pass one test those that pass another are those that pass both
filter-where : (f test : ℕ → Bool) (start count : ℕ) → filter f (ports_where test start count) ≡ ports_where (λ q. f q && test q) start count
filter-where f test start zero = refl
filter-where f test start (suc count) =
    filter-first f (test start) start (ports_where test (start + 1) count) (ports_where (λ q. f q && test q) (start + 1) count) (filter-where f test (start + 1) count)

below : (highest : ℕ) → highest ≤ 65535 → highest < 65536
below highest top = omega (arith, top)

count-lies : (test : ℕ → Bool) (lowest highest end : ℕ) → lowest ≤ highest → highest < end → ((q : ℕ) → test q ≡ true → (lowest ≤ q) × (q ≤ highest)) → count_of test lowest (highest + 1 - lowest) ≡ count_of test 0 end
count-lies test lowest highest end order top within =
    let one = count-split test 0 lowest lowest (end - lowest) end (omega (arith, order, top)) (omega arith) in
    let two = count-split test lowest (highest + 1) (highest + 1 - lowest) (end - (highest + 1)) (end - lowest) (omega (arith, order, top)) (omega (arith, order)) in
    let before = count-none test 0 lowest (λ q from below. false_from_ne_true (test q) (λ holds. omega (arith, below, (within q holds).0))) in
    let past = count-none test (highest + 1) (end - (highest + 1)) (λ q from below. false_from_ne_true (test q) (λ holds. omega (arith, from, (within q holds).1))) in
    omega (arith, one, two, before, past)

ranged-count : (lowest highest end : ℕ) (marks : Marked) → HasMarks lowest highest marks → highest < end → length (open_ports (ranged lowest highest marks)) ≡ count_of (has_both marks.free marks.owned) 0 end
ranged-count lowest highest end marks h top =
    ap length (filter-where (is_free (ranged lowest highest marks)) (has_bit marks.owned) lowest (highest + 1 - lowest))
    ∙ count-same (λ q. is_free (ranged lowest highest marks) q && has_bit marks.owned q) (has_both marks.free marks.owned) lowest lowest (highest + 1 - lowest)
    (λ p q e from below. let one : p ≡ q = omega (arith, e) in
    ap (λ b. b && has_bit marks.owned p) (where-is lowest highest (has_bit marks.free) h.order h.free p) ∙ ap (has_both marks.free marks.owned) one)
    ∙ count-lies (has_both marks.free marks.owned) lowest highest end h.order top within
  where
    within : (q : ℕ) → has_both marks.free marks.owned q ≡ true → (lowest ≤ q) × (q ≤ highest)
    within q holds =
        let parts = and_parts (nat_le lowest q) (nat_le q highest) (h.free q (and_parts (has_bit marks.free q) (has_bit marks.owned q) holds).0) in
        (leb-true lowest q parts.0, leb-true q highest parts.1)

-- the owned ports of a range that are free are as many as have both marks
pub open-ranged : (lowest highest : ℕ) (marks : Marked) (count : ℕ) → HasMarks lowest highest marks → count ≡ open_count marks.free marks.owned → count ≡ length (open_ports (ranged lowest highest marks))
unfolding open_count
open-ranged lowest highest marks count h is = is ∙ sym (ranged-count lowest highest 65536 marks h (below highest h.high))
