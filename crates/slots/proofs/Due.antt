-- Which slots are found due, and how often.
use Rattle.std.proofs.Common.{◌≡◌, ℕ, zero, suc, ◌+◌, ◌<◌, ◌≤◌, Bool, true, false, cond, eqb, Option, None, List, [], ◌∷◌, length, get_or, replicate, refl, ap, ◌∙◌, arith}
use Rattle.std.specs.List.Sorted.{IsPermutation}
use Rattle.std.proofs.lemmas.Bool.{cond-true, cond-false, ne_eqb, eq-eqb}
use Rattle.std.proofs.lemmas.List.Sums.{sum_by-cons}
use Rattle.std.proofs.lemmas.List.Sorted.{sum_by-IsPermutation, length_permutation}
use Rattle.timers.specs.Due.{is_due, due_from, due_slots}
use Rattle.slots.specs.Dues.{times, AreDue}

first-is : (n x : ℕ) (xs : List ℕ) → x ≡ n → times n (x ∷ xs) ≡ suc (times n xs)
first-is n x xs e =
    let cons = sum_by-cons (λ m. cond (eqb m n) 1 0) x xs in
    let one = cond-true {A = ℕ} (eqb x n) 1 0 (eq-eqb x n e) in
    omega (arith, cons, one)

first-isn't : (n x : ℕ) (xs : List ℕ) → (x ≡ n → ⊥) → times n (x ∷ xs) ≡ times n xs
first-isn't n x xs e =
    let cons = sum_by-cons (λ m. cond (eqb m n) 1 0) x xs in
    let none = cond-false {A = ℕ} (eqb x n) 1 0 (ne_eqb x n e) in
    omega (arith, cons, none)

none-before : (now first n : ℕ) (ms : List (Option ℕ)) → n < first → times n (due_from now first ms) ≡ 0
none-before now first n [] h = refl
none-before now first n (m ∷ ms) h = at (is_due now m) (none-before now (first + 1) n ms (omega (arith, h)))
  where
    at : (b : Bool) → times n (due_from now (first + 1) ms) ≡ 0 → times n (cond b (first ∷ due_from now (first + 1) ms) (due_from now (first + 1) ms)) ≡ 0
    at true ih = first-isn't n first (due_from now (first + 1) ms) (λ e. omega (arith, h, e)) ∙ ih
    at false ih = ih

due-times : (now first i : ℕ) (ms : List (Option ℕ)) → times (first + i) (due_from now first ms) ≡ cond (is_due now (get_or ms i None)) 1 0
due-times now first i [] = refl
due-times now first zero (m ∷ ms) = at (is_due now m) (none-before now (first + 1) (first + 0) ms (omega arith))
  where
    at : (b : Bool) → times (first + 0) (due_from now (first + 1) ms) ≡ 0 → times (first + 0) (cond b (first ∷ due_from now (first + 1) ms) (due_from now (first + 1) ms)) ≡ cond b 1 0
    at true none = first-is (first + 0) first (due_from now (first + 1) ms) (omega arith) ∙ ap suc none
    at false none = none
due-times now first (suc i) (m ∷ ms) = at (is_due now m) (rw shift at (due-times now (first + 1) i ms))
  where
    shift : first + 1 + i ≡ first + suc i
    shift = omega arith

    at : (b : Bool) → times (first + suc i) (due_from now (first + 1) ms) ≡ cond (is_due now (get_or ms i None)) 1 0
        → times (first + suc i) (cond b (first ∷ due_from now (first + 1) ms) (due_from now (first + 1) ms)) ≡ cond (is_due now (get_or ms i None)) 1 0
    at true ih = first-isn't (first + suc i) first (due_from now (first + 1) ms) (λ e. omega (arith, e)) ∙ ih
    at false ih = ih

-- a list of the due slots in any order has each due slot once
pub are-due : (now : ℕ) (ms : List (Option ℕ)) (found : List ℕ) → IsPermutation (due_slots now ms) found → AreDue now ms found
are-due now ms found p n = sum_by-IsPermutation (λ m. cond (eqb m n) 1 0) (due_slots now ms) found p ∙ here
  where
    here : times n (due_slots now ms) ≡ cond (is_due now (get_or ms n None)) 1 0
    here = (let zero : 0 + n ≡ n = omega arith in rw zero at (due-times now 0 n ms))

few-from : (now first : ℕ) (ms : List (Option ℕ)) → length (due_from now first ms) ≤ length ms
few-from now first [] = omega arith
few-from now first (m ∷ ms) = at (is_due now m) (few-from now (first + 1) ms)
  where
    at : (b : Bool) → length (due_from now (first + 1) ms) ≤ length ms → length (cond b (first ∷ due_from now (first + 1) ms) (due_from now (first + 1) ms)) ≤ suc (length ms)
    at true ih = omega (arith, ih)
    at false ih = omega (arith, ih)

-- no more slots are due than there are
pub few-due : (now : ℕ) (ms : List (Option ℕ)) (found : List ℕ) → IsPermutation (due_slots now ms) found → length found ≤ length ms
few-due now ms found p =
    let few = few-from now 0 ms in
    let same = length_permutation (due_slots now ms) found p in
    omega (arith, few, same)

-- no slot has a moment where none is set
pub none-at : (count slot : ℕ) → get_or (replicate {A = Option ℕ} count None) slot None ≡ None
none-at zero slot = refl
none-at (suc count) zero = refl
none-at (suc count) (suc slot) = none-at count slot
