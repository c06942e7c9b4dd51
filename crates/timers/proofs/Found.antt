-- Which slots are found due.
use Rattle.std.proofs.Common.{◌≡◌, ℕ, zero, suc, ◌+◌, Bool, true, false, cond, Option, None, List, [], ◌∷◌, get_or, refl, subst, arith}
use Rattle.std.specs.List.{Contains}
use Rattle.std.proofs.lemmas.List.Elements.{Contains-append_right}
use Rattle.timers.specs.Due.{is_due, due_from}

first_listed : (b : Bool) (n : ℕ) (rest : List ℕ) → b ≡ true → Contains (cond b (n ∷ rest) rest) n
first_listed true n rest h = (0, omega arith, refl)
first_listed false n rest h = cc

rest_listed : (b : Bool) (n : ℕ) (rest : List ℕ) (s : ℕ) → Contains rest s → Contains (cond b (n ∷ rest) rest) s
rest_listed true n rest s h = Contains-append_right (n ∷ []) rest s h
rest_listed false n rest s h = h

-- a due slot is listed
pub listed-due : (now first : ℕ) (slots : List (Option ℕ)) (i : ℕ) → is_due now (get_or slots i None) ≡ true → Contains (due_from now first slots) (first + i)
listed-due now first [] i h = cc
listed-due now first (slot ∷ slots) zero h =
    let here : first ≡ first + zero = omega arith in
    let P : ℕ → Type 0 = λ s. Contains (due_from now first (slot ∷ slots)) s in
    subst P here (first_listed (is_due now slot) first (due_from now (first + 1) slots) h)
listed-due now first (slot ∷ slots) (suc i) h =
    let next : first + 1 + i ≡ first + suc i = omega arith in
    let P : ℕ → Type 0 = λ s. Contains (due_from now first (slot ∷ slots)) s in
    subst P next (rest_listed (is_due now slot) first (due_from now (first + 1) slots) (first + 1 + i) (listed-due now (first + 1) slots i h))
