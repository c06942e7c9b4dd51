-- Due slots that are cleared and appended, one after another.
use Rattle.std.proofs.Common.{◌≡◌, ℕ, zero, suc, ◌+◌, ◌<◌, ◌≤◌, Bool, true, false, cond, Option, Some, None, inl, inr, List, [], ◌∷◌, ◌++◌, length, get_or, map, append_assoc, refl, sym, ap, ◌∙◌, subst, arith}
use Rattle.std.proofs.Math.ListN.{set}
use Rattle.std.proofs.Math.Seq.{map-set_same}
use Rattle.std.proofs.lemmas.Bool.{cond-true, cases_eq, le-leb}
use Rattle.std.proofs.lemmas.Option.{none-some}
use Rattle.std.proofs.lemmas.List.{get_or-set_same, get_or-set_other}
use Rattle.std.proofs.lemmas.List.Sorted.{IsPermutation-refl, IsPermutation-trans, IsPermutation-cons, IsPermutation-middle, IsPermutation-append_right}
use Rattle.std.specs.List.Sorted.{IsPermutation}
use Rattle.timers.specs.Due.{is_due, due_from, due_slots, cleared}
use Rattle.timers.specs.Steps.{AreTaken}

behind_one : (b : Bool) (first n : ℕ) (xs ys : List ℕ) → IsPermutation xs (n ∷ ys) → IsPermutation (cond b (first ∷ xs) xs) (n ∷ cond b (first ∷ ys) ys)
behind_one true first n xs ys h = IsPermutation-trans (first ∷ xs) (first ∷ n ∷ ys) (n ∷ first ∷ ys) (IsPermutation-cons first xs (n ∷ ys) h) (IsPermutation-middle (first ∷ []) n ys)
behind_one false first n xs ys h = h

-- the due slots are a due slot and then the others, in some order
due_first : (now first : ℕ) (ms : List (Option ℕ)) (s : ℕ) → is_due now (get_or ms s None) ≡ true → IsPermutation (due_from now first ms) ((first + s) ∷ due_from now first (set ms s None))
due_first now first [] s is = cc
due_first now first (m ∷ ms) zero is =
    let front : due_from now first (m ∷ ms) ≡ (first + 0) ∷ due_from now (first + 1) ms = cond-true (is_due now m) (first ∷ due_from now (first + 1) ms) (due_from now (first + 1) ms) is ∙ ap (λ n. n ∷ due_from now (first + 1) ms) (omega arith) in
    let P : List ℕ → Type 0 = λ xs. IsPermutation xs ((first + 0) ∷ due_from now (first + 1) ms) in
    subst P (sym front) (IsPermutation-refl ((first + 0) ∷ due_from now (first + 1) ms))
due_first now first (m ∷ ms) (suc s) is =
    let number : first + 1 + s ≡ first + suc s = omega arith in
    let P : ℕ → Type 0 = λ n. IsPermutation (due_from now (first + 1) ms) (n ∷ due_from now (first + 1) (set ms s None)) in
    behind_one (is_due now m) first (first + suc s) (due_from now (first + 1) ms) (due_from now (first + 1) (set ms s None)) (subst P number (due_first now (first + 1) ms s is))

append_nothing : (xs : List ℕ) → xs ≡ xs ++ []
append_nothing [] = refl
append_nothing (x ∷ xs) = ap (λ ys. x ∷ ys) (append_nothing xs)

pub taken_none : (now : ℕ) (ms : List (Option ℕ)) (list : List ℕ) → AreTaken now ms ms list list
taken_none now ms list = record {
  taken = [];
  appended = append_nothing list;
  found = IsPermutation-refl (due_slots now ms);
  cleared = refl;
  left = λ s due h. h;
}

pub taken_more : (now : ℕ) (before between after : List (Option ℕ)) (list middle new : List ℕ) → AreTaken now before between list middle → AreTaken now between after middle new → AreTaken now before after list new
taken_more now before between after list middle new h k =
    let joined = IsPermutation-trans (due_slots now before) (h.taken ++ due_slots now between) (h.taken ++ (k.taken ++ due_slots now after)) h.found (IsPermutation-append_right h.taken (due_slots now between) (k.taken ++ due_slots now after) k.found) in
    let P : List ℕ → Type 0 = λ xs. IsPermutation (due_slots now before) xs in
    record {
      taken = h.taken ++ k.taken;
      appended = k.appended ∙ ap (λ xs. xs ++ k.taken) h.appended ∙ append_assoc list h.taken k.taken;
      found = subst P (sym (append_assoc h.taken k.taken (due_slots now after))) joined;
      cleared = k.cleared ∙ h.cleared;
      left = λ s due e. h.left s due (k.left s due e);
    }

stayed : (ms : List (Option ℕ)) (s t due : ℕ) → s < length ms → get_or (set ms s None) t None ≡ Some due → get_or ms t None ≡ Some due
stayed ms s t due within h =
    elim (cases_eq t s) [
      | inl same ↦ absurd (none-some due (sym (get_or-set_same ms s None None within) ∙ ap (λ k. get_or (set ms s None) k None) (sym same) ∙ h))
      | inr other ↦ sym (get_or-set_other ms s t None None other) ∙ h
    ]

pub taken_one : (now : ℕ) (before after : List (Option ℕ)) (list new : List ℕ) (s due : ℕ) → s < length before → get_or before s None ≡ Some due → due ≤ now → after ≡ set before s None → new ≡ list ++ s ∷ [] → AreTaken now before after list new
taken_one now before after list new s due within moment passed is appended =
    let here : is_due now (get_or before s None) ≡ true = ap (is_due now) moment ∙ le-leb due now passed in
    let number : 0 + s ≡ s = omega arith in
    let P : ℕ → Type 0 = λ n. IsPermutation (due_slots now before) (n ∷ due_slots now (set before s None)) in
    let Q : List (Option ℕ) → Type 0 = λ ms. IsPermutation (due_slots now before) (s ∷ due_slots now ms) in
    record {
      taken = s ∷ [];
      appended = appended;
      found = subst Q (sym is) (subst P number (due_first now 0 before s here));
      cleared = ap (map (cleared now)) is ∙ map-set_same (cleared now) before s None None (sym (cond-true (is_due now (get_or before s None)) None (get_or before s None) here));
      left = λ t moment_left h. stayed before s t moment_left within (ap (λ ms. get_or ms t None) (sym is) ∙ h);
    }

-- a slot that isn't due doesn't become due
pub still_not : (now : ℕ) (before after : List (Option ℕ)) (list new : List ℕ) → AreTaken now before after list new → (s : ℕ) → is_due now (get_or before s None) ≡ false → (o : Option ℕ) → get_or after s None ≡ o → is_due now o ≡ false
still_not now before after list new h s not None is = refl
still_not now before after list new h s not (Some due) is = ap (is_due now) (sym (h.left s due is)) ∙ not
