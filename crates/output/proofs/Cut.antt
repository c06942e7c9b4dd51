-- One more string at the end of a pile.
use Rattle.std.proofs.Common.{◌≡◌, ℕ, suc, ◌+◌, ◌≤◌, List, [], ◌∷◌, ◌++◌, length, take, drop, sum, refl, ap, ◌∙◌, arith, length-drop}
use Rattle.std.proofs.Math.Seq.{take-length}
use Rattle.std.proofs.lemmas.List.{take-append-le, drop-append-le, nil_from_length}
use Rattle.std.proofs.lemmas.List.Sums.{sum_by-cons}
use Rattle.output.specs.Piles.{cut}

pub sum-cons : (x : ℕ) (xs : List ℕ) → sum (x ∷ xs) ≡ x + sum xs
sum-cons x xs = sum_by-cons (λ (n : ℕ). n) x xs

pub cut-push : (sizes bytes more : List ℕ) (size : ℕ) → sum sizes ≡ length bytes → size ≡ length more
    → cut (sizes ++ size ∷ []) (bytes ++ more) ≡ cut sizes bytes ++ more ∷ []
cut-push [] bytes more size fills is =
    let none : bytes ≡ [] = nil_from_length bytes (omega arith) in
    ap (λ xs. take size (xs ++ more) ∷ []) none ∙ ap (λ xs. xs ∷ []) (ap (λ n. take n more) is ∙ take-length more)
cut-push (s ∷ sizes) bytes more size fills is =
    let all = sum-cons s sizes in
    let within : s ≤ length bytes = omega arith in
    let rest = cut-push sizes (drop s bytes) more size (omega (arith, length-drop s bytes)) is in
    ap (λ xs. xs ∷ cut (sizes ++ size ∷ []) (drop s (bytes ++ more))) (take-append-le s bytes more within)
    ∙ ap (λ xs. take s bytes ∷ cut (sizes ++ size ∷ []) xs) (drop-append-le s bytes more within)
    ∙ ap (λ xs. take s bytes ∷ xs) rest

-- there are as many strings as sizes
pub cut-count : (sizes bytes : List ℕ) → length (cut sizes bytes) ≡ length sizes
cut-count [] bytes = refl
cut-count (s ∷ sizes) bytes = ap suc (cut-count sizes (drop s bytes))
