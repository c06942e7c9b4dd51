-- Three parts that are appended one after another.
use Rattle.std.proofs.Common.{◌≡◌, ℕ, List, ◌++◌, ap, ◌∙◌, append_assoc}

pub three-appended : (list a b c l1 l2 l3 : List ℕ) → l1 ≡ list ++ a → l2 ≡ l1 ++ b → l3 ≡ l2 ++ c → l3 ≡ list ++ (a ++ (b ++ c))
three-appended list a b c l1 l2 l3 e1 e2 e3 =
    e3 ∙ ap (λ xs. xs ++ c) e2 ∙ ap (λ xs. (xs ++ b) ++ c) e1
    ∙ append_assoc (list ++ a) b c ∙ append_assoc list a (b ++ c)
