-- One more frame at the end of an output.
use Rattle.std.proofs.Common.{◌≡◌, ℕ, List, [], ◌∷◌, ◌++◌, length, refl, ap, ◌∙◌, arith}
use Rattle.nat_types.specs.declared.gateways.Side.{Side}
use Rattle.output.specs.Output.{Sent, Output, sent, with_frame}

sent-push : (sides : List Side) (strings : List (List ℕ)) (side : Side) (bytes : List ℕ) → length sides ≡ length strings
    → sent (sides ++ side ∷ []) (strings ++ bytes ∷ []) ≡ sent sides strings ++ record { side = side; bytes = bytes } ∷ []
sent-push [] [] side bytes same = refl
sent-push [] (s ∷ strings) side bytes same = absurd (omega arith)
sent-push (x ∷ sides) [] side bytes same = absurd (omega arith)
sent-push (x ∷ sides) (s ∷ strings) side bytes same =
    ap (λ (fs : List Sent). record { side = x; bytes = s } ∷ fs) (sent-push sides strings side bytes (omega arith))

-- the output with one frame more, by sides and strings
pub told-push : (old : Output) (sides : List Side) (strings : List (List ℕ)) (side : Side) (bytes : List ℕ) → sent sides strings ≡ old.frames → length sides ≡ length strings
    → (record old { frames = sent (sides ++ side ∷ []) (strings ++ bytes ∷ []) }) ≡ with_frame old side bytes
told-push old sides strings side bytes is same =
    ap (λ (fs : List Sent). let t : Output = record old { frames = fs } in t)
    (sent-push sides strings side bytes same ∙ ap (λ (fs : List Sent). fs ++ record { side = side; bytes = bytes } ∷ []) is)
