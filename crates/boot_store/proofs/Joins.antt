-- Calls one after the other.
use Rattle.std.proofs.Common.{◌≡◌, ℕ, List, [], ◌∷◌, ◌++◌, Result, Ok, Err, OnErr, sym, ◌∙◌, ap, append_assoc}
use Rattle.std.proofs.lemmas.List.{append-nil}
use Rattle.std.specs.List.{AllByRecursion}
use Rattle.boot_store.specs.Moment.{Moment, synced}
use Rattle.boot_store.specs.Crash.{LeavesAtLeast, Since, Keeps, looked}

pub all_append : (P : Moment → Type 0) (a b : List Moment) → AllByRecursion P a → AllByRecursion P b → AllByRecursion P (a ++ b)
all_append P [] b pa pb = pb
all_append P (s ∷ a) b pa pb = (pa.0, all_append P a b pa.1 pb)

-- P holds of each Err, whatever a call answers
pub on_err : {T E P : Type 0} → (r : Result T E) → P → OnErr r P
on_err (Ok x) p = tt
on_err (Err e) p = p

-- no call passes no moment
pub none_passed : (past : List Moment) (s : Moment) → Since past past (Keeps s s)
none_passed past s = ([], sym (append-nil past), λ m l. (tt, l))

-- a call before which a crash can come passes one moment
pub one_passed : (before after : List Moment) (s e : Moment) → after ≡ before ++ s ∷ [] → ((m : ℕ) → LeavesAtLeast m s → LeavesAtLeast m e) → Since before after (Keeps s e)
one_passed before after s e is keeps = (s ∷ [], is, λ m l. ((l, tt), keeps m l))

-- a call before and within which a crash can come passes two moments
pub two_passed : (before after : List Moment) (s t e : Moment) → after ≡ before ++ s ∷ t ∷ [] → ((m : ℕ) → LeavesAtLeast m s → LeavesAtLeast m t) → ((m : ℕ) → LeavesAtLeast m s → LeavesAtLeast m e) → Since before after (Keeps s e)
two_passed before after s t e is within keeps = (s ∷ t ∷ [], is, λ m l. ((l, (within m l, tt)), keeps m l))

-- the moments of calls and of more calls, joined
pub then_passed : (p q r : List Moment) (s t e : Moment) → Since p q (Keeps s t) → Since q r (Keeps t e) → Since p r (Keeps s e)
then_passed p q r s t e first second = (
  first.0 ++ second.0,
  second.1 ∙ ap (λ (l : List Moment). l ++ second.0) first.1 ∙ append_assoc p first.0 second.0,
  λ m l. let a = first.2 m l in let b = second.2 m a.1 in (all_append (LeavesAtLeast m) first.0 second.0 a.0 b.0, b.1),
)

-- the moments of a sync and then a read
pub looked_past : (p q r : List Moment) (s t : Moment) → q ≡ p ++ s ∷ [] → t ≡ synced s → r ≡ q ++ t ∷ [] → r ≡ p ++ looked s
looked_past p q r s t first is second =
    second ∙ ap (λ (l : List Moment). l ++ t ∷ []) first ∙ append_assoc p (s ∷ []) (t ∷ []) ∙ ap (λ (x : Moment). p ++ s ∷ x ∷ []) is

-- the moments of a write and then a sync
pub stored_past : (p q r : List Moment) (s t u v : Moment) → q ≡ p ++ s ∷ t ∷ [] → t ≡ v → r ≡ q ++ u ∷ [] → r ≡ p ++ s ∷ v ∷ u ∷ []
stored_past p q r s t u v first is second =
    second ∙ ap (λ (l : List Moment). l ++ u ∷ []) first ∙ append_assoc p (s ∷ t ∷ []) (u ∷ []) ∙ ap (λ (x : Moment). p ++ s ∷ x ∷ u ∷ []) is
