-- A due moment for each slot that is set, and the slots that came due.
use Rattle.std.specs.Prelude.{◌≡◌, ℕ, ◌==◌, List, Option, None, count_by, if◌then◌else◌}
use Rattle.std.proofs.Common.{get_or}
use Rattle.timers.specs.Due.{is_due}
use Rattle.slots.specs.declared.numbers.SlotNumber.{SlotNumber}

-- what callers see: a moment or none for each slot, and the numbers of the slots that came due and weren't popped
pub record Dues : Type 0 where
  pub moments : List (Option ℕ)
  pub found : List ℕ

-- the moment of a slot
abbrev pub moment_of : List (Option ℕ) → SlotNumber → Option ℕ
moment_of moments number = get_or moments number.0 None

-- how often a number is listed
abbrev pub times : ℕ → List ℕ → ℕ
times n found = count_by (λ m. m == n) found

-- each slot whose moment is at most this one is listed once, and no other
abbrev pub AreDue : ℕ → List (Option ℕ) → List ℕ → Type 0
AreDue now moments found = (n : ℕ) → times n found ≡ (if is_due now (get_or moments n None) then 1 else 0)
