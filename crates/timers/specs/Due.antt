-- Slots with the moments at which they are due.
use Rattle.std.specs.Prelude.{ℕ, ◌+◌, Bool, false, List, [], ◌∷◌, Option, Some, None, nat_le, is_some, count_by, if◌then◌else◌}

-- a slot is due where it is set, and its moment is at most now
abbrev pub is_due : ℕ → Option ℕ → Bool
is_due now None = false
is_due now (Some moment) = nat_le moment now

-- the numbers of the due slots of a list whose first slot has this number
abbrev pub due_from : ℕ → ℕ → List (Option ℕ) → List ℕ
due_from now first [] = []
due_from now first (slot ∷ slots) = (if is_due now slot then first ∷ due_from now (first + 1) slots else due_from now (first + 1) slots)

-- the due slots, lowest first
abbrev pub due_slots : ℕ → List (Option ℕ) → List ℕ
due_slots now slots = due_from now 0 slots

-- a slot after the due ones are unset
abbrev pub cleared : ℕ → Option ℕ → Option ℕ
cleared now slot = (if is_due now slot then None else slot)

-- how many slots are set
abbrev pub set_count : List (Option ℕ) → ℕ
set_count slots = count_by is_some slots
