-- The slots of an endpoint, at most one of each rank.
use Rattle.std.specs.Prelude.{ℕ, ◌+◌, Bool, true, false, ◌&&◌, Option, Some, None, is_some, is_none, if◌then◌else◌}
use Rattle.std.specs.Option.{option_or}
use Rattle.slots.specs.declared.numbers.SlotNumber.{SlotNumber}
use Rattle.slots.specs.declared.ranks.Rank.{Rank}
use Rattle.slots.specs.declared.ranks.Rank.TheVariants.{First, Second}
use Rattle.slots.specs.declared.ranks.Places.{Places}

abbrev pub same_rank : Rank → Rank → Bool
same_rank First First = true
same_rank First Second = false
same_rank Second First = false
same_rank Second Second = true

abbrev pub no_places : Places
no_places = record { first = None; second = None }

-- the slot of that rank
abbrev pub slot_in : Rank → Places → Option SlotNumber
slot_in First p = p.first
slot_in Second p = p.second

-- the slot of the first rank, else that of the second
abbrev pub first_slot : Places → Option SlotNumber
first_slot p = option_or p.first p.second

-- the slots with that of this rank replaced
abbrev pub with_slot : Rank → Option SlotNumber → Places → Places
with_slot First slot p = record p { first = slot }
with_slot Second slot p = record p { second = slot }

abbrev pub has_no_slot : Places → Bool
has_no_slot p = is_none p.first && is_none p.second

-- how many slots there are, of both ranks
abbrev pub slot_count : Places → ℕ
slot_count p = (if is_some p.first then 1 else 0) + (if is_some p.second then 1 else 0)
