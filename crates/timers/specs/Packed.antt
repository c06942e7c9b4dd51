-- The links of a slot in two words of 32 bits and its moment.
use Rattle.std.specs.Prelude.{ℕ, ◌-◌, ◌/◌, ◌%◌, ◌==◌, if◌then◌else◌, List, map, Option, Some, None}
use Rattle.timers.specs.declared.links.Links.{Links}
use Rattle.timers.specs.declared.packed.Packed.{Packed}

-- a word is twice one more than the number of a slot, or 0 for none; its lowest bit isn't part of the number
abbrev pub slot_in : ℕ → Option ℕ
slot_in word = (if word / 2 == 0 then None else Some (word / 2 - 1))

-- the first word's lowest bit says whether the slot is set
abbrev pub due_in : ℕ → ℕ → Option ℕ
due_in word due = (if word % 2 == 0 then None else Some due)

abbrev pub unpacked : Packed → Links
unpacked packed = record { next = slot_in packed.next; previous = slot_in packed.previous; due = due_in packed.next packed.due }

-- the links of each packed slot
abbrev pub all_unpacked : List Packed → List Links
all_unpacked list = map unpacked list
