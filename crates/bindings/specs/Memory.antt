-- Which memory is missing where a table isn't made.
use Rattle.std.specs.Prelude.{ℕ, ◌≤◌, ◌⊎◌}
use Rattle.memory.specs.Memory.{WasRefused}
use Rattle.port_range.specs.Memory.{LacksMarks}
use Rattle.slots.specs.Memory.{HasPlaces, LacksPlaces, LacksDues}
use Rattle.bindings.specs.declared.entries.PortBounds.{PortBounds}
use Rattle.bindings.specs.Ports.{key_count}

-- There are slots for at least so many entries, and no more than timers have; how many is known to the call that made
-- them. There is no memory for as many moments, or for as many keys.
pub record LacksWatch (room : ℕ) : Type 0 where
  pub limit : ℕ
  pub least : room ≤ limit
  pub most : limit ≤ 2147483647
  pub given : HasPlaces room limit
  pub refused : LacksDues limit ⊎ WasRefused limit

-- there is no memory for a store of so many entries: none for the slots, or none for the looks at the entries
abbrev pub LacksStore : ℕ → Type 0
LacksStore room = LacksPlaces room ⊎ LacksWatch room

-- there is no memory for a table of the ports of these ranges, for each protocol
abbrev pub LacksTable : PortBounds → PortBounds → Type 0
LacksTable zero one = LacksMarks ⊎ LacksStore (key_count zero one)
