-- Which memory is missing, or which number is too great, where slots aren't made or endpoints don't fit.
use Rattle.std.specs.Prelude.{ℕ, ◌+◌, ◌<◌, ◌⊎◌}
use Rattle.memory.specs.Memory.{WasRefused}
use Rattle.timers.specs.Memory.{LacksTimers}

-- there is no memory for the cells, or none for the marks of their blocks
abbrev pub LacksCells : ℕ → ℕ → Type 0
LacksCells cells blocks = WasRefused cells ⊎ WasRefused blocks

-- A slab that was made with capacity for `room` items has `limit` slots. No clause says how many these are, so the
-- definition is no more than a name: only a call that made the slab shows it.
unfoldable pub HasPlaces : ℕ → ℕ → Type 0
HasPlaces room limit = Unit {0}

-- the slab has more slots than timers have
abbrev pub HasTooMany : ℕ → Type 0
HasTooMany room = (limit : ℕ) × ((2147483647 < limit) × HasPlaces room limit)

-- there are no slots for so many items and their cells: there are too many, or there is no memory
abbrev pub LacksPlaces : ℕ → Type 0
LacksPlaces room = HasTooMany room ⊎ (WasRefused room ⊎ LacksCells 196608 768)

-- there are no moments for so many slots: there is no memory for the slots that are found, or there are no timers
abbrev pub LacksDues : ℕ → Type 0
LacksDues count = WasRefused count ⊎ LacksTimers count

-- there is no capacity for so many more slots of endpoints: there would be more than a count of 32 bits holds, or there
-- is no memory
abbrev pub LacksEndpoints : ℕ → ℕ → Type 0
LacksEndpoints more held = (4294967295 < held + more) ⊎ WasRefused more
