-- Which memory is missing where timers aren't made.
use Rattle.std.specs.Prelude.{ℕ, ◌<◌, ◌⊎◌}
use Rattle.memory.specs.Memory.{WasRefused}

-- there are more slots than have numbers of 31 bits, or there is no memory for so many
abbrev pub LacksSlots : ℕ → Type 0
LacksSlots count = (2147483647 < count) ⊎ WasRefused count

-- there is no memory for the heads of the wheel's chains, or no slots
abbrev pub LacksTimers : ℕ → Type 0
LacksTimers count = WasRefused 1024 ⊎ LacksSlots count
