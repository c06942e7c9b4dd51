-- The memory that a cache needs, and which may be refused.
use Rattle.std.specs.Prelude.{◌⊎◌, ℕ}
use Rattle.memory.specs.Memory.{WasRefused}

-- the memory for what may be learnt was refused: for a log of 2,048 places, or for an index of 1,024
abbrev pub LacksLearnt : Type 0
LacksLearnt = WasRefused 2048 ⊎ WasRefused 1024

-- that memory, or the memory for the list of so many fixed neighbours, was refused
abbrev pub LacksCache : ℕ → Type 0
LacksCache fixed = LacksLearnt ⊎ WasRefused fixed
