-- The memory that packets that wait need.
use Rattle.std.specs.Prelude.{◌⊎◌, ℕ}
use Rattle.memory.specs.Memory.{WasRefused}

-- no memory was obtained for the list of 128 packets, or for that of 64 spare buffers
abbrev pub LacksPackets : Type 0
LacksPackets = WasRefused 128 ⊎ WasRefused 64

-- no memory was obtained for a copy of so many bytes: for a buffer of 1,514 bytes, or for one of so many
abbrev pub LacksCopy : ℕ → Type 0
LacksCopy count = WasRefused 1514 ⊎ WasRefused count
