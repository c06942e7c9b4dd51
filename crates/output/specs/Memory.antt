-- The memory that an output buffer needs.
use Rattle.std.specs.Prelude.{◌+◌, ◌*◌, ◌⊎◌, ℕ}
use Rattle.memory.specs.Memory.{WasRefused}
use Rattle.output.specs.declared.pages.Room.{Room}

-- no memory was obtained for so many more strings with so many bytes in all: for their sizes, or for their bytes
abbrev pub LacksPile : ℕ → ℕ → Type 0
LacksPile places octets = WasRefused places ⊎ WasRefused octets

-- no memory was obtained for so many frames, with so many bytes beyond 1,514 each: for their sides, or for their strings
abbrev pub LacksFrames : ℕ → ℕ → Type 0
LacksFrames frames octets = WasRefused frames ⊎ LacksPile frames (1514 * frames + octets)

-- no memory was obtained for this capacity: for the frames, the datagrams, or the notes
abbrev pub LacksPage : Room → Type 0
LacksPage room = LacksFrames room.frames room.octets
    ⊎ (LacksPile room.datagrams (2232 * room.datagrams) ⊎ WasRefused room.notes)
