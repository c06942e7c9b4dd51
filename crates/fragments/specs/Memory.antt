-- The memory that fragments need.
use Rattle.std.specs.Prelude.{◌≤◌, ◌⊎◌, ℕ, Option, None, Some, List, length}
use Rattle.memory.specs.Memory.{WasRefused}
use Rattle.fragments.specs.Fragment.{trimmed}

-- no memory was obtained for one more fragment, or one more datagram, in a list, or for a copy of the fragment
abbrev pub LacksCopy : List ℕ → Type 0
LacksCopy fragment = WasRefused 1 ⊎ WasRefused (length fragment)

-- no memory was obtained for so many more bytes at most
abbrev pub LacksUpTo : ℕ → Type 0
LacksUpTo most = (more : ℕ) × (more ≤ most) × WasRefused more

-- no memory was obtained for the bytes of the whole frame, where one is made, for which there was none yet
abbrev pub LacksWhole : Option (List ℕ) → Type 0
LacksWhole None = ⊥
LacksWhole (Some frame) = LacksUpTo (length frame)

-- no memory was obtained for what is kept of a frame, or for the whole frame that is made with it
abbrev pub LacksTaking : List ℕ → Option (List ℕ) → Type 0
LacksTaking frame made = LacksCopy (trimmed frame) ⊎ LacksWhole made
