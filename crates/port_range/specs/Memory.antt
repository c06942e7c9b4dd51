-- Which memory is missing where a range isn't made.
use Rattle.std.specs.Prelude.{◌⊎◌}
use Rattle.memory.specs.Memory.{WasRefused}

-- there is no memory for the 1,024 words of the free or of the owned ports, or for the 16 words of a summary
abbrev pub LacksMarks : Type 0
LacksMarks = WasRefused 1024 ⊎ WasRefused 16
