-- What a printing call leaves in an output.
use Rattle.std.specs.Prelude.{ℕ, List, Option, Result, OnOk}
use Rattle.std.specs.Io.KnownBytes.{Appends}

-- at Ok the text is appended to what was there, as far as that is known
abbrev pub Prints : {T E : Type 0} → Option (List ℕ) → Result T E → Option (List ℕ) → List ℕ → Type 0
Prints before result after text = OnOk result (Appends before after text)
