-- Byte strings one after the other in one buffer.
use Rattle.std.specs.Prelude.{ℕ, zero, suc, ◌+◌, List, [], ◌∷◌, length, take, drop}

-- bytes, cut into strings of these sizes
abbrev pub cut : List ℕ → List ℕ → List (List ℕ)
cut [] bytes = []
cut (size ∷ sizes) bytes = take size bytes ∷ cut sizes (drop size bytes)

-- the model of a pile: its strings, and for how many more strings and bytes there is capacity
pub record Pile : Type 0 where
  pub strings : List (List ℕ)
  pub places : ℕ
  pub octets : ℕ

-- the strings, of which the one at an index is changed
abbrev pub changed_string : ℕ → (List ℕ → List ℕ) → List (List ℕ) → List (List ℕ)
changed_string k change [] = []
changed_string zero change (bytes ∷ strings) = change bytes ∷ strings
changed_string (suc k) change (bytes ∷ strings) = bytes ∷ changed_string k change strings

-- how many bytes all strings have together
abbrev pub bytes_in : List (List ℕ) → ℕ
bytes_in [] = 0
bytes_in (bytes ∷ strings) = length bytes + bytes_in strings
