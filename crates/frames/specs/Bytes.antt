-- Bytes written into others.
use Rattle.std.specs.Prelude.{◌≡◌, ℕ, ◌+◌, List, ◌++◌, length, take, drop}

-- `new` is `old` with these bytes written at this place, and no others changed
abbrev pub Puts : ℕ → List ℕ → List ℕ → List ℕ → Type 0
Puts at bytes old new = new ≡ take at old ++ bytes ++ drop (at + length bytes) old
