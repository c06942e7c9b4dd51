-- What bytes are after two parts of them were lent.
use Rattle.std.specs.Prelude.{ℕ, List, ◌++◌}
use Rattle.std.specs.Borrow.{LendsBoth, MutBor, Fml, Array, u8}

-- bytes end as the two parts end, one after the other
abbrev pub LendsParts : MutBor (List ℕ) → MutBor (List ℕ) × MutBor (List ℕ) → Fml
LendsParts bytes parts = LendsBoth (Array u8 0) (Array u8 0) (Array u8 0) bytes parts ◌++◌
