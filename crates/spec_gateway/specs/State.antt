-- A gateway with the fragments that it has.
use Rattle.std.specs.Prelude.{ℕ}
use Rattle.fragments.specs.Bytes.{KeepsBytes}
use Rattle.fragments.specs.Gathered.{Gathered, none_there}
use Rattle.spec_step.specs.Shown.{Shown}

-- a gateway: what it shows, the fragments that it has, and the number, below 32,768, of the next packet that it sends in
-- fragments under an identification of its own
pub record GatewayState : Type 0 where
  pub shown : Shown
  pub gathered : Gathered
  pub numbered : ℕ

-- a gateway as it begins has no fragments, and numbers packets from 0
abbrev pub beginning : Shown → GatewayState
beginning g = record { shown = g; gathered = none_there; numbered = 0 }

-- all fragments that a gateway has are bytes
abbrev pub KeepsParts : GatewayState → Type 0
KeepsParts s = KeepsBytes s.gathered
