-- Frames that go out at a side.
use Rattle.std.specs.Prelude.{ℕ, List, map}
use Rattle.nat_types.specs.declared.gateways.Side.{Side}
use Rattle.output.specs.Output.{Sent}

-- frames of these bytes at one side
abbrev pub at_side : Side → List (List ℕ) → List Sent
at_side side strings = map (λ bytes. record { side = side; bytes = bytes }) strings
