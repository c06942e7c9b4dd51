-- What passes a wire.
use Rattle.std.specs.Prelude.{ℕ, List, take, Option, Some, None, Result, Ok, Err}
use Rattle.sockets.specs.declared.wire.Place.{Place}

-- a datagram is received from a place, or handed over for one; or a call by which no datagram passes
pub data Message : Type 0 where
  received : Place → List ℕ → Message
  sent : Place → List ℕ → Message
  nothing : Message

-- what a receiver is answered, with so many bytes of its buffer
abbrev pub message_of : {E : Type 0} → Result (Option (Place × ℕ)) E → List ℕ → Message
message_of (Ok (Some found)) buffer = received found.0 (take found.1 buffer)
message_of (Ok None) buffer = nothing
message_of (Err fault) buffer = nothing

-- what a wire is before a message passes it, and what it is then
abbrev pub Passes : Type 0 → Type 1
Passes W = W → Message → W → Type 0

-- of the system's sockets nothing is said
abbrev pub AnyWay : {W : Type 0} → W → Message → W → Type 0
AnyWay before message after = Unit {0}
