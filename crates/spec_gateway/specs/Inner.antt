-- The step inside: what a gateway's step does to all but fragments is a step on a whole event, or nothing.
use Rattle.std.specs.Prelude.{◌≡◌, ◌⊎◌, ℕ, Option, None, Some, List, []}
use Rattle.std.specs.Borrow.{Bor}
use Rattle.nat_types.specs.declared.gateways.Side.{Side}
use Rattle.output.specs.Output.{Output, Sent}
use Rattle.spec_step.specs.declared.events.Event.{Event}
use Rattle.spec_step.specs.declared.events.Event.TheVariants.{Frame}
use Rattle.spec_step.specs.Machine.{HasBytes}
use Rattle.spec_step.specs.Sayings.{AreOwnIn}
use Rattle.spec_step.specs.Shown.{GatewayAndOutput, scene}
use Rattle.spec_step.specs.Steps.{IsStepOn}
use Rattle.spec_gateway.specs.State.{GatewayState, KeepsParts}

-- an event is a frame that stands for another frame of the same side
pub record IsFrameFor (event whole : Event) : Type 0 where
  pub side : Side
  pub bytes : Bor (List ℕ)
  pub more : Bor (List ℕ)
  pub event_is : event ≡ Frame side bytes
  pub whole_is : whole ≡ Frame side more

-- the event that is taken whole is the event that came, or where that is a frame a frame of the same side
abbrev pub StandsFor : Event → Event → Type 0
StandsFor event whole = (whole ≡ event) ⊎ IsFrameFor event whole

-- A gateway and its output change as by a step on a whole event, which stands for the event that came. It is bytes, where
-- that event and the fragments that the gateway has are.
pub record TakesWhole (s : GatewayState) (told : Output) (event : Event) (s2 : GatewayState) (told2 : Output) : Type 0 where
  pub whole : Event
  pub stands : StandsFor event whole
  pub bytes : HasBytes event → KeepsParts s → HasBytes whole
  pub is : IsStepOn (scene s.shown told) whole (scene s2.shown told2)

-- a gateway and its output stay as they are, but for the fragments that it has
pub record TakesNothing (s : GatewayState) (told : Output) (s2 : GatewayState) (told2 : Output) : Type 0 where
  pub shown : s2.shown ≡ s.shown
  pub told_is : told2 ≡ told
  pub numbered : s2.numbered ≡ s.numbered

-- the own frames at a whole event, if there is one
abbrev pub AreOwnAt : GatewayAndOutput → Option Event → List Sent → Type 0
AreOwnAt s None own = own ≡ []
AreOwnAt s (Some event) own = AreOwnIn s event own
