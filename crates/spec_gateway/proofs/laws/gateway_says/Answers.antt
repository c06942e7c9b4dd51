use Rattle.std.proofs.Common.{List, Option}
use Rattle.output.specs.Output.{Output, Sent}
use Rattle.spec_step.specs.declared.events.Event.{Event}
use Rattle.spec_step.specs.OwnAnswers.{SaysJust}
use Rattle.spec_step.specs.Shown.{Shown, scene}
use Rattle.spec_gateway.specs.Inner.{AreOwnAt}
use Rattle.spec_gateway.proofs.Inside.{lifts, nothing-says}
use Rattle.spec_gateway.proofs.laws.gateway_says.Goals as goal

pub returns : goal.returns
returns c = λ s told event s2 told2 step has parts book kept wired.
    lifts (λ (o : Option Event) (g : Shown) (told3 : Output). (own : List Sent) × (AreOwnAt (scene s.shown told) o own × SaysJust (scene s.shown told) (scene g told3) own)) s told event s2 told2 step has parts
    (nothing-says s.shown told)
    (λ whole is bytes. c.steps_say.ensures (scene s.shown told) whole (scene s2.shown step.whole) is bytes book kept wired)
