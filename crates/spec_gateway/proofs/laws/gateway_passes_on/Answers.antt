use Rattle.std.proofs.Common.{Option}
use Rattle.output.specs.Output.{Output}
use Rattle.spec_step.specs.declared.events.Event.{Event}
use Rattle.spec_step.specs.PassedOn.{TellsAll}
use Rattle.spec_step.specs.Shown.{Shown, scene}
use Rattle.spec_gateway.specs.Steps.{hand_by}
use Rattle.spec_gateway.proofs.Inside.{lifts, nothing-tells-all}
use Rattle.spec_gateway.proofs.laws.gateway_passes_on.Goals as goal

pub returns : goal.returns
returns c = λ s told event s2 told2 step has parts book kept wired.
    lifts (λ (o : Option Event) (g : Shown) (told3 : Output). TellsAll (hand_by o) (scene s.shown told) (scene g told3)) s told event s2 told2 step has parts
    (nothing-tells-all s.shown told)
    (λ whole is bytes. c.steps_pass_on.ensures (scene s.shown told) whole (scene s2.shown step.whole) is bytes book kept wired)
