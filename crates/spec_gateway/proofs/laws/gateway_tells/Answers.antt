use Rattle.std.proofs.Common.{Option}
use Rattle.output.specs.Output.{Output}
use Rattle.spec_step.specs.declared.events.Event.{Event}
use Rattle.spec_step.specs.Shown.{Shown, scene}
use Rattle.spec_step.specs.Truly.{IsSetUp, Tells}
use Rattle.spec_gateway.specs.Steps.{hand_by}
use Rattle.spec_gateway.proofs.Inside.{lifts, nothing-tells}
use Rattle.spec_gateway.proofs.laws.gateway_tells.Goals as goal

pub returns-clause-truly : goal.returns-clause-truly
returns-clause-truly c = λ s told event s2 told2 step has parts book kept wired.
    lifts (λ (o : Option Event) (g : Shown) (told3 : Output). Tells (hand_by o) (scene s.shown told) (scene g told3)) s told event s2 told2 step has parts
    (nothing-tells s.shown told)
    (λ whole is bytes. c.steps_tell.ensures.truly (scene s.shown told) whole (scene s2.shown step.whole) is bytes book kept wired)

pub returns-clause-set_up : goal.returns-clause-set_up
returns-clause-set_up c = λ s told event s2 told2 step has parts book kept wired.
    lifts (λ (o : Option Event) (g : Shown) (told3 : Output). IsSetUp g) s told event s2 told2 step has parts
    wired
    (λ whole is bytes. c.steps_tell.ensures.set_up (scene s.shown told) whole (scene s2.shown step.whole) is bytes book kept wired)
