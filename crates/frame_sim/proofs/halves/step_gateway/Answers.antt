use Rattle.std.proofs.Common.{Result, Ok, Err, OnErr}
use Rattle.output.specs.Output.{Paged}
use Rattle.gateway.specs.Lacks.{LacksMemory}
use Rattle.spec_gateway.specs.State.{GatewayState}
use Rattle.spec_step.specs.declared.events.Event.{Event}
use Rattle.frame_sim.specs.Lacks.{WasUnstepped}
use Rattle.frame_sim.proofs.halves.step_gateway.Goals as goal

-- a step that found no memory did so on this output page
unstepped : {X E : Type 0} (r : Result X E) (g : GatewayState) (event : Event) (page : Paged) → OnErr r (LacksMemory g page event) → OnErr r (WasUnstepped g event)
unfolding WasUnstepped
unstepped (Ok x) g event page lacks = tt
unstepped (Err e) g event page lacks = (tt, (page, lacks))

pub returns-clause-unstepped : goal.returns-clause-unstepped
returns-clause-unstepped c = unstepped c.step.result _ _ _ c.step.ensures.lacks
