-- A gateway that is up, and the event that it is given.
use Rattle.std.proofs.Common.{◌≡◌, List, ◌++◌, Option, Some, sym, subst}
use Rattle.nat_types.specs.declared.notes.Note.{Note}
use Rattle.link.specs.Link.{IsLink}
use Rattle.output.specs.Output.{Output}
use Rattle.spec_step.specs.declared.events.Event.{Event}
use Rattle.spec_step.specs.declared.events.Outcome.{Outcome}
use Rattle.spec_step.specs.Machine.{HasBytes}
use Rattle.spec_step.specs.Truly.{IsSetUp}
use Rattle.spec_gateway.specs.State.{GatewayState}
use Rattle.spec_gateway.specs.Steps.{outcome_of}
use Rattle.gateway.specs.Gateway.{IsGateway}
use Rattle.frame_sim.specs.World.{Half}
use Rattle.frame_sim.specs.Events.{since}
use Rattle.frame_sim.specs.Halves.{Steps, StepsAt, TellsTruly}

pub steps-up : (h : Half) (g new : GatewayState) (trace : List Note) (event : Event) (told : Output) (outcome : Outcome) (told2 : Output) (h2 : Half) (trace2 : List Note) → h.gateway ≡ Some g
    → TellsTruly g told event new told2 → HasBytes event → IsGateway g → IsSetUp g.shown → IsLink new.shown.link → new.shown.link.values ≡ g.shown.link.values → outcome ≡ outcome_of g event
    → h2 ≡ record h { gateway = Some new; sent = h.sent ++ since told.datagrams told2.datagrams } → trace2 ≡ trace ++ since told.notes told2.notes
    → StepsAt h h.gateway trace event told outcome told2 h2 trace2
steps-up h g new trace event told outcome told2 h2 trace2 up steps bytes was set_up link values answer half_is trace_is =
    let all : Steps h g trace event told outcome told2 h2 trace2 = record { new = new; step = steps.step; truly = steps.truly; bytes = bytes; was = was; set_up = set_up; link = link; values = values; answer = answer; half_is = half_is; trace_is = trace_is } in
    subst (λ (o : Option GatewayState). StepsAt h o trace event told outcome told2 h2 trace2) (sym up) all
