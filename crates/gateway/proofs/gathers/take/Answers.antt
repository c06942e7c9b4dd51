use Rattle.std.proofs.Common.{◌≡◌, ℕ, refl, sym, ap, subst, ◌∙◌}
use Rattle.fragments.specs.Gathered.{Gathered, there_of}
use Rattle.spec_step.specs.declared.events.Event.{Event}
use Rattle.spec_step.specs.Shown.{GatewayAndOutput, Shown}
use Rattle.spec_gateway.specs.State.{GatewayState}
use Rattle.spec_gateway.specs.Steps.{gathered_after, whole_event}
use Rattle.forwarder.specs.Forwarder.{shown_of}
use Rattle.gateway.specs.declared.gathers.Arrival.{Arrival}
use Rattle.gateway.specs.Arrivals.{after_event}
use Rattle.gateway.specs.Gateway.{IsTaken, state_of}
use Rattle.gateway.proofs.Arriving.{Goes, goes, goes-lacks, goes-taken}
use Rattle.gateway.proofs.Lending.{on-err}
use Rattle.gateway.proofs.gathers.take.Goals as goal

pub returns-in_err-outcome-clause-err : goal.returns-in_err-outcome-clause-err
returns-in_err-outcome-clause-err c =
    let s : GatewayState = state_of c.args.forwarder.now c.args.fragments.now in
    let event : Event = c.args.event in
    let g : Gathered = c.arrive.new.fragments.gathering in
    let n : ℕ = c.arrive.new.fragments.numbered in
    let a : Arrival = c.in_ok-arrival.arrival in
    let whole : Event = c.event_taken-whole.result in
    let x : Goes s event g a whole = goes s event g a whole c.in_default.not-Ended c.in_ok-arrival.ensures.arrival c.event_taken-whole.ensures in
    on-err c.from_residual-in_err-outcome.result _
    (ap (λ (y : GatewayAndOutput). let z : GatewayState = record { shown = y.shown; gathered = there_of g; numbered = n } in z) c.in_err-outcome.ensures.err
    ∙ ap (λ (y : Gathered). let z : GatewayState = record { shown = s.shown; gathered = y; numbered = n } in z) x.stays
    ∙ ap (λ (y : ℕ). let z : GatewayState = record { shown = s.shown; gathered = s.gathered; numbered = y } in z) c.in_ok-arrival.ensures.numbered)

pub returns-in_err-outcome-clause-lacks : goal.returns-in_err-outcome-clause-lacks
returns-in_err-outcome-clause-lacks c =
    let s : GatewayState = state_of c.args.forwarder.now c.args.fragments.now in
    let event : Event = c.args.event in
    let g : Gathered = c.arrive.new.fragments.gathering in
    let a : Arrival = c.in_ok-arrival.arrival in
    let whole : Event = c.event_taken-whole.result in
    let x : Goes s event g a whole = goes s event g a whole c.in_default.not-Ended c.in_ok-arrival.ensures.arrival c.event_taken-whole.ensures in
    on-err c.from_residual-in_err-outcome.result _
    (goes-lacks s event g a whole c.args.page.now x c.in_err-outcome.ensures.lacks)

pub returns-in_err-outcome-clause-plugged : goal.returns-in_err-outcome-clause-plugged
returns-in_err-outcome-clause-plugged c is =
    let s : GatewayState = state_of c.args.forwarder.now c.args.fragments.now in
    let event : Event = c.args.event in
    let g : Gathered = c.arrive.new.fragments.gathering in
    let a : Arrival = c.in_ok-arrival.arrival in
    let whole : Event = c.event_taken-whole.result in
    let x : Goes s event g a whole = goes s event g a whole c.in_default.not-Ended c.in_ok-arrival.ensures.arrival c.event_taken-whole.ensures in
    let ok = c.in_err-outcome.ensures.plugged (x.plugged is) in
    absurd (cc)

pub returns-clause-outcome : goal.returns-clause-outcome
returns-clause-outcome c =
    let s : GatewayState = state_of c.args.forwarder.now c.args.fragments.now in
    let event : Event = c.args.event in
    let g : Gathered = c.arrive.new.fragments.gathering in
    let a : Arrival = c.in_ok-arrival.arrival in
    let whole : Event = c.event_taken-whole.result in
    let x : Goes s event g a whole = goes s event g a whole c.in_default.not-Ended c.in_ok-arrival.ensures.arrival c.event_taken-whole.ensures in
    c.in_ok-outcome.ensures.outcome ∙ sym x.outcome_is

pub returns-clause-taken : goal.returns-clause-taken
returns-clause-taken c =
    let s : GatewayState = state_of c.args.forwarder.now c.args.fragments.now in
    let event : Event = c.args.event in
    let g : Gathered = c.arrive.new.fragments.gathering in
    let a : Arrival = c.in_ok-arrival.arrival in
    let whole : Event = c.event_taken-whole.result in
    let shown2 : Shown = shown_of c.step.new.forwarder in
    let told = c.args.page.now.told in
    let told2 = c.step.new.page.told in
    let g2 : Gathered = after_event shown2.moment event a g in
    let x : Goes s event g a whole = goes s event g a whole c.in_default.not-Ended c.in_ok-arrival.ensures.arrival c.event_taken-whole.ensures in
    let same : state_of c.step.new.forwarder c.end_parts.new.fragments ≡ record { shown = shown2; gathered = there_of g2; numbered = s.numbered } =
    ap (state_of c.step.new.forwarder) c.end_parts.ensures
    ∙ ap (λ (y : ℕ). let z : GatewayState = record { shown = shown2; gathered = there_of g2; numbered = y } in z) c.in_ok-arrival.ensures.numbered in
    subst (λ (s2 : GatewayState). IsTaken s told (whole_event s event) (gathered_after s event) s2 told2) (sym same)
    (goes-taken s event g a whole told shown2 g2 told2 x c.in_ok-outcome.ensures.step c.in_ok-outcome.ensures.stays refl)
