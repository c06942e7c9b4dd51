use Rattle.std.proofs.Common.{List, ℕ, ap, subst, Some}
use Rattle.frame_sim.specs.World.{Half}
use Rattle.frame_sim.specs.Halves.{StepsAt, items_of}
use Rattle.frame_sim.proofs.Handed.{steps-up}
use Rattle.frame_sim.proofs.halves.Half.hand.Goals as goal

pub returns-in_ok-outcome-in-Some-clause-steps : goal.returns-in_ok-outcome-in-Some-clause-steps
returns-in_ok-outcome-in-Some-clause-steps c =
    let e = c.in_ok-outcome-in-Some.ensures in
    let h2 : Half = record { gateway = Some c.step_up.new.gateway; boot = c.self.inside.boot; sent = items_of c.step_up.new.sent.items } in
    subst (λ (h : Half). StepsAt h h.gateway c.args.trace.now.items c.args.event c.args.out.now c.in_ok-outcome-in-Some.outcome c.step_up.new.out h2 c.step_up.new.trace.items) c.self.view_is
    (steps-up _ c.in-Some.gateway c.step_up.new.gateway c.args.trace.now.items c.args.event c.args.out.now c.in_ok-outcome-in-Some.outcome c.step_up.new.out h2 c.step_up.new.trace.items c.in-Some.is
    e.steps e.bytes e.was e.set_up e.link e.values e.outcome
    (ap (λ (sent : List (List ℕ)). let h : Half = record { gateway = Some c.step_up.new.gateway; boot = c.self.inside.boot; sent = sent } in h) e.sent) e.trace)
