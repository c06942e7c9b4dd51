use Rattle.std.proofs.Common.{take, arith, subst}
use Rattle.std.proofs.lemmas.List.{take_more}
use Rattle.nat_types.specs.declared.events.WorldEvent.{WorldEvent}
use Rattle.frame_sim.specs.Runs.{Gives}
use Rattle.frame_sim.proofs.Runs.{steps-push}
use Rattle.frame_sim.proofs.worlds.World.run.Goals as goal

pub loop-event-preserved : goal.loop-event-preserved
loop-event-preserved c =
    let e = c.event-item.result in
    let i = c.loop-event.event-index in
    let s = c.step-step.result in
    let step = subst (λ (x : WorldEvent). Gives c.loop-event.self x s c.step-step.new.self) c.event-item.is c.step-step.ensures in
    let more = take_more c.args.events.now i e c.loop-event-test.true in
    record {
      room = omega (arith, c.push_reserved.ensures.len, c.push_reserved.ensures.capacity, c.loop-event.invariant.room, c.loop-event-test.true);
      so_far = rw (more, c.push_reserved.ensures.items)
          (steps-push c.args.self.now c.loop-event.self c.step-step.new.self (take i c.args.events.now) c.loop-event.steps.items _ s c.loop-event.invariant.so_far step);
    }
