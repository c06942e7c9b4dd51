use Rattle.std.proofs.Common.{◌+◌, ◌-◌, ◌≤◌, length, take, vec_len, vec_capacity}
use Rattle.frame_sim.specs.Runs.{AreSteps}
use Rattle.frame_sim.proofs.worlds.World.run.Given as goal

abbrev pub invariant-loop-event : goal.invariant-loop-event
invariant-loop-event l = record {
  room : vec_len l.steps + (length l.events - l.event-index) ≤ vec_capacity l.steps;
  so_far : AreSteps l.fn.self (take l.event-index l.events) l.steps.items l.self;
}
