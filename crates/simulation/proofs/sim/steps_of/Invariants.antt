use Rattle.std.proofs.Common.{length}
use Rattle.simulation.proofs.Steps.{IsUnderWay}
use Rattle.simulation.proofs.sim.steps_of.Given as goal

abbrev pub invariant-loop-rest : goal.invariant-loop-rest
invariant-loop-rest g l = IsUnderWay l.fn.world l.fn.events l.rest l.steps.items l.world

abbrev pub decreases-loop-rest : goal.decreases-loop-rest
decreases-loop-rest g l = length l.rest
