use Rattle.std.proofs.Common.{take}
use Rattle.simulation.proofs.Turning.{Turned}
use Rattle.simulation.proofs.looped.take_turns.Given as goal

abbrev pub invariant-loop-event : goal.invariant-loop-event
invariant-loop-event g l =
    Turned g.W.Write.contents l.fn.world (take l.event-index l.events) l.world l.fn.output l.output l.refused l.counts
