use Rattle.std.proofs.Common.{drop}
use Rattle.simulation.specs.Lines.{no_counts}
use Rattle.simulation.specs.Runs.{steps_lines}
use Rattle.simulation.proofs.Parts.{IsPart}
use Rattle.simulation.proofs.sim.print_steps.Given as goal

abbrev pub invariant-loop-event : goal.invariant-loop-event
invariant-loop-event g l = IsPart (g.W.Write.contents l.fn.output) (g.W.Write.contents l.output)
    (steps_lines l.cutter no_counts l.events l.steps) (steps_lines l.cutter l.counts (drop l.event-index l.events) l.rest)
