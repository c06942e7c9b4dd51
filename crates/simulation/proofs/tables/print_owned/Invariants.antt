use Rattle.std.proofs.Common.{drop}
use Rattle.simulation.specs.Lines.{owned_from, owned_lines}
use Rattle.simulation.proofs.Parts.{IsPart}
use Rattle.simulation.proofs.tables.print_owned.Given as goal

abbrev pub invariant-loop-port : goal.invariant-loop-port
invariant-loop-port g l = IsPart (g.W.Write.contents l.fn.output) (g.W.Write.contents l.output)
    (owned_lines l.id l.ports) (owned_from l.id l.first l.last (drop l.port-index l.others))
