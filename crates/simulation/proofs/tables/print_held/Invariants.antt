use Rattle.std.proofs.Common.{drop, flat_map}
use Rattle.simulation.specs.Lines.{held_line}
use Rattle.simulation.proofs.Parts.{IsPart}
use Rattle.simulation.proofs.tables.print_held.Given as goal

abbrev pub invariant-loop-pair : goal.invariant-loop-pair
invariant-loop-pair g l = IsPart (g.W.Write.contents l.fn.output) (g.W.Write.contents l.output)
    (flat_map (held_line l.id) l.pairs) (flat_map (held_line l.id) (drop l.pair-index l.pairs))
