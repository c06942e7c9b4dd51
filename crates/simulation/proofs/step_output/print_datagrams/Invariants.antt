use Rattle.std.proofs.Common.{◌≡◌}
use Rattle.simulation.specs.Lines.{link_lines, more}
use Rattle.simulation.proofs.Parts.{IsPart}
use Rattle.simulation.proofs.step_output.print_datagrams.Given as goal

abbrev pub invariant-loop-bytes : goal.invariant-loop-bytes
invariant-loop-bytes g l = IsPart (g.W.Write.contents l.fn.output) (g.W.Write.contents l.output)
    (link_lines l.id l.fn.sent l.out.datagrams) (link_lines l.id l.sent l.bytes-iterator)
    × (more l.fn.sent l.out.datagrams ≡ more l.sent l.bytes-iterator)
