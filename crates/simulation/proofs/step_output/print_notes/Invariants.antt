use Rattle.std.proofs.Common.{drop, flat_map}
use Rattle.simulation.specs.Lines.{note_line}
use Rattle.simulation.proofs.Parts.{IsPart}
use Rattle.simulation.proofs.step_output.print_notes.Given as goal

abbrev pub invariant-loop-note : goal.invariant-loop-note
invariant-loop-note g l = IsPart (g.W.Write.contents l.fn.output) (g.W.Write.contents l.output)
    (flat_map note_line l.notes) (flat_map note_line (drop l.note-index l.notes))
