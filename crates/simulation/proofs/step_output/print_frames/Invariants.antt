use Rattle.std.proofs.Common.{drop, flat_map}
use Rattle.simulation.specs.Lines.{frame_line}
use Rattle.simulation.proofs.Parts.{IsPart}
use Rattle.simulation.proofs.step_output.print_frames.Given as goal

abbrev pub invariant-loop-piece : goal.invariant-loop-piece
invariant-loop-piece g l = IsPart (g.W.Write.contents l.fn.output) (g.W.Write.contents l.output)
    (flat_map (frame_line l.id) l.pieces) (flat_map (frame_line l.id) (drop l.piece-index l.pieces))
