use Rattle.std.proofs.Common.{◌∙◌, ◌∷◌, ◌+◌, ap, refl, sym, drop, flat_map}
use Rattle.std.proofs.lemmas.List.{drop_all, drop_more}
use Rattle.simulation.specs.Lines.{frame_line}
use Rattle.simulation.proofs.Parts.{part_more, part_none, part_whole}
use Rattle.simulation.proofs.step_output.print_frames.Goals as goal

pub loop-piece-init : goal.loop-piece-init
loop-piece-init g c = part_none (g.W.Write.contents c.args.output.now) _

pub loop-piece-preserved : goal.loop-piece-preserved
loop-piece-preserved g c =
    let l = c.loop-piece in
    let next = ap (flat_map (frame_line c.args.id)) (drop_more c.args.pieces.now l.piece-index c.piece-item.result c.loop-piece-test.true ∙ ap (λ x. x ∷ drop (l.piece-index + 1) c.args.pieces.now) (sym c.piece-item.is)) in
    part_more _ _ _ _ _ _ _ l.invariant next (rw (c.side.ensures, c.bytes.ensures) at c.in_ok-print_frame.ensures)

pub returns : goal.returns
returns g c = part_whole _ _ _ _ c.loop-piece.invariant (rw (drop_all c.loop-piece.piece-index c.args.pieces.now c.loop-piece-test.false) refl)
