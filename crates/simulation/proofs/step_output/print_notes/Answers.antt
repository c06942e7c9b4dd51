use Rattle.std.proofs.Common.{◌∙◌, ◌∷◌, ◌+◌, ap, refl, sym, drop, flat_map}
use Rattle.std.proofs.lemmas.List.{drop_all, drop_more}
use Rattle.simulation.specs.Lines.{note_line}
use Rattle.simulation.proofs.Parts.{part_more, part_none, part_whole}
use Rattle.simulation.proofs.step_output.print_notes.Goals as goal

pub loop-note-init : goal.loop-note-init
loop-note-init g c = part_none (g.W.Write.contents c.args.output.now) _

pub loop-note-preserved : goal.loop-note-preserved
loop-note-preserved g c =
    let l = c.loop-note in
    let next = ap (flat_map note_line) (drop_more c.args.notes.now l.note-index c.note-item.result c.loop-note-test.true ∙ ap (λ x. x ∷ drop (l.note-index + 1) c.args.notes.now) (sym c.note-item.is)) in
    part_more _ _ _ _ _ _ _ l.invariant next c.in_ok-print_note.ensures

pub returns : goal.returns
returns g c = part_whole _ _ _ _ c.loop-note.invariant (rw (drop_all c.loop-note.note-index c.args.notes.now c.loop-note-test.false) refl)
