use Rattle.std.proofs.Common.{List, ◌∙◌, ap, flat_map, refl, subst, sym}
use Rattle.std.specs.Io.KnownBytes.{Appends}
use Rattle.output.specs.Output.{Sent}
use Rattle.simulation.specs.Lines.{frame_line, networks_by, note_line}
use Rattle.simulation.proofs.Splits.{told_split}
use Rattle.simulation.proofs.Parts.{part_more, part_none, part_rest, prints_as}
use Rattle.simulation.proofs.step_output.print_output.Goals as goal

pub returns-clause-printed : goal.returns-clause-printed
returns-clause-printed g c =
    let start = part_none (g.W.Write.contents c.args.output.now) _ in
    let are = c.as_slice.ensures.value ∙ c.in_ok-pieces.ensures in
    let frames = subst (λ (fs : List Sent). Appends (g.W.Write.contents c.args.output.now) (g.W.Write.contents c.print_frames.new.output) (flat_map (frame_line c.args.id) fs)) are c.in_ok-print_frames.ensures in
    let front = part_more _ _ _ _ _ _ _ start (told_split (networks_by c.args.cutter.now c.args.id) c.args.id c.args.sent.now c.args.out.now) frames in
    part_rest c.print_notes.result _ _ _ _ _ (part_more _ _ _ _ _ _ _ front refl c.in_ok-print_datagrams.ensures.printed)
    (prints_as c.print_notes.result _ _ _ _ (ap (λ ns. flat_map note_line ns) (sym c.notes.ensures)) c.print_notes.ensures)
