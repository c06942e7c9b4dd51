use Rattle.std.proofs.Common.{refl}
use Rattle.simulation.proofs.Parts.{part_more, part_none, part_rest}
use Rattle.simulation.proofs.step_output.print_frame.Goals as goal

pub returns : goal.returns
returns g c =
    let front = part_more _ _ _ _ _ _ _ (part_none (g.W.Write.contents c.args.output.now) _) refl c.in_ok-write_frame_words.ensures in
    part_rest c.write_all.result _ _ _ _ _ (part_more _ _ _ _ _ _ _ front refl c.in_ok-write_hex.ensures) c.write_all.ensures.bytes
