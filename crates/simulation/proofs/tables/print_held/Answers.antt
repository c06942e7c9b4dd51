use Rattle.std.proofs.Common.{◌∙◌, ◌∷◌, ◌+◌, ap, refl, sym, drop, flat_map}
use Rattle.std.proofs.lemmas.List.{drop_all, drop_more}
use Rattle.simulation.specs.Lines.{held_line}
use Rattle.simulation.proofs.Parts.{part_more, part_none, part_whole}
use Rattle.simulation.proofs.tables.print_held.Goals as goal

pub loop-pair-init : goal.loop-pair-init
loop-pair-init g c = part_none (g.W.Write.contents c.args.output.now) _

pub loop-pair-preserved : goal.loop-pair-preserved
loop-pair-preserved g c =
    let l = c.loop-pair in
    let next = ap (flat_map (held_line c.args.id)) (drop_more c.args.pairs.now l.pair-index c.pair-item.result c.loop-pair-test.true ∙ ap (λ x. x ∷ drop (l.pair-index + 1) c.args.pairs.now) (sym c.pair-item.is)) in
    part_more _ _ _ _ _ _ _ l.invariant next c.in_ok-print_held_pair.ensures

pub returns : goal.returns
returns g c = part_whole _ _ _ _ c.loop-pair.invariant (rw (drop_all c.loop-pair.pair-index c.args.pairs.now c.loop-pair-test.false) refl)
