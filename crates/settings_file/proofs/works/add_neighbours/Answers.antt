use Rattle.std.proofs.Common.{◌∙◌, ◌++◌, ap, refl}
use Rattle.std.specs.List.{flat_map}
use Rattle.settings_file.specs.Faults.{all_bad}
use Rattle.settings_file.specs.Works.{all_of_neighbour}
use Rattle.settings_file.proofs.Loops.{found_all, found_more}
use Rattle.settings_file.proofs.works.add_neighbours.Goals as goal

pub loop-neighbour-preserved : goal.loop-neighbour-preserved
loop-neighbour-preserved c =
    let l = c.loop-neighbour in
    let added = c.in_ok-add_failing.ensures.items ∙ ap (λ rows. l.found.items ++ all_bad rows) c.neighbour_rows.ensures in
    found_more (λ ns. flat_map (all_of_neighbour c.args.settings.now) ns) _ l.found.items _ _ c.args.neighbours.now l.neighbour-index _ c.loop-neighbour-test.true added refl l.invariant

pub returns : goal.returns
returns c =
    let l = c.loop-neighbour in
    record { items = found_all (λ ns. flat_map (all_of_neighbour c.args.settings.now) ns) _ _ c.args.neighbours.now l.neighbour-index refl c.loop-neighbour-test.false l.invariant }
