use Rattle.std.proofs.Common.{◌∙◌, ◌++◌, ap, map, refl}
use Rattle.toml.specs.View.{view}
use Rattle.settings_file.specs.Faults.{all_bad}
use Rattle.settings_file.specs.Neighbours.{all_missing_from}
use Rattle.settings_file.proofs.Loops.{found_all, found_item}
use Rattle.settings_file.proofs.missing.add_missing_from.Goals as goal

pub loop-table-preserved : goal.loop-table-preserved
loop-table-preserved c =
    let l = c.loop-table in
    let added = c.in_ok-add_failing.ensures.items ∙ ap (λ rows. l.found.items ++ all_bad rows) c.present_rows.ensures in
    found_item (λ vs. all_missing_from (map view vs)) _ l.found.items _ _ c.args.tables.now l.table-index c.table-item.result c.table-item.is c.loop-table-test.true added refl l.invariant

pub returns : goal.returns
returns c =
    let l = c.loop-table in
    record { items = found_all (λ vs. all_missing_from (map view vs)) _ _ c.args.tables.now l.table-index refl c.loop-table-test.false l.invariant }
