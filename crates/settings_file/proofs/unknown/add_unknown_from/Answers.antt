use Rattle.std.proofs.Common.{map, refl, string_bytes}
use Rattle.toml.specs.View.{view}
use Rattle.settings_file.specs.Unknown.{unknown_from}
use Rattle.settings_file.proofs.Loops.{found_all, found_item}
use Rattle.settings_file.proofs.unknown.add_unknown_from.Goals as goal

pub loop-table-preserved : goal.loop-table-preserved
loop-table-preserved c =
    let l = c.loop-table in
    found_item (λ vs. unknown_from (map view vs)) _ (map string_bytes l.found.items) _ _ c.args.tables.now l.table-index c.table-item.result c.table-item.is c.loop-table-test.true c.in_ok-add_unknown_at.ensures.items refl l.invariant

pub returns : goal.returns
returns c =
    let l = c.loop-table in
    record { items = found_all (λ vs. unknown_from (map view vs)) _ _ c.args.tables.now l.table-index refl c.loop-table-test.false l.invariant }
