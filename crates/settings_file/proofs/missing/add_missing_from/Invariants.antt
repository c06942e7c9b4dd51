use Rattle.std.proofs.Common.{◌≡◌, ◌++◌, drop, map}
use Rattle.toml.specs.View.{view}
use Rattle.settings_file.specs.Neighbours.{all_missing_from}
use Rattle.settings_file.proofs.missing.add_missing_from.Given as goal

-- what is found, and what is left, is all
abbrev pub invariant-loop-table : goal.invariant-loop-table
invariant-loop-table l = l.found.items ++ all_missing_from (map view (drop l.table-index l.tables)) ≡ l.fn.found.items ++ all_missing_from (map view l.tables)
