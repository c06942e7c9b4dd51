use Rattle.std.proofs.Common.{◌≡◌, ◌++◌, drop, map, string_bytes}
use Rattle.toml.specs.View.{view}
use Rattle.settings_file.specs.Unknown.{unknown_from}
use Rattle.settings_file.proofs.unknown.add_unknown_from.Given as goal

-- what is found, and what is left, is all
abbrev pub invariant-loop-table : goal.invariant-loop-table
invariant-loop-table l = map string_bytes l.found.items ++ unknown_from (map view (drop l.table-index l.tables)) ≡ map string_bytes l.fn.found.items ++ unknown_from (map view l.tables)
