use Rattle.std.proofs.Common.{◌≡◌, ◌++◌, map, string_bytes}
use Rattle.toml.specs.View.{table_view, members_view}
use Rattle.settings_file.specs.Unknown.{unknown_in}
use Rattle.settings_file.proofs.unknown.add_unknown_in.Given as goal

-- what is found, and what is left, is all
abbrev pub invariant-loop-text : goal.invariant-loop-text
invariant-loop-text l = map string_bytes l.found.items ++ unknown_in l.section (members_view l.text-iterator) ≡ map string_bytes l.fn.found.items ++ unknown_in l.section (table_view l.table)
