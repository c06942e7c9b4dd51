use Rattle.std.proofs.Common.{◌≡◌, ◌++◌, map, string_bytes}
use Rattle.toml.specs.View.{table_view, members_view}
use Rattle.settings_file.specs.Unknown.{unknown_of}
use Rattle.settings_file.proofs.unknown.unknown_keys.Given as goal

-- what is found, and what is left, is all
abbrev pub invariant-loop-text : goal.invariant-loop-text
invariant-loop-text l = map string_bytes l.found.items ++ unknown_of (members_view l.text-iterator) ≡ unknown_of (table_view l.document)
