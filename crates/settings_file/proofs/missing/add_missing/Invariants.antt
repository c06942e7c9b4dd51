use Rattle.std.proofs.Common.{◌≡◌, ◌++◌, drop, filter}
use Rattle.toml.specs.View.{table_view}
use Rattle.settings_file.specs.Missing.{lacks}
use Rattle.settings_file.proofs.missing.add_missing.Given as goal

-- what is found, and what is left, is all
abbrev pub invariant-loop-key : goal.invariant-loop-key
invariant-loop-key l = l.found.items ++ filter (lacks (table_view l.document)) (drop l.key-index l.keys) ≡ l.fn.found.items ++ filter (lacks (table_view l.document)) l.keys
