use Rattle.std.proofs.Common.{◌≡◌, drop}
use Rattle.std.specs.List.{list_all}
use Rattle.toml.specs.View.{view}
use Rattle.settings_file.specs.Document.{is_table}
use Rattle.settings_file.proofs.neighbours.are_tables.Given as goal

-- what is left gives what all give
abbrev pub invariant-loop-value : goal.invariant-loop-value
invariant-loop-value l = list_all (λ v. is_table (view v)) (drop l.value-index l.list) ≡ list_all (λ v. is_table (view v)) l.list
