use Rattle.std.proofs.Common.{◌≡◌, drop}
use Rattle.std.specs.List.{list_any}
use Rattle.settings_file.specs.Unknown.{has_text}
use Rattle.settings_file.proofs.unknown.any_has_text.Given as goal

-- what is left gives what all give
abbrev pub invariant-loop-name : goal.invariant-loop-name
invariant-loop-name l = list_any (has_text l.text) (drop l.name-index l.names) ≡ list_any (has_text l.text) l.names
