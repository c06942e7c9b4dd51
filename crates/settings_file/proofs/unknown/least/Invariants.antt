use Rattle.std.proofs.Common.{◌≡◌, None, map, option_map, string_bytes}
use Rattle.std.specs.Vec.Iter.{into_iter_items}
use Rattle.settings_file.specs.Unknown.{least_from}
use Rattle.settings_file.proofs.unknown.least.Given as goal

-- what is left gives what all give
abbrev pub invariant-loop-path : goal.invariant-loop-path
invariant-loop-path l = least_from (option_map string_bytes l.found) (map string_bytes (into_iter_items l.path-iterator)) ≡ least_from None (map string_bytes l.fn.paths.items)
