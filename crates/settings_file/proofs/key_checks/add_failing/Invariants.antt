use Rattle.std.proofs.Common.{◌≡◌, ◌++◌, drop}
use Rattle.settings_file.specs.Faults.{all_bad}
use Rattle.settings_file.proofs.key_checks.add_failing.Given as goal

-- what is found, and what is left, is all
abbrev pub invariant-loop-key : goal.invariant-loop-key
invariant-loop-key l = l.found.items ++ all_bad (drop l.key-index l.rows) ≡ l.fn.found.items ++ all_bad l.fn.rows
