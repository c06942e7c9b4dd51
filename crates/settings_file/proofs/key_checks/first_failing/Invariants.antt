use Rattle.std.proofs.Common.{◌≡◌, drop}
use Rattle.settings_file.specs.Faults.{first_bad}
use Rattle.settings_file.proofs.key_checks.first_failing.Given as goal

-- what is left gives what all give
abbrev pub invariant-loop-key : goal.invariant-loop-key
invariant-loop-key l = first_bad (drop l.key-index l.rows) ≡ first_bad l.fn.rows
