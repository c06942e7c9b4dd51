use Rattle.std.proofs.Common.{◌≡◌, ◌≤◌}
use Rattle.port_range.specs.Words.{is_set}
use Rattle.port_range.specs.Counts.{count_below}
use Rattle.port_range.proofs.words.nth_bit.Given as goal

-- so many set bits stand below the place where the search goes on
abbrev pub invariant-loop-passed : goal.invariant-loop-passed
invariant-loop-passed l = record {
  low : l.start ≤ 64;
  so_far : count_below (is_set l.word) l.start ≡ l.passed;
}
