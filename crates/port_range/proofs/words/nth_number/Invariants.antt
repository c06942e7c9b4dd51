use Rattle.std.proofs.Common.{◌≡◌, ◌*◌, ◌≤◌}
use Rattle.port_range.specs.Words.{has_bit}
use Rattle.port_range.specs.Counts.{count_below}
use Rattle.port_range.proofs.words.nth_number.Given as goal

-- no more bits are set up to the word than the number
abbrev pub invariant-loop-index : goal.invariant-loop-index
invariant-loop-index l = record {
  begins : l.start ≡ count_below (has_bit l.words) (64 * l.index);
  from : l.start ≤ l.number;
}
