use Rattle.std.proofs.Common.{◌≡◌, ◌+◌, ◌*◌, ◌≤◌, length}
use Rattle.sums.specs.Sum.{word_sum, ones_sum}
use Rattle.sums.proofs.short_total.Given as goal

-- four bytes add at most a number of 32 bits
abbrev pub invariant-loop-rest : goal.invariant-loop-rest
invariant-loop-rest l = record {
  short : length l.rest ≤ 65536;
  small : l.total + 1073741824 * length l.rest ≤ 70368744177664;
  so_far : ones_sum (l.total + word_sum l.rest) ≡ ones_sum (word_sum l.bytes);
}

abbrev pub decreases-loop-rest : goal.decreases-loop-rest
decreases-loop-rest l = length l.rest
