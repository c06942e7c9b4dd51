use Rattle.std.proofs.Common.{◌≡◌, ◌+◌, length}
use Rattle.sums.specs.Sum.{word_sum, ones_sum}
use Rattle.sums.proofs.long_total.Given as goal

abbrev pub invariant-loop-rest : goal.invariant-loop-rest
invariant-loop-rest l = record { so_far : ones_sum (l.total + word_sum l.rest) ≡ ones_sum (word_sum l.bytes) }

abbrev pub decreases-loop-rest : goal.decreases-loop-rest
decreases-loop-rest l = length l.rest
