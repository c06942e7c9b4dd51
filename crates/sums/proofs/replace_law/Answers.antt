use Rattle.std.proofs.Common.{◌≡◌, ◌+◌, ◌*◌, ◌/◌, ◌%◌, arith, append_assoc}
use Rattle.sums.proofs.Words.{word_sum-replace}
use Rattle.sums.proofs.replace_law.Goals as goal

pub returns : goal.returns
returns c = λ bytes half value fits small.
    let same : 256 * (value / 256 % 256) + value % 256 ≡ value = omega arith in
    rw append_assoc (omega (arith, word_sum-replace half bytes (value / 256 % 256) (value % 256) fits, same))
