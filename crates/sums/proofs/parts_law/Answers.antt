use Rattle.sums.proofs.Words.{word_sum-append}
use Rattle.sums.proofs.parts_law.Goals as goal

pub returns : goal.returns
returns c = word_sum-append
