use Rattle.std.proofs.Common.{nat_lt, sym, ap, ◌∙◌, arith}
use Rattle.port_range.proofs.Bits.{is_set-ones, is_set-shifted}
use Rattle.port_range.proofs.words.low_ones.Goals as goal

pub returns-then-count-eq64 : goal.returns-then-count-eq64
returns-then-count-eq64 c = λ i low. is_set-ones 64 i ∙ ap (nat_lt i) (sym c.if-count-eq64.true)

pub returns-else-count-eq64 : goal.returns-else-count-eq64
returns-else-count-eq64 c = λ i low. is_set-shifted c.args.count i (omega arith)
