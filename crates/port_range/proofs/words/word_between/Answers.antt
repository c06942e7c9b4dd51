use Rattle.std.proofs.Common.{nat_lt, ◌&&◌, not, ap, ◌∙◌, rules, arith}
use Rattle.port_range.specs.Words.{is_set}
use Rattle.port_range.proofs.Bits.{is_set-without, between-test}
use Rattle.port_range.proofs.words.word_between.Goals as goal

pub returns : goal.returns
returns c = λ i low.
    is_set-without c.low_ones.result c.low_ones-2.result i (search rules) low
    ∙ ap (λ b. b && not (is_set c.low_ones-2.result i)) (c.low_ones.ensures i low)
    ∙ ap (λ b. nat_lt i c.min-end.result && not b) (c.low_ones-2.ensures i low)
    ∙ between-test c.args.start c.args.lowest c.args.highest c.min-below.result c.min-end.result i low (omega arith) (omega arith)
