use Rattle.std.proofs.Common.{◌&&◌, arith}
use Rattle.port_range.specs.Ports.{is_within}
use Rattle.port_range.proofs.Bits.{has_bit-more, has_bit-all, filled-past}
use Rattle.port_range.proofs.words.fill_between.Goals as goal

pub loop-index-preserved : goal.loop-index-preserved
loop-index-preserved c =
    has_bit-more c.loop-index.words c.loop-index.index c.filled_word.result (λ n. c.args.flag && is_within c.args.lowest c.args.highest n)
    (omega arith) c.filled_word.ensures c.loop-index.invariant

pub returns-clause-bits : goal.returns-clause-bits
returns-clause-bits c =
    has_bit-all c.loop-index.words c.loop-index.index (λ n. c.args.flag && is_within c.args.lowest c.args.highest n)
    (omega arith) c.loop-index.invariant (λ n past. filled-past c.args.flag c.args.lowest c.args.highest n (omega arith))
