use Rattle.std.proofs.Common.{◌<◌, ◌&&◌, bit_and, ap, ◌∙◌, arith, rules}
use Rattle.port_range.specs.Words.{is_set}
use Rattle.port_range.proofs.Bits.{is_set-and}
use Rattle.port_range.proofs.Searching.{IsBelow, last-bit, no-bit-below}
use Rattle.port_range.proofs.words.highest_below.Goals as goal

pub returns-then-rest-eq0-clause-none : goal.returns-then-rest-eq0-clause-none
returns-then-rest-eq0-clause-none c =
    let ones = c.low_ones.result in
    let kept : IsBelow c.args.word (bit_and c.args.word ones) c.args.end = λ i low. is_set-and c.args.word ones i ∙ ap (λ b. is_set c.args.word i && b) (c.low_ones.ensures i low) in
    no-bit-below c.args.word (bit_and c.args.word ones) c.args.end c.if-rest-eq0.true c.requires kept

pub returns-else-rest-eq0-clause-some : goal.returns-else-rest-eq0-clause-some
returns-else-rest-eq0-clause-some c =
    let ones = c.low_ones.result in
    let rest = bit_and c.args.word ones in
    let kept : IsBelow c.args.word rest c.args.end = λ i low. is_set-and c.args.word ones i ∙ ap (λ b. is_set c.args.word i && b) (c.low_ones.ensures i low) in
    let some : 0 < rest = omega (arith, c.if-rest-eq0.false) in
    last-bit c.args.word rest c.args.end some (search rules) c.requires kept
