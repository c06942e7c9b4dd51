use Rattle.std.proofs.Common.{◌<◌, ◌-◌, ◌&&◌, bit_and, not, ap, ◌∙◌, arith, rules}
use Rattle.port_range.specs.Words.{is_set}
use Rattle.port_range.proofs.Bits.{is_set-without}
use Rattle.port_range.proofs.Searching.{IsFrom, first-bit, no-bit-from}
use Rattle.port_range.proofs.words.lowest_from.Goals as goal

pub returns-then-rest-eq0-clause-none : goal.returns-then-rest-eq0-clause-none
returns-then-rest-eq0-clause-none c =
    let ones = c.low_ones.result in
    let rest = bit_and c.args.word (18446744073709551615 - ones) in
    let kept : IsFrom c.args.word rest c.args.start = λ i low. is_set-without c.args.word ones i (search rules) low ∙ ap (λ b. is_set c.args.word i && not b) (c.low_ones.ensures i low) in
    no-bit-from c.args.word rest c.args.start c.if-rest-eq0.true kept

pub returns-else-rest-eq0-clause-some : goal.returns-else-rest-eq0-clause-some
returns-else-rest-eq0-clause-some c =
    let ones = c.low_ones.result in
    let rest = bit_and c.args.word (18446744073709551615 - ones) in
    let kept : IsFrom c.args.word rest c.args.start = λ i low. is_set-without c.args.word ones i (search rules) low ∙ ap (λ b. is_set c.args.word i && not b) (c.low_ones.ensures i low) in
    let some : 0 < rest = omega (arith, c.if-rest-eq0.false) in
    (first-bit c.args.word rest c.args.start some (search rules) kept).1

pub returns-else-rest-eq0-clause-within : goal.returns-else-rest-eq0-clause-within
returns-else-rest-eq0-clause-within c =
    let ones = c.low_ones.result in
    let rest = bit_and c.args.word (18446744073709551615 - ones) in
    let kept : IsFrom c.args.word rest c.args.start = λ i low. is_set-without c.args.word ones i (search rules) low ∙ ap (λ b. is_set c.args.word i && not b) (c.low_ones.ensures i low) in
    let some : 0 < rest = omega (arith, c.if-rest-eq0.false) in
    (first-bit c.args.word rest c.args.start some (search rules) kept).0
