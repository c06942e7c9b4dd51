use Rattle.std.proofs.Common.{◌<◌, get_or, refl, arith, rules}
use Rattle.port_range.proofs.Bits.{lowest-here, none-more, none-all}
use Rattle.port_range.proofs.words.lowest_bit.Goals as goal

pub returns-then-word-ne0-clause-some : goal.returns-then-word-ne0-clause-some
returns-then-word-ne0-clause-some c =
    let index = c.loop-index.index in
    let word = get_or c.args.words.now index 0 in
    let some : 0 < word = omega arith in
    lowest-here c.args.words.now index word refl some (search rules) c.loop-index.invariant

pub loop-index-preserved : goal.loop-index-preserved
loop-index-preserved c =
    none-more c.args.words.now c.loop-index.index c.if-word-ne0.false c.loop-index.invariant

pub returns-clause-none : goal.returns-clause-none
returns-clause-none c =
    none-all c.args.words.now c.loop-index.index (omega arith) c.loop-index.invariant
