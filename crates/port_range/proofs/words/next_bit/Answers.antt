use Rattle.std.proofs.Common.{arith}
use Rattle.port_range.proofs.Searching.{next-here, next-later}
use Rattle.port_range.proofs.words.next_bit.Goals as goal

pub loop-index-init : goal.loop-index-init
loop-index-init c = λ n from below. absurd (omega arith)

pub returns-in-Some-clause-some : goal.returns-in-Some-clause-some
returns-in-Some-clause-some c =
    let is = c.in-Some.ensures.some in
    let low = c.in-Some.ensures.within in
    next-here c.args.words.now c.args.flag c.args.from c.loop-index.index c.matching.result c.saturating_sub-start.result c.in-Some.bit (omega arith) c.matching.ensures low is c.loop-index.invariant

pub loop-index-preserved : goal.loop-index-preserved
loop-index-preserved c =
    let none = rw c.in_default.is at c.lowest_from.ensures.none in
    next-later c.args.words.now c.args.flag c.args.from c.loop-index.index c.matching.result c.saturating_sub-start.result (omega arith) c.matching.ensures none c.loop-index.invariant

pub returns-clause-none : goal.returns-clause-none
returns-clause-none c = λ n from below. c.loop-index.invariant n from (omega arith)
