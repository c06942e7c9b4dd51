use Rattle.std.proofs.Common.{arith}
use Rattle.port_range.proofs.Picking.{if-none, nth-past, nth-none, nth-all, nth-nothing}
use Rattle.port_range.proofs.words.nth_bit.Goals as goal

pub loop-passed-preserved : goal.loop-passed-preserved
loop-passed-preserved c =
    let first = c.in_ok-start.ensures.some in
    let within = c.in_ok-start.ensures.within in
    record {
      low = omega (arith, within);
      so_far = nth-past c.args.word c.loop-passed.start c.loop-passed.passed c.in_ok-start.field-0 c.loop-passed.invariant.so_far first;
    }

pub returns-in_err-start-clause-none : goal.returns-in_err-start-clause-none
returns-in_err-start-clause-none c =
    let none = rw c.in_err-start.was at c.lowest_from.ensures.none in
    if-none c.from_residual.result
    (nth-none c.args.word c.loop-passed.start c.loop-passed.passed c.args.number c.loop-passed.invariant.low c.loop-passed.invariant.so_far (omega arith) none)

pub returns-clause-nth : goal.returns-clause-nth
returns-clause-nth c =
    nth-all c.args.word c.loop-passed.start c.loop-passed.passed c.args.number c.lowest_from-2.result (omega arith) c.loop-passed.invariant.so_far c.lowest_from-2.ensures.some

pub returns-clause-none : goal.returns-clause-none
returns-clause-none c =
    nth-nothing c.args.word c.loop-passed.start c.loop-passed.passed c.args.number c.lowest_from-2.result c.loop-passed.invariant.low (omega arith) c.loop-passed.invariant.so_far
    c.lowest_from-2.ensures.none
