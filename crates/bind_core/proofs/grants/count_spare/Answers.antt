use Rattle.std.proofs.Common.{arith}
use Rattle.bind_core.proofs.Granting.{counted-next, counted-all}
use Rattle.bind_core.proofs.grants.count_spare.Goals as goal

pub loop-count-preserved : goal.loop-count-preserved
loop-count-preserved c = record {
  end = omega arith;
  counted = rw c.from-below.ensures (counted-next _ c.loop-count.count c.in-Some.port.0 _ _ c.in-Some.ensures.first c.loop-count.invariant.counted);
}

pub returns-in-None : goal.returns-in-None
returns-in-None c = counted-all _ c.loop-count.count c.args.most _ c.loop-count-test.true c.in-None.ensures.none c.loop-count.invariant.counted

pub returns : goal.returns
returns c =
    let was = c.loop-count.invariant.counted in
    omega (arith, was)
