use Rattle.std.proofs.Common.{arith}
use Rattle.arp.proofs.Logs.{before-more}
use Rattle.arp.proofs.learnt.first_unsent.Goals as goal

pub loop-place-preserved : goal.loop-place-preserved
loop-place-preserved c = record {
  within = omega (arith, c.loop-place-test.true);
  before = before-more c.args.log.now c.loop-place.place c.loop-place-test.true c.loop-place.invariant.before c.in_default.ensures;
}
