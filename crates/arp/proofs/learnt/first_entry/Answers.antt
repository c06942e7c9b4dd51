use Rattle.std.proofs.Common.{None, get_or, arith}
use Rattle.arp.proofs.Logs.{front-more, nothing-left}
use Rattle.arp.proofs.learnt.first_entry.Goals as goal

pub loop-place-preserved : goal.loop-place-preserved
loop-place-preserved c = record {
  within = omega (arith, c.loop-place-test.true);
  front = front-more c.args.log.now c.loop-place.place c.loop-place-test.true c.loop-place.invariant.front (nothing-left (get_or c.args.log.now c.loop-place.place None) c.in_default.not-Some);
}
