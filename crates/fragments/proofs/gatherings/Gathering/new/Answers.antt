use Rattle.std.proofs.Common.{length, ap, arith}
use Rattle.fragments.proofs.Keeping.{kept-none}
use Rattle.fragments.proofs.gatherings.Gathering.new.Goals as goal

pub invariant_of-result : goal.invariant_of-result
invariant_of-result c = record {
  inside = rw c.new.ensures.items kept-none;
  outside = rw c.new-2.ensures.items kept-none;
  whole = omega (arith, ap length c.new-3.ensures);
}
