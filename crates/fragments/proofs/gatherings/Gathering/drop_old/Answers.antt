use Rattle.std.proofs.Common.{sym, subst}
use Rattle.fragments.specs.Gathered.{AreKept}
use Rattle.fragments.proofs.Keeping.{kept-young}
use Rattle.fragments.proofs.gatherings.Gathering.drop_old.Goals as goal

pub invariant_of-self : goal.invariant_of-self
invariant_of-self c = record {
  inside = subst AreKept (sym c.retain_young.ensures) (kept-young c.args.now c.self.inside.inside.items c.self.invariant.inside);
  outside = subst AreKept (sym c.retain_young-2.ensures) (kept-young c.args.now c.self.inside.outside.items c.self.invariant.outside);
  whole = c.self.invariant.whole;
}
