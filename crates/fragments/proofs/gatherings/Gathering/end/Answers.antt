use Rattle.std.proofs.Common.{sym, subst}
use Rattle.fragments.specs.Gathered.{AreKept}
use Rattle.fragments.proofs.Making.{kept-ended}
use Rattle.fragments.proofs.gatherings.Gathering.end.Goals as goal

pub invariant_of-self : goal.invariant_of-self
invariant_of-self c = record {
  inside = subst AreKept (sym c.give_up_named.ensures) (kept-ended c.args.frame.now c.self.inside.inside.items c.self.invariant.inside);
  outside = c.self.invariant.outside;
  whole = c.self.invariant.whole;
}

pub invariant_of-self-in-Outside : goal.invariant_of-self-in-Outside
invariant_of-self-in-Outside c = record {
  inside = c.self.invariant.inside;
  outside = subst AreKept (sym c.give_up_named-in-Outside.ensures) (kept-ended c.args.frame.now c.self.inside.outside.items c.self.invariant.outside);
  whole = c.self.invariant.whole;
}
