use Rattle.fragments.proofs.Takings.{kept-either}
use Rattle.fragments.proofs.gatherings.Gathering.join.Goals as goal

pub invariant_of-self : goal.invariant_of-self
invariant_of-self c =
    let kept = kept-either c.take_at.result c.args.now c.args.frame.now c.self.inside.inside.items c.take_at.new.datagrams.items c.self.inside.buffers.whole.items c.take_at.new.buffers.whole.items
    c.requires c.self.invariant.inside c.self.invariant.whole c.take_at.ensures.left c.take_at.ensures.err c.take_at.ensures.whole c.take_at.ensures.err_whole in
    record {
      inside = kept.0;
      outside = c.self.invariant.outside;
      whole = kept.1;
    }

pub invariant_of-self-in-Outside : goal.invariant_of-self-in-Outside
invariant_of-self-in-Outside c =
    let kept = kept-either c.take_at-in-Outside.result c.args.now c.args.frame.now c.self.inside.outside.items c.take_at-in-Outside.new.datagrams.items c.self.inside.buffers.whole.items c.take_at-in-Outside.new.buffers.whole.items
    c.requires c.self.invariant.outside c.self.invariant.whole c.take_at-in-Outside.ensures.left c.take_at-in-Outside.ensures.err c.take_at-in-Outside.ensures.whole c.take_at-in-Outside.ensures.err_whole in
    record {
      inside = c.self.invariant.inside;
      outside = kept.0;
      whole = kept.1;
    }
