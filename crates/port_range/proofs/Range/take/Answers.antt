use Rattle.std.proofs.Common.{false}
use Rattle.port_range.proofs.Listed.{listed-put}
use Rattle.port_range.proofs.Range.take.Goals as goal

pub returns-clause-free : goal.returns-clause-free
returns-clause-free c =
    let i = c.self.inside in
    rw (← c.self.view_is)
    (listed-put i.lowest.0 i.highest.0 c.args.port.0 false i.marks.free c.put_free.new.self.free c.self.invariant.order c.self.invariant.free (λ e. cc) c.put_free.ensures.free)
