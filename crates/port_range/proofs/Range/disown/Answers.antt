use Rattle.std.proofs.Common.{false}
use Rattle.port_range.proofs.Listed.{listed-put}
use Rattle.port_range.proofs.Range.disown.Goals as goal

pub returns-clause-owned : goal.returns-clause-owned
returns-clause-owned c =
    let i = c.self.inside in
    rw (← c.self.view_is)
    (listed-put i.lowest.0 i.highest.0 c.args.port.0 false i.marks.owned c.put_owned.new.self.owned c.self.invariant.order c.self.invariant.owned (λ e. cc) c.put_owned.ensures.owned)
