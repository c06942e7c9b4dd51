use Rattle.std.proofs.Common.{◌+◌, ◌-◌, true}
use Rattle.port_range.specs.Words.{has_bit}
use Rattle.port_range.proofs.Listed.{listed-filled, where-none}
use Rattle.port_range.proofs.Range.reset.Goals as goal

pub returns-clause-free : goal.returns-clause-free
returns-clause-free c =
    let i = c.self.inside in
    rw (← c.self.view_is) (listed-filled i.lowest.0 i.highest.0 true c.fill.new.self.free c.self.invariant.order c.fill.ensures.free)

pub returns-clause-owned : goal.returns-clause-owned
returns-clause-owned c =
    let i = c.self.inside in
    where-none (has_bit c.fill.new.self.owned) i.lowest.0 (i.highest.0 + 1 - i.lowest.0) c.fill.ensures.owned
