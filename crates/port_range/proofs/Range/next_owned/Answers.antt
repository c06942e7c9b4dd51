use Rattle.port_range.specs.Ports.{is_owned}
use Rattle.port_range.specs.Marks.{ranged}
use Rattle.port_range.specs.Words.{has_bit}
use Rattle.port_range.proofs.Listed.{where-is, some-first, none-first, past-owned}
use Rattle.port_range.proofs.Range.next_owned.Goals as goal

pub returns-clause-some : goal.returns-clause-some
returns-clause-some c =
    let i = c.self.inside in
    rw (← c.self.view_is)
    (some-first c.next_owned.result (has_bit i.marks.owned) (is_owned (ranged i.lowest.0 i.highest.0 i.marks)) c.args.from.0
    (where-is i.lowest.0 i.highest.0 (has_bit i.marks.owned) c.self.invariant.order c.self.invariant.owned) c.next_owned.ensures.some)

pub returns-clause-none : goal.returns-clause-none
returns-clause-none c =
    let i = c.self.inside in
    rw (← c.self.view_is)
    (none-first c.next_owned.result (has_bit i.marks.owned) (is_owned (ranged i.lowest.0 i.highest.0 i.marks)) c.args.from.0
    (where-is i.lowest.0 i.highest.0 (has_bit i.marks.owned) c.self.invariant.order c.self.invariant.owned)
    (past-owned i.lowest.0 i.highest.0 i.marks c.self.invariant) c.next_owned.ensures.none)
