use Rattle.std.proofs.Common.{not, ap}
use Rattle.port_range.specs.Ports.{is_owned}
use Rattle.port_range.specs.Marks.{ranged}
use Rattle.port_range.specs.Words.{has_bit}
use Rattle.port_range.proofs.Listed.{where-is, some-first, all-first}
use Rattle.port_range.proofs.Range.next_unowned.Goals as goal

pub returns-clause-some : goal.returns-clause-some
returns-clause-some c =
    let i = c.self.inside in
    rw (← c.self.view_is)
    (some-first c.next_owned.result (λ q. not (has_bit i.marks.owned q)) (λ q. not (is_owned (ranged i.lowest.0 i.highest.0 i.marks) q)) c.args.from.0
    (λ q. ap not (where-is i.lowest.0 i.highest.0 (has_bit i.marks.owned) c.self.invariant.order c.self.invariant.owned q)) c.next_owned.ensures.some)

pub returns-clause-none : goal.returns-clause-none
returns-clause-none c =
    let i = c.self.inside in
    rw (← c.self.view_is)
    (all-first c.next_owned.result (has_bit i.marks.owned) (is_owned (ranged i.lowest.0 i.highest.0 i.marks)) c.args.from.0
    (where-is i.lowest.0 i.highest.0 (has_bit i.marks.owned) c.self.invariant.order c.self.invariant.owned) c.next_owned.ensures.none)
