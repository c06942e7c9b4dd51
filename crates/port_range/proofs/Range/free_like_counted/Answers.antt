use Rattle.std.proofs.Common.{Some}
use Rattle.port_range.specs.Marks.{ranged}
use Rattle.port_range.proofs.Choice.{answer-like, answer-none}
use Rattle.port_range.proofs.Listed.{kept-marks, found-like, found-other, looked-like, looked-other}
use Rattle.port_range.proofs.Range.free_like_counted.Goals as goal

pub returns-in-Some-clause-port : goal.returns-in-Some-clause-port
returns-in-Some-clause-port c =
    let i = c.self.inside in
    let is = rw c.in-Some.is at c.lowest-like.ensures.some in
    rw (← c.self.view_is) (found-like i.lowest.0 i.highest.0 i.marks c.args.parity c.in-Some.port c.self.invariant is)

pub returns-in-Some-clause-like : goal.returns-in-Some-clause-like
returns-in-Some-clause-like c =
    let i = c.self.inside in
    let range = ranged i.lowest.0 i.highest.0 i.marks in
    let is = rw c.in-Some.is at c.lowest-like.ensures.some in
    rw (← c.self.view_is) (answer-like range c.args.parity (Some c.in-Some.port) (kept-marks i.lowest.0 i.highest.0 i.marks c.self.invariant)
    (found-like i.lowest.0 i.highest.0 i.marks c.args.parity c.in-Some.port c.self.invariant is))

pub returns-in-None-clause-port : goal.returns-in-None-clause-port
returns-in-None-clause-port c =
    let i = c.self.inside in
    let none = rw c.in-None.is at c.lowest-like.ensures.none in
    let some = rw c.other_parity.ensures at c.lowest-other.ensures.some in
    let others = rw c.other_parity.ensures at c.lowest-other.ensures.none in
    rw (← c.self.view_is) (found-other i.lowest.0 i.highest.0 i.marks c.args.parity c.lowest-other.result.0 c.self.invariant none some others)

pub returns-in-None-clause-like : goal.returns-in-None-clause-like
returns-in-None-clause-like c =
    let i = c.self.inside in
    let range = ranged i.lowest.0 i.highest.0 i.marks in
    let none = rw c.in-None.is at c.lowest-like.ensures.none in
    let some = rw c.other_parity.ensures at c.lowest-other.ensures.some in
    let others = rw c.other_parity.ensures at c.lowest-other.ensures.none in
    rw (← c.self.view_is) (answer-like range c.args.parity c.lowest-other.result.0 (kept-marks i.lowest.0 i.highest.0 i.marks c.self.invariant)
    (found-other i.lowest.0 i.highest.0 i.marks c.args.parity c.lowest-other.result.0 c.self.invariant none some others))

pub returns-in-None-clause-none : goal.returns-in-None-clause-none
returns-in-None-clause-none c =
    let i = c.self.inside in
    let range = ranged i.lowest.0 i.highest.0 i.marks in
    let none = rw c.in-None.is at c.lowest-like.ensures.none in
    let some = rw c.other_parity.ensures at c.lowest-other.ensures.some in
    let others = rw c.other_parity.ensures at c.lowest-other.ensures.none in
    rw (← c.self.view_is) (answer-none range c.args.parity c.lowest-other.result.0 (kept-marks i.lowest.0 i.highest.0 i.marks c.self.invariant)
    (found-other i.lowest.0 i.highest.0 i.marks c.args.parity c.lowest-other.result.0 c.self.invariant none some others))

pub returns-in-Some-clause-looked : goal.returns-in-Some-clause-looked
returns-in-Some-clause-looked c =
    let i = c.self.inside in
    let is = rw c.in-Some.is at c.lowest-like.ensures.some in
    let many = rw c.in-Some.is at c.lowest-like.ensures.looked_some in
    (looked-like i.lowest.0 i.highest.0 i.marks c.args.parity c.in-Some.port _ c.self.invariant is many).0

pub returns-in-Some-clause-few : goal.returns-in-Some-clause-few
returns-in-Some-clause-few c =
    let i = c.self.inside in
    let is = rw c.in-Some.is at c.lowest-like.ensures.some in
    let many = rw c.in-Some.is at c.lowest-like.ensures.looked_some in
    (looked-like i.lowest.0 i.highest.0 i.marks c.args.parity c.in-Some.port _ c.self.invariant is many).1

pub returns-in-None-clause-looked : goal.returns-in-None-clause-looked
returns-in-None-clause-looked c =
    let i = c.self.inside in
    let whole = rw c.in-None.is at c.lowest-like.ensures.looked_none in
    let some = rw c.other_parity.ensures at c.lowest-other.ensures.some in
    (looked-other i.lowest.0 i.highest.0 i.marks c.args.parity c.lowest-other.result.0 _ _ c.self.invariant whole some c.lowest-other.ensures.looked_some c.lowest-other.ensures.looked_none).0

pub returns-in-None-clause-few : goal.returns-in-None-clause-few
returns-in-None-clause-few c =
    let i = c.self.inside in
    let whole = rw c.in-None.is at c.lowest-like.ensures.looked_none in
    let some = rw c.other_parity.ensures at c.lowest-other.ensures.some in
    (looked-other i.lowest.0 i.highest.0 i.marks c.args.parity c.lowest-other.result.0 _ _ c.self.invariant whole some c.lowest-other.ensures.looked_some c.lowest-other.ensures.looked_none).1
