use Rattle.std.proofs.Common.{Some, sym, ap, ◌∙◌, arith}
use Rattle.addresses.specs.declared.transport.Parity.{Parity}
use Rattle.port_range.specs.Words.{has_bit}
use Rattle.port_range.specs.Marks.{ranged, has_both}
use Rattle.port_range.specs.Drawn.{drawn_like}
use Rattle.port_range.proofs.Drawing.{answer-alike, answer-nothing}
use Rattle.port_range.proofs.Listed.{kept-marks}
use Rattle.port_range.proofs.Ranging.{drawn-first, drawn-second, looked-first, looked-second, some-holds, none-holds}
use Rattle.port_range.proofs.Range.drawn_counted.Goals as goal

pub overflow_add-result : goal.overflow_add-result
overflow_add-result c =
    let i = c.self.inside in
    let whole = none-holds c.drawn-like.result.0 c.in-None.is c.drawn-like.ensures.looked_none in
    let is = c.drawn-other.ensures.chosen ∙ ap (λ (p : Parity). drawn_like (has_both i.marks.free i.marks.owned) (has_bit i.marks.owned) p c.args.x c.args.y) c.other_parity.ensures in
    let few = (looked-second (has_both i.marks.free i.marks.owned) (has_bit i.marks.owned) c.args.parity c.args.x c.args.y c.drawn-other.result.0 c.drawn-like.result.1 c.drawn-other.result.1 is whole c.drawn-other.ensures.looked_some c.drawn-other.ensures.looked_none).1 in
    omega (arith, few)

pub returns-in-Some-clause-port : goal.returns-in-Some-clause-port
returns-in-Some-clause-port c =
    let i = c.self.inside in
    let is = sym c.in-Some.is ∙ c.drawn-like.ensures.chosen in
    rw (← c.self.view_is) (drawn-first i.lowest.0 i.highest.0 i.marks c.args.parity c.args.x c.args.y c.in-Some.port c.self.invariant is)

pub returns-in-Some-clause-like : goal.returns-in-Some-clause-like
returns-in-Some-clause-like c =
    let i = c.self.inside in
    let is = sym c.in-Some.is ∙ c.drawn-like.ensures.chosen in
    rw (← c.self.view_is) (answer-alike (ranged i.lowest.0 i.highest.0 i.marks) c.args.parity c.args.x c.args.y (Some c.in-Some.port) (kept-marks i.lowest.0 i.highest.0 i.marks c.self.invariant)
    (drawn-first i.lowest.0 i.highest.0 i.marks c.args.parity c.args.x c.args.y c.in-Some.port c.self.invariant is))

pub returns-in-None-clause-port : goal.returns-in-None-clause-port
returns-in-None-clause-port c =
    let i = c.self.inside in
    let none = sym c.in-None.is ∙ c.drawn-like.ensures.chosen in
    let is = c.drawn-other.ensures.chosen ∙ ap (λ (p : Parity). drawn_like (has_both i.marks.free i.marks.owned) (has_bit i.marks.owned) p c.args.x c.args.y) c.other_parity.ensures in
    rw (← c.self.view_is) (drawn-second i.lowest.0 i.highest.0 i.marks c.args.parity c.args.x c.args.y c.drawn-other.result.0 c.self.invariant none is)

pub returns-in-None-clause-like : goal.returns-in-None-clause-like
returns-in-None-clause-like c =
    let i = c.self.inside in
    let none = sym c.in-None.is ∙ c.drawn-like.ensures.chosen in
    let is = c.drawn-other.ensures.chosen ∙ ap (λ (p : Parity). drawn_like (has_both i.marks.free i.marks.owned) (has_bit i.marks.owned) p c.args.x c.args.y) c.other_parity.ensures in
    rw (← c.self.view_is) (answer-alike (ranged i.lowest.0 i.highest.0 i.marks) c.args.parity c.args.x c.args.y c.drawn-other.result.0 (kept-marks i.lowest.0 i.highest.0 i.marks c.self.invariant)
    (drawn-second i.lowest.0 i.highest.0 i.marks c.args.parity c.args.x c.args.y c.drawn-other.result.0 c.self.invariant none is))

pub returns-in-None-clause-none : goal.returns-in-None-clause-none
returns-in-None-clause-none c =
    let i = c.self.inside in
    let none = sym c.in-None.is ∙ c.drawn-like.ensures.chosen in
    let is = c.drawn-other.ensures.chosen ∙ ap (λ (p : Parity). drawn_like (has_both i.marks.free i.marks.owned) (has_bit i.marks.owned) p c.args.x c.args.y) c.other_parity.ensures in
    rw (← c.self.view_is) (answer-nothing (ranged i.lowest.0 i.highest.0 i.marks) c.args.parity c.args.x c.args.y c.drawn-other.result.0 (kept-marks i.lowest.0 i.highest.0 i.marks c.self.invariant)
    (drawn-second i.lowest.0 i.highest.0 i.marks c.args.parity c.args.x c.args.y c.drawn-other.result.0 c.self.invariant none is))

pub returns-in-Some-clause-looked : goal.returns-in-Some-clause-looked
returns-in-Some-clause-looked c =
    let i = c.self.inside in
    let is = sym c.in-Some.is ∙ c.drawn-like.ensures.chosen in
    let many = some-holds c.drawn-like.result.0 c.in-Some.port c.in-Some.is c.drawn-like.ensures.looked_some in
    (looked-first (has_both i.marks.free i.marks.owned) (has_bit i.marks.owned) c.args.parity c.args.x c.args.y c.in-Some.port c.drawn-like.result.1 is many).0

pub returns-in-Some-clause-few : goal.returns-in-Some-clause-few
returns-in-Some-clause-few c =
    let i = c.self.inside in
    let is = sym c.in-Some.is ∙ c.drawn-like.ensures.chosen in
    let many = some-holds c.drawn-like.result.0 c.in-Some.port c.in-Some.is c.drawn-like.ensures.looked_some in
    (looked-first (has_both i.marks.free i.marks.owned) (has_bit i.marks.owned) c.args.parity c.args.x c.args.y c.in-Some.port c.drawn-like.result.1 is many).1

pub returns-in-None-clause-looked : goal.returns-in-None-clause-looked
returns-in-None-clause-looked c =
    let i = c.self.inside in
    let whole = none-holds c.drawn-like.result.0 c.in-None.is c.drawn-like.ensures.looked_none in
    let is = c.drawn-other.ensures.chosen ∙ ap (λ (p : Parity). drawn_like (has_both i.marks.free i.marks.owned) (has_bit i.marks.owned) p c.args.x c.args.y) c.other_parity.ensures in
    (looked-second (has_both i.marks.free i.marks.owned) (has_bit i.marks.owned) c.args.parity c.args.x c.args.y c.drawn-other.result.0 c.drawn-like.result.1 c.drawn-other.result.1 is whole c.drawn-other.ensures.looked_some c.drawn-other.ensures.looked_none).0

pub returns-in-None-clause-few : goal.returns-in-None-clause-few
returns-in-None-clause-few c =
    let i = c.self.inside in
    let whole = none-holds c.drawn-like.result.0 c.in-None.is c.drawn-like.ensures.looked_none in
    let is = c.drawn-other.ensures.chosen ∙ ap (λ (p : Parity). drawn_like (has_both i.marks.free i.marks.owned) (has_bit i.marks.owned) p c.args.x c.args.y) c.other_parity.ensures in
    (looked-second (has_both i.marks.free i.marks.owned) (has_bit i.marks.owned) c.args.parity c.args.x c.args.y c.drawn-other.result.0 c.drawn-like.result.1 c.drawn-other.result.1 is whole c.drawn-other.ensures.looked_some c.drawn-other.ensures.looked_none).1
