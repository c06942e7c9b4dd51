use Rattle.std.proofs.Common.{◌≡◌, ◌+◌, length, get_or, sym, ◌∙◌, arith}
use Rattle.port_range.specs.Words.{has_bit}
use Rattle.port_range.proofs.Summing.{summary-within}
use Rattle.port_range.proofs.Picking.{nothing-drawn, block-drawn, some-drawn, none-absurd, past-all}
use Rattle.port_range.specs.Counts.{count_below}
use Rattle.port_range.proofs.marks.drawn_open.Goals as goal

pub returns-then-count-eq0-clause-chosen : goal.returns-then-count-eq0-clause-chosen
returns-then-count-eq0-clause-chosen c =
    sym (nothing-drawn c.args.parity c.args.free.now c.args.owned.now c.args.summary.now c.args.x c.args.y c.requires.summary
    (sym (c.ends_of-ends.ensures 15 (omega arith)) ∙ c.if-count-eq0.true))

pub drawn_in-requires-clause-block : goal.drawn_in-requires-clause-block
drawn_in-requires-clause-block c =
    let nth = c.in-Some.ensures.nth in
    summary-within c.args.parity c.args.free.now c.args.owned.now c.args.summary.now c.in-Some.block c.requires.summary nth.passes

pub returns-in-Some-clause-chosen : goal.returns-in-Some-clause-chosen
returns-in-Some-clause-chosen c =
    let nth = c.in-Some.ensures.nth in
    c.drawn_in.ensures
    ∙ sym (block-drawn c.args.parity c.args.free.now c.args.owned.now c.args.summary.now c.args.x c.args.y (get_or c.ends_of-ends.result 15 0) c.in-Some.block c.requires.summary
    (c.ends_of-ends.ensures 15 (omega arith)) nth)

pub returns-in-Some-clause-looked_none : goal.returns-in-Some-clause-looked_none
returns-in-Some-clause-looked_none c =
    let nth = c.in-Some.ensures.nth in
    none-absurd (length c.args.summary.now + 3 ≡ 16) c.drawn_in.result
    (λ none. some-drawn c.args.parity c.args.free.now c.args.owned.now c.args.summary.now c.args.y c.in-Some.block c.requires.summary nth.passes (sym c.drawn_in.ensures ∙ none))

pub returns-in-None-clause-chosen : goal.returns-in-None-clause-chosen
returns-in-None-clause-chosen c =
    absurd (past-all c.args.x (get_or c.ends_of-ends.result 15 0) (count_below (has_bit c.args.summary.now) 1024) (c.ends_of-ends.ensures 15 (omega arith))
    (omega (arith, c.if-count-eq0.false)) c.in-None.ensures.none)
