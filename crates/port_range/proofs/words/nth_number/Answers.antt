use Rattle.std.proofs.Common.{◌≡◌, ◌*◌, ◌≤◌, get_or, refl, ap, arith}
use Rattle.port_range.specs.Words.{has_bit}
use Rattle.port_range.specs.Counts.{count_below}
use Rattle.port_range.proofs.Picking.{if-none, nth-in, word-short}
use Rattle.port_range.proofs.words.nth_number.Goals as goal

pub returns-in_err-bit-clause-none : goal.returns-in_err-bit-clause-none
returns-in_err-bit-clause-none c =
    let index = c.loop-index.index in
    let end = get_or c.args.ends.now index 0 in
    let none : count_below (has_bit c.args.words.now) 1024 ≤ c.args.number =
    absurd (word-short c.args.words.now index c.loop-index.start c.args.number end (c.requires.ends index (omega arith)) c.loop-index.invariant.begins c.loop-index.invariant.from
    c.if-number-end.true c.in_err-bit.ensures.none) in
    if-none c.from_residual.result none

pub returns-then-number-end-clause-nth : goal.returns-then-number-end-clause-nth
returns-then-number-end-clause-nth c =
    let index = c.loop-index.index in
    nth-in c.args.words.now index (get_or c.args.words.now index 0) c.loop-index.start c.args.number c.in_ok-bit.bit refl c.in_ok-bit.ensures.within c.loop-index.invariant.from
    c.loop-index.invariant.begins c.in_ok-bit.ensures.nth

pub returns-clause-none : goal.returns-clause-none
returns-clause-none c =
    let all : 64 * c.loop-index.index ≡ 1024 = omega arith in
    omega (arith, ap (count_below (has_bit c.args.words.now)) all, c.loop-index.invariant.begins, c.loop-index.invariant.from)
