use Rattle.std.proofs.Common.{count_ones, inl, refl, arith, rules}
use Rattle.port_range.specs.Words.{is_set}
use Rattle.port_range.proofs.Picking.{if-none, nth-ones, nth-there, no-ones, drawn-later, drawn-nothing}
use Rattle.port_range.proofs.words.drawn_bit.Goals as goal

pub returns-then-count-eq0-clause-none : goal.returns-then-count-eq0-clause-none
returns-then-count-eq0-clause-none c =
    no-ones c.args.owned c.args.free (count_ones c.args.owned) refl c.if-count-eq0.true

pub returns-in_err-place-clause-none : goal.returns-in_err-place-clause-none
returns-in_err-place-clause-none c =
    let none = rw c.in_err-place.was at c.nth_bit.ensures.none in
    if-none c.from_residual.result (absurd (nth-there c.args.owned c.args.y (count_ones c.args.owned) (search rules) refl (omega (arith, c.if-count-eq0.false)) none))

pub returns-in-Some-clause-some : goal.returns-in-Some-clause-some
returns-in-Some-clause-some c = record {
  place = c.in_ok-place.place;
  nth = nth-ones c.args.owned c.args.y (count_ones c.args.owned) c.in_ok-place.place (search rules) refl c.in_ok-place.ensures.nth;
  low = c.in_ok-place.ensures.within;
  within = c.in-Some.ensures.within;
  first = inl c.in-Some.ensures.some;
}

pub returns-in-None-clause-some : goal.returns-in-None-clause-some
returns-in-None-clause-some c =
    let none = rw c.in-None.is at c.lowest_from.ensures.none in
    drawn-later (is_set c.args.owned) (is_set c.args.free) c.args.y c.in_ok-place.place c.lowest_from-in-None.result
    (nth-ones c.args.owned c.args.y (count_ones c.args.owned) c.in_ok-place.place (search rules) refl c.in_ok-place.ensures.nth)
    c.in_ok-place.ensures.within none c.lowest_from-in-None.ensures.some c.lowest_from-in-None.ensures.within

pub returns-in-None-clause-none : goal.returns-in-None-clause-none
returns-in-None-clause-none c =
    drawn-nothing (is_set c.args.owned) (is_set c.args.free) c.lowest_from-in-None.result c.lowest_from-in-None.ensures.none
