use Rattle.std.proofs.Common.{◌<◌, List, ℕ, length, ap, sym, ◌∙◌, rules}
use Rattle.fragments.specs.Fragment.{end_of, is_last}
use Rattle.fragments.proofs.Adding.{end-before, end-behind, place-within}
use Rattle.fragments.proofs.datagrams.end_with.Goals as goal

pub bounds-there-at : goal.bounds-there-at
bounds-there-at c = place-within is_last c.args.there.now c.in-Some.at (sym c.place_of_last.ensures ∙ c.in-Some.is)

pub offset_bounds-there-at : goal.offset_bounds-there-at
offset_bounds-there-at c =
    let within : c.in-Some.at < length c.args.there.now = place-within is_last c.args.there.now c.in-Some.at (sym c.place_of_last.ensures ∙ c.in-Some.is) in
    search rules

pub returns-in-Some-clause-value : goal.returns-in-Some-clause-value
returns-in-Some-clause-value c =
    c.end.ensures.value
    ∙ ap (λ (f : List ℕ). end_of f) (c.view.ensures ∙ c.index-there-at.is)
    ∙ sym (end-before c.args.there.now c.args.new.now.frame.now c.in-Some.at c.index-there-at.result (sym c.place_of_last.ensures ∙ c.in-Some.is))

pub returns-in-None-clause-value : goal.returns-in-None-clause-value
returns-in-None-clause-value c =
    c.end_if_last.ensures.value ∙ sym (end-behind c.args.there.now c.args.new.now.frame.now (sym c.place_of_last.ensures ∙ c.in-None.is))
