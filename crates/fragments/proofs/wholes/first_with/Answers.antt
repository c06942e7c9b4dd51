use Rattle.std.proofs.Common.{◌<◌, length, sym, ◌∙◌, rules}
use Rattle.fragments.specs.Fragment.{starts}
use Rattle.fragments.proofs.Adding.{first-before, first-behind, place-within}
use Rattle.fragments.proofs.wholes.first_with.Goals as goal

pub bounds-there-at : goal.bounds-there-at
bounds-there-at c = place-within starts c.args.there.now c.in-Some.at (sym c.place_of_first.ensures ∙ c.in-Some.is)

pub offset_bounds-there-at : goal.offset_bounds-there-at
offset_bounds-there-at c =
    let within : c.in-Some.at < length c.args.there.now = place-within starts c.args.there.now c.in-Some.at (sym c.place_of_first.ensures ∙ c.in-Some.is) in
    search rules

pub returns-in-Some : goal.returns-in-Some
returns-in-Some c =
    c.view.ensures ∙ c.index-there-at.is
    ∙ sym (first-before c.args.there.now c.args.new.now.frame.now c.in-Some.at c.index-there-at.result (sym c.place_of_first.ensures ∙ c.in-Some.is))

pub returns-in-None : goal.returns-in-None
returns-in-None c = sym (first-behind c.args.there.now c.args.new.now.frame.now (sym c.place_of_first.ensures ∙ c.in-None.is) c.requires.first)
