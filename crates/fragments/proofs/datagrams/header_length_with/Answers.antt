use Rattle.std.proofs.Common.{◌<◌, List, ℕ, length, ap, sym, ◌∙◌, rules}
use Rattle.ipv4.specs.Header.{header_of}
use Rattle.fragments.specs.Fragment.{ipv4_in, starts}
use Rattle.fragments.proofs.Adding.{header-before, header-behind, place-within}
use Rattle.fragments.proofs.datagrams.header_length_with.Goals as goal

pub bounds-there-at : goal.bounds-there-at
bounds-there-at c = place-within starts c.args.there.now c.in-Some.at (sym c.place_of_first.ensures ∙ c.in-Some.is)

pub offset_bounds-there-at : goal.offset_bounds-there-at
offset_bounds-there-at c =
    let within : c.in-Some.at < length c.args.there.now = place-within starts c.args.there.now c.in-Some.at (sym c.place_of_first.ensures ∙ c.in-Some.is) in
    search rules

pub returns-in-Some-clause-value : goal.returns-in-Some-clause-value
returns-in-Some-clause-value c =
    c.header_length.ensures.value
    ∙ ap (λ (f : List ℕ). (header_of (ipv4_in f)).header_length) (c.view.ensures ∙ c.index-there-at.is)
    ∙ sym (header-before c.args.there.now c.args.new.now.frame.now c.in-Some.at c.index-there-at.result (sym c.place_of_first.ensures ∙ c.in-Some.is))

pub returns-in-None-clause-value : goal.returns-in-None-clause-value
returns-in-None-clause-value c =
    c.header_length_if_first.ensures.value ∙ sym (header-behind c.args.there.now c.args.new.now.frame.now (sym c.place_of_first.ensures ∙ c.in-None.is))
