use Rattle.std.proofs.Common.{List, [], ◌∷◌, ◌++◌, ℕ, ap, sym, ◌∙◌}
use Rattle.fragments.specs.Gathered.{Datagram}
use Rattle.fragments.specs.Whole.{whole_length}
use Rattle.fragments.proofs.ByPlace.{fragments-there}
use Rattle.fragments.proofs.gatherings.length_at.Goals as goal

pub returns-clause-value : goal.returns-clause-value
returns-clause-value c =
    let at = c.index-datagrams-at in
    c.length_with.ensures.value
    ∙ ap (λ (fs : List (List ℕ)). whole_length (fs ++ c.args.fragment.now.frame.now ∷ []))
    (c.fragments.ensures ∙ ap (λ (d : Datagram). d.fragments) at.is ∙ sym (fragments-there c.args.at c.args.datagrams.now at.result c.requires))
