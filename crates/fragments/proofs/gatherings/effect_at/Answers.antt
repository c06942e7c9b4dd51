use Rattle.std.proofs.Common.{◌≡◌, ◌≤◌, List, ℕ, length, ap, subst, sym, ◌∙◌}
use Rattle.fragments.specs.Gathered.{Datagram, effect_of}
use Rattle.fragments.specs.Places.{fragments_at}
use Rattle.fragments.proofs.ByPlace.{fragments-there}
use Rattle.fragments.proofs.gatherings.effect_at.Goals as goal

pub effect_of-requires : goal.effect_of-requires
effect_of-requires c =
    let at = c.index-datagrams-at in
    let same : c.fragments.result.now ≡ fragments_at c.args.at c.args.datagrams.now =
    c.fragments.ensures ∙ ap (λ (d : Datagram). d.fragments) at.is ∙ sym (fragments-there c.args.at c.args.datagrams.now at.result c.requires.at) in
    subst (λ (fs : List (List ℕ)). length fs ≤ 64) (sym same) c.requires.few

pub returns : goal.returns
returns c =
    let at = c.index-datagrams-at in
    c.effect_of.ensures
    ∙ ap (λ (fs : List (List ℕ)). effect_of fs c.args.fragment.now.frame.now)
    (c.fragments.ensures ∙ ap (λ (d : Datagram). d.fragments) at.is ∙ sym (fragments-there c.args.at c.args.datagrams.now at.result c.requires.at))
