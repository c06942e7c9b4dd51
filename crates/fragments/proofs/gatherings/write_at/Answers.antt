use Rattle.std.proofs.Common.{◌≡◌, ◌+◌, List, [], ◌∷◌, ◌++◌, ℕ, ap, subst, sym, ◌∙◌}
use Rattle.fragments.specs.Gathered.{Datagram}
use Rattle.fragments.specs.Places.{with_at}
use Rattle.fragments.specs.Whole.{IsReady, reassembled, whole_length}
use Rattle.fragments.proofs.ByPlace.{fragments-there}
use Rattle.fragments.proofs.gatherings.write_at.Goals as goal

pub write_whole-requires-clause-ready : goal.write_whole-requires-clause-ready
write_whole-requires-clause-ready c =
    let at = c.index-datagrams-at in
    let f = c.args.fragment.now.frame.now in
    let same : c.fragments.result.now ++ f ∷ [] ≡ with_at c.args.at f c.args.datagrams.now =
    ap (λ (fs : List (List ℕ)). fs ++ f ∷ []) (c.fragments.ensures ∙ ap (λ (d : Datagram). d.fragments) at.is ∙ sym (fragments-there c.args.at c.args.datagrams.now at.result c.requires.at)) in
    subst IsReady (sym same) c.requires.ready

pub write_whole-requires-clause-long : goal.write_whole-requires-clause-long
write_whole-requires-clause-long c =
    let at = c.index-datagrams-at in
    let f = c.args.fragment.now.frame.now in
    let same : c.fragments.result.now ++ f ∷ [] ≡ with_at c.args.at f c.args.datagrams.now =
    ap (λ (fs : List (List ℕ)). fs ++ f ∷ []) (c.fragments.ensures ∙ ap (λ (d : Datagram). d.fragments) at.is ∙ sym (fragments-there c.args.at c.args.datagrams.now at.result c.requires.at)) in
    c.requires.long ∙ ap (λ (fs : List (List ℕ)). 14 + whole_length fs) (sym same)

pub returns : goal.returns
returns c =
    let at = c.index-datagrams-at in
    let f = c.args.fragment.now.frame.now in
    c.write_whole.ensures
    ∙ ap (λ (fs : List (List ℕ)). reassembled (fs ++ f ∷ []))
    (c.fragments.ensures ∙ ap (λ (d : Datagram). d.fragments) at.is ∙ sym (fragments-there c.args.at c.args.datagrams.now at.result c.requires.at))
