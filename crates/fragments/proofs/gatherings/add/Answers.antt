use Rattle.std.proofs.Common.{◌<◌, List, [], ◌∷◌, ◌++◌, ℕ, length, set, ap, ap₂, sym, ◌∙◌, arith}
use Rattle.std.proofs.lemmas.List.{set-get_or}
use Rattle.std.proofs.lemmas.Result.{on_ok_weaker, on_err_weaker}
use Rattle.fragments.specs.Gathered.{Datagram}
use Rattle.fragments.proofs.ByPlace.{added-there}
use Rattle.fragments.proofs.gatherings.add.Goals as goal

pub returns-clause-ok : goal.returns-clause-ok
returns-clause-ok c =
    let all = c.args.datagrams.now.items in
    let d = c.index_mut-datagram.result.now in
    let within : c.args.at < length all = omega (arith, c.requires, c.args.datagrams.now.ok) in
    on_ok_weaker c.push.result
    (λ same. ap (λ (x : Datagram). set all c.args.at x)
    (same ∙ ap₂ (λ (x : Datagram) (f : List ℕ). record x { fragments = x.fragments ++ f ∷ [] }) c.index_mut-datagram.ensures.value c.in_ok-copy.ensures.frame)
    ∙ sym (added-there c.args.at c.args.fragment.now.frame.now all d within))
    c.push.ensures.ok

pub returns-clause-err : goal.returns-clause-err
returns-clause-err c =
    let all = c.args.datagrams.now.items in
    let d = c.index_mut-datagram.result.now in
    on_err_weaker c.push.result
    (λ same. ap (λ (x : Datagram). set all c.args.at x) (same ∙ c.index_mut-datagram.ensures.value) ∙ set-get_or all c.args.at d)
    c.push.ensures.err
