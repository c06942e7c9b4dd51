use Rattle.std.proofs.Common.{◌≡◌, None, Some, ap, subst, sym, ◌∙◌}
use Rattle.std.specs.List.{position}
use Rattle.fragments.specs.Fragment.{trimmed}
use Rattle.fragments.specs.Gathered.{ended, is_named}
use Rattle.fragments.specs.Name.{name_of}
use Rattle.fragments.specs.declared.names.Name.{Name}
use Rattle.fragments.proofs.ByPlace.{named-removed}
use Rattle.fragments.proofs.Placing.{none-removed}
use Rattle.fragments.proofs.gatherings.give_up_named.Goals as goal

pub returns-in-Some : goal.returns-in-Some
unfolding ended
returns-in-Some c =
    let all = c.args.datagrams.now.items in
    let named : c.name-name.result ≡ name_of (trimmed c.args.frame.now) = c.name-name.ensures ∙ ap name_of (c.trimmed.ensures ∙ ap trimmed c.new.ensures) in
    c.remove-ended.ensures.items
    ∙ sym (named-removed (name_of (trimmed c.args.frame.now)) c.in-Some.at all c.remove-ended.result
    (subst (λ (n : Name). position (is_named n) all ≡ Some c.in-Some.at) named (rw (← c.deref.ensures.value) (sym c.place_of.ensures ∙ c.in-Some.is))))

pub returns-in-None : goal.returns-in-None
unfolding ended
returns-in-None c =
    let all = c.args.datagrams.now.items in
    let named : c.name-name.result ≡ name_of (trimmed c.args.frame.now) = c.name-name.ensures ∙ ap name_of (c.trimmed.ensures ∙ ap trimmed c.new.ensures) in
    sym (none-removed (is_named (name_of (trimmed c.args.frame.now))) all
    (subst (λ (n : Name). position (is_named n) all ≡ None) named (rw (← c.deref.ensures.value) (sym c.place_of.ensures ∙ c.in-None.is))))
