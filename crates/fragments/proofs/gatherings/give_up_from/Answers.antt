use Rattle.std.proofs.Common.{sym, ◌∙◌}
use Rattle.fragments.specs.Gathered.{is_from}
use Rattle.fragments.proofs.Placing.{first-at, none-removed, removed-at}
use Rattle.fragments.proofs.gatherings.give_up_from.Goals as goal

pub returns-in-Some-clause-items : goal.returns-in-Some-clause-items
returns-in-Some-clause-items c =
    let all = c.args.datagrams.now.items in
    let from = is_from c.args.source.0 in
    c.remove.ensures.items
    ∙ sym (removed-at from all c.in-Some.at c.remove.result (first-at from all c.in-Some.at c.remove.result (rw (← c.deref.ensures.value) (sym c.place_from.ensures ∙ c.in-Some.is))))

pub returns-in-None-clause-items : goal.returns-in-None-clause-items
returns-in-None-clause-items c = sym (none-removed (is_from c.args.source.0) c.args.datagrams.now.items (rw (← c.deref.ensures.value) (sym c.place_from.ensures ∙ c.in-None.is)))
