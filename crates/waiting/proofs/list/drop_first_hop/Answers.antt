use Rattle.std.proofs.Common.{sym, ◌∙◌}
use Rattle.waiting.proofs.Places.{dropped-at, dropped-none}
use Rattle.waiting.proofs.list.drop_first_hop.Goals as goal

pub returns-in-Some-clause-items : goal.returns-in-Some-clause-items
returns-in-Some-clause-items c =
    c.remove.ensures.items ∙ sym (dropped-at c.args.packets.now.items c.in-Some.place c.remove.result (rw (← c.deref.ensures.value) (sym c.first_hop.ensures ∙ c.in-Some.is)))

pub returns-in-None-clause-items : goal.returns-in-None-clause-items
returns-in-None-clause-items c = sym (dropped-none c.args.packets.now.items (rw (← c.deref.ensures.value) (sym c.first_hop.ensures ∙ c.in-None.is)))
