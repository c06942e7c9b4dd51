use Rattle.std.proofs.Common.{set, ap, sym, ◌∙◌}
use Rattle.waiting.specs.Packets.{HeldPacket}
use Rattle.waiting.proofs.Singles.{nobody, only}
use Rattle.waiting.proofs.list.note_asked.Goals as goal

pub returns-in-None-clause-items : goal.returns-in-None-clause-items
returns-in-None-clause-items c =
    let none = nobody c.args.wait c.args.packets.now.items (rw (← c.deref.ensures.value) (sym c.place_for.ensures ∙ c.in-None.is)) in
    sym (none.mapped (λ (w : HeldPacket). record w { asked = c.args.now }))

pub returns-in-Some-clause-items : goal.returns-in-Some-clause-items
returns-in-Some-clause-items c =
    let asked : HeldPacket → HeldPacket = λ w. record w { asked = c.args.now } in
    let one = only c.args.wait c.args.packets.now.items c.in-Some.place c.index_mut.result.now c.requires.once (rw (← c.deref.ensures.value) (sym c.place_for.ensures ∙ c.in-Some.is)) in
    sym (one.mapped asked ∙ ap (λ (w : HeldPacket). set c.args.packets.now.items c.in-Some.place (asked w)) (sym c.index_mut.ensures.value ∙ sym c.behind-packets.view_is))
