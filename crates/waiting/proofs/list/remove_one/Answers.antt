use Rattle.std.proofs.Common.{[], ◌∷◌, ap, sym, ◌∙◌}
use Rattle.waiting.specs.Packets.{HeldPacket}
use Rattle.waiting.proofs.Singles.{nobody, only}
use Rattle.waiting.proofs.list.remove_one.Goals as goal

pub returns-in-None-clause-left : goal.returns-in-None-clause-left
returns-in-None-clause-left c = sym (nobody c.args.wait c.args.packets.now.items (rw (← c.deref.ensures.value) (sym c.place_for.ensures ∙ c.in-None.is))).left

pub returns-in-None-clause-taken : goal.returns-in-None-clause-taken
returns-in-None-clause-taken c = sym (nobody c.args.wait c.args.packets.now.items (rw (← c.deref.ensures.value) (sym c.place_for.ensures ∙ c.in-None.is))).off

pub returns-in-Some-clause-left : goal.returns-in-Some-clause-left
returns-in-Some-clause-left c =
    let one = only c.args.wait c.args.packets.now.items c.in-Some.place c.remove.result c.requires.once (rw (← c.deref.ensures.value) (sym c.place_for.ensures ∙ c.in-Some.is)) in
    c.remove.ensures.items ∙ sym one.left

pub returns-in-Some-clause-taken : goal.returns-in-Some-clause-taken
returns-in-Some-clause-taken c =
    let one = only c.args.wait c.args.packets.now.items c.in-Some.place c.remove.result c.requires.once (rw (← c.deref.ensures.value) (sym c.place_for.ensures ∙ c.in-Some.is)) in
    ap (λ (w : HeldPacket). w ∷ []) c.remove.ensures.value ∙ sym one.off
