use Rattle.std.proofs.Common.{ap, refl, sym, ◌∙◌}
use Rattle.slots.specs.Rows.{PortSlots}
use Rattle.bindings.specs.declared.store.Item.{Item}
use Rattle.bindings.proofs.Stored.{none-indexed}
use Rattle.bindings.proofs.Timed.{none-timed}
use Rattle.bindings.proofs.store.Store.clear.Goals as goal

pub invariant_of-self : goal.invariant_of-self
invariant_of-self c =
    let i = c.self.inside in
    let rows = ap (λ (s : PortSlots Item). s.rows) c.clear.ensures in
    let limit = ap (λ (s : PortSlots Item). s.limit) c.clear.ensures in (
      rw rows (none-indexed c.clear-2.new.self c.clear-2.ensures.slots c.clear-2.ensures.counts),
      record {
        timed = rw rows (none-timed i.watch i.dues.moments);
        count = c.self.invariant.1.count ∙ sym limit;
        room = rw limit c.self.invariant.1.room;
      },
      rw (rows, c.none-self-inside.ensures) (record { waiting = refl; alone = refl }),
    )
