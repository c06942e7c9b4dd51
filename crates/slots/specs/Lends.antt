-- What slots end as, where a `&mut` to one of their items is returned.
use Rattle.std.specs.Prelude.{Option}
use Rattle.std.specs.Borrow.{LendsIf, Fml, RattleType, MutBor}
use Rattle.nat_types.specs.declared.pairs.Key.{Key}
use Rattle.slots.specs.Rows.{PortSlots, with_item}
use Rattle.slots.specs.contracts.port_slots.PortSlots.{the_row}

module _ (T : RattleType) (s : MutBor (PortSlots T.Denot)) (key : Key) where
  -- once the borrow r ends, the key has the last item written through r, and at `None` nothing changes
  abbrev pub lends_item : Option (MutBor T.Denot) → Fml
  lends_item r = LendsIf (the_row T) T s r (λ item. record s.now { rows = with_item key item s.now.rows }) s.now
