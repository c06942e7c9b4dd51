use Rattle.std.proofs.Common.{refl, ◌∙◌, arith}
use Rattle.bindings.specs.declared.watches.Watch.TheVariants.{Own}
use Rattle.bindings.proofs.Stored.{none-indexed}
use Rattle.bindings.proofs.Timed.{none-timed}
use Rattle.bindings.proofs.store.Store.new.Goals as goal

pub invariant_of-result : goal.invariant_of-result
invariant_of-result c = (
  rw c.in_ok-slots.ensures.rows (none-indexed c.new-index.result c.new-index.ensures.slots c.new-index.ensures.counts),
  record {
    timed = rw c.in_ok-slots.ensures.rows (none-timed Own c.in-Ok.dues.moments);
    count = c.in-Ok.ensures.count ∙ c.limit.ensures;
    room = (let a = c.in-Ok-with_room.ensures.capacity in let b = c.limit-2.ensures in omega (arith, a, b));
  },
  rw (c.in_ok-slots.ensures.rows, c.none.ensures) (record { waiting = refl; alone = refl }),
)
