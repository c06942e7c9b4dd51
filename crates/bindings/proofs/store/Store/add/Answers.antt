use Rattle.std.proofs.Common.{refl, sym, ap, subst, ◌∙◌}
use Rattle.slots.specs.Rows.{PortSlots, Row}
use Rattle.bindings.specs.declared.store.Item.{Item}
use Rattle.bindings.specs.Entries.{entry_in}
use Rattle.bindings.specs.Stores.{entries_of, IsTally}
use Rattle.bindings.proofs.Counts.{tally-few, tally-put}
use Rattle.bindings.proofs.Kept.{entries-put, lives-put}
use Rattle.bindings.proofs.Changes.{number-none}
use Rattle.bindings.proofs.Stored.{added, row-absent, put-rows}
use Rattle.bindings.proofs.Timed.{added-timed}
use Rattle.bindings.proofs.store.Store.add.Goals as goal

pub insert-number-requires-clause-vacant : goal.insert-number-requires-clause-vacant
insert-number-requires-clause-vacant c =
    row-absent c.self.inside.slots.rows c.key_of-key.result c.self.invariant.0.keyed (rw (← c.self.view_is, ← c.key_of-key.ensures) at c.requires.vacant)

pub list_pair-requires-clause-free : goal.list_pair-requires-clause-free
list_pair-requires-clause-free c =
    let i = c.self.inside in
    let free = rw (← c.self.view_is) at c.requires.free in
    λ rank pair. c.self.invariant.0.indexed rank c.args.pair.endpoint ∙ number-none rank i.slots.rows c.args.pair.endpoint (free rank pair)

pub invariant_of-self : goal.invariant_of-self
invariant_of-self c =
    let i = c.self.inside in
    let r : Row Item = record { key = c.args.pair.key; number = c.insert-number.result; item = record { entry = entry_in c.args.state c.args.pair; life = c.args.life } } in
    let free = rw (← c.self.view_is) at c.requires.free in
    let rows = put-rows i.slots c.insert-number.new.self c.key_of-key.result c.args.pair.key c.insert-number.result c.item_with.result r.item c.insert-number.ensures.rows c.key_of-key.ensures c.item_with.ensures in
    let limit = ap (λ (s : PortSlots Item). s.limit) c.insert-number.ensures.rows in
    let keeps = rw (rows, c.key_of-key.ensures) at c.set_in_time.ensures.others in
    let set = rw (rows, c.key_of-key.ensures) at c.set_in_time.ensures.timed in (
      rw rows (added i.slots i.index c.list_pair.new.index r c.self.invariant.0 refl free c.list_pair.ensures.slots c.list_pair.ensures.counts),
      record {
        timed = rw rows (added-timed i.watch i.dues.moments c.set_in_time.new.dues.moments r i.slots.rows keeps set c.self.invariant.1.timed);
        count = c.set_in_time.ensures.count ∙ c.self.invariant.1.count ∙ sym limit;
        room = rw limit c.self.invariant.1.room;
      },
      subst (λ es. IsTally es c.plus-self-inside.result) (sym (ap entries_of rows ∙ entries-put r i.slots.rows c.self.invariant.0.keyed refl)) (tally-put r.item.entry (entries_of i.slots.rows) i.tally c.plus-self-inside.result c.self.invariant.2 c.plus-self-inside.ensures.waiting c.plus-self-inside.ensures.alone),
    )

pub plus-self-inside-requires : goal.plus-self-inside-requires
plus-self-inside-requires c = (let few = tally-few c.self.inside.slots.rows c.self.inside.tally c.self.invariant.2 c.recall_few.ensures in record { waiting = few.waiting; alone = few.alone })

pub set_in_time-requires : goal.set_in_time-requires
set_in_time-requires c = record { count = c.self.invariant.1.count ∙ sym (ap (λ (s : PortSlots Item). s.limit) c.insert-number.ensures.rows) }

pub returns-clause-entries : goal.returns-clause-entries
returns-clause-entries c =
    let i = c.self.inside in
    let r : Row Item = record { key = c.args.pair.key; number = c.insert-number.result; item = record { entry = entry_in c.args.state c.args.pair; life = c.args.life } } in
    rw (← c.self.view_is, put-rows i.slots c.insert-number.new.self c.key_of-key.result c.args.pair.key c.insert-number.result c.item_with.result r.item c.insert-number.ensures.rows c.key_of-key.ensures c.item_with.ensures)
    (entries-put r i.slots.rows c.self.invariant.0.keyed refl)

pub returns-clause-lives : goal.returns-clause-lives
returns-clause-lives c =
    let i = c.self.inside in
    let r : Row Item = record { key = c.args.pair.key; number = c.insert-number.result; item = record { entry = entry_in c.args.state c.args.pair; life = c.args.life } } in
    rw (← c.self.view_is, put-rows i.slots c.insert-number.new.self c.key_of-key.result c.args.pair.key c.insert-number.result c.item_with.result r.item c.insert-number.ensures.rows c.key_of-key.ensures c.item_with.ensures)
    (lives-put r i.slots.rows c.self.invariant.0.keyed refl)
