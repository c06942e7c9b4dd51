use Rattle.std.proofs.Common.{sym, ap, subst, ◌∙◌, vec_capacity}
use Rattle.std.specs.Option.{is_some}
use Rattle.slots.specs.Rows.{PortSlots}
use Rattle.bindings.specs.declared.store.Item.{Item}
use Rattle.bindings.specs.Dues.{AreWatched}
use Rattle.bindings.specs.Stores.{entries_of, IsTally}
use Rattle.bindings.proofs.Kept.{entries-without, lives-without, rises-up}
use Rattle.bindings.proofs.Stored.{removed, none-removed, held-by}
use Rattle.bindings.proofs.Counts.{numbered, tally-without}
use Rattle.bindings.proofs.Walks.{rises-distinct}
use Rattle.bindings.proofs.Timed.{without-timed}
use Rattle.bindings.proofs.store.Store.take_out.Goals as goal

pub unlist-requires : goal.unlist-requires
unlist-requires c =
    let i = c.self.inside in
    let item = sym c.in-Some.ensures.item in
    let held = held-by i.slots.rows c.args.key c.in-Some.item c.self.invariant.0.keyed item in
    rw c.entry_of_item-pair.ensures (record { held = λ rank pair. ap is_some (c.self.invariant.0.indexed rank c.in-Some.item.entry.pair.endpoint) ∙ numbered rank i.slots.rows c.args.key c.in-Some.item.entry held pair })

pub invariant_of-self : goal.invariant_of-self
invariant_of-self c =
    let i = c.self.inside in
    let rows = ap (λ (s : PortSlots Item). s.rows) c.remove.ensures.rows in
    let item = sym c.in-Some.ensures.item in
    let held = held-by i.slots.rows c.args.key c.in-Some.item c.self.invariant.0.keyed item in
    let endpoints = rw (← c.self.view_is) at c.requires in
    let listed = rw c.entry_of_item-pair.ensures at c.unlist.ensures.slots in
    let counts = rw c.entry_of_item-pair.ensures at c.unlist.ensures.counts in
    let limit = ap (λ (s : PortSlots Item). s.limit) c.remove.ensures.rows in
    let watched : AreWatched i.watch i.dues.moments c.remove.new.self (vec_capacity i.found) = record { timed = rw rows (without-timed i.watch c.args.key i.dues.moments i.slots.rows c.self.invariant.1.timed); count = c.self.invariant.1.count ∙ sym limit; room = rw limit c.self.invariant.1.room } in
    let keys = rises-distinct 0 (entries_of i.slots.rows) (rises-up 0 i.slots.rows c.self.invariant.0.keyed c.recall.ensures.order) in
    let waiting = rw c.entry_of_item-pair.ensures at c.minus-self-inside.ensures.waiting in
    let alone = rw c.entry_of_item-pair.ensures at c.minus-self-inside.ensures.alone in (
      rw rows (removed i.slots.rows i.index c.unlist.new.index c.args.key c.in-Some.item c.self.invariant.0 c.recall.ensures.order item (endpoints c.in-Some.item.entry held) listed counts),
      watched,
      subst (λ es. IsTally es c.minus-self-inside.result) (sym (ap entries_of rows ∙ entries-without c.args.key i.slots.rows c.self.invariant.0.keyed))
          (tally-without c.args.key (entries_of i.slots.rows) c.in-Some.item.entry i.tally c.minus-self-inside.result keys held c.self.invariant.2 waiting alone),
    )

pub invariant_of-self-in_default : goal.invariant_of-self-in_default
invariant_of-self-in_default c =
    let i = c.self.inside in
    let none = sym c.remove.ensures.item ∙ c.in_default.is in
    let rows = ap (λ (s : PortSlots Item). s.rows) c.remove.ensures.rows ∙ none-removed i.slots.rows c.args.key none in
    let limit = ap (λ (s : PortSlots Item). s.limit) c.remove.ensures.rows in
    (rw rows c.self.invariant.0, record { timed = rw rows c.self.invariant.1.timed; count = c.self.invariant.1.count ∙ sym limit; room = rw limit c.self.invariant.1.room }, rw rows c.self.invariant.2)

pub returns-in-Some-clause-entries : goal.returns-in-Some-clause-entries
returns-in-Some-clause-entries c =
    let rows = ap (λ (s : PortSlots Item). s.rows) c.remove.ensures.rows in
    rw (← c.self.view_is, rows) (entries-without c.args.key c.self.inside.slots.rows c.self.invariant.0.keyed)

pub returns-in-Some-clause-lives : goal.returns-in-Some-clause-lives
returns-in-Some-clause-lives c =
    let rows = ap (λ (s : PortSlots Item). s.rows) c.remove.ensures.rows in
    rw (← c.self.view_is, rows) (lives-without 0 c.args.key c.self.inside.slots.rows c.self.invariant.0.keyed c.recall.ensures.order)

pub returns-in_default-clause-entries : goal.returns-in_default-clause-entries
returns-in_default-clause-entries c =
    let rows = ap (λ (s : PortSlots Item). s.rows) c.remove.ensures.rows in
    rw (← c.self.view_is, rows) (entries-without c.args.key c.self.inside.slots.rows c.self.invariant.0.keyed)

pub returns-in_default-clause-lives : goal.returns-in_default-clause-lives
returns-in_default-clause-lives c =
    let rows = ap (λ (s : PortSlots Item). s.rows) c.remove.ensures.rows in
    rw (← c.self.view_is, rows) (lives-without 0 c.args.key c.self.inside.slots.rows c.self.invariant.0.keyed c.recall.ensures.order)
