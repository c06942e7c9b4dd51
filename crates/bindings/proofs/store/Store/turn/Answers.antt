use Rattle.std.proofs.Common.{◌≡◌, None, ap, subst, sym, ◌∙◌, arith}
use Rattle.std.specs.Option.{is_some}
use Rattle.slots.specs.Rows.{PortSlots}
use Rattle.bindings.specs.declared.store.Item.{Item}
use Rattle.bindings.specs.Entries.{slot_of, entry_in}
use Rattle.bindings.specs.Stores.{entries_of, IsTally}
use Rattle.bindings.proofs.Counts.{numbered, tally-few, tally-turned}
use Rattle.bindings.proofs.Kept.{rises-up}
use Rattle.bindings.proofs.Walks.{rises-distinct}
use Rattle.bindings.proofs.Timed.{changed-timed}
use Rattle.bindings.proofs.Places.{turn-none}
use Rattle.bindings.proofs.Stored.{turned}
use Rattle.bindings.proofs.store.Store.turn.Goals as goal

pub unlist_turned-requires : goal.unlist_turned-requires
unlist_turned-requires c =
    let i = c.self.inside in
    let held = rw (← c.self.view_is) at (sym c.in-Some.ensures) in
    record { held = λ rank pair. ap is_some (c.self.invariant.0.indexed rank c.in-Some.entry.pair.endpoint) ∙ numbered rank i.slots.rows c.args.key c.in-Some.entry held pair }

pub invariant_of-self : goal.invariant_of-self
invariant_of-self c =
    let i = c.self.inside in
    let held = rw (← c.self.view_is) at (sym c.in-Some.ensures) in
    let pair = rw (← c.self.view_is) at c.requires.pair in
    let endpoints = rw (← c.self.view_is) at c.requires.endpoints in
    let rows = λ (s : PortSlots Item). s.rows in (
      (turned i.slots c.put_state.new.slots i.index c.unlist_turned.new.index c.args.key c.args.state c.in-Some.entry c.self.invariant.0 c.recall.ensures.order held (pair c.in-Some.entry held) (endpoints c.in-Some.entry held) c.put_state.ensures.some c.unlist_turned.ensures.slots c.unlist_turned.ensures.counts).0,
      record {
        timed = changed-timed i.watch c.args.key (λ i. record i { entry = entry_in c.args.state c.in-Some.entry.pair }) i.dues.moments c.set_in_time.new.dues.moments i.slots.rows c.put_state.new.slots.rows
            (λ i h. ap rows (c.put_state.ensures.some i h)) (λ h. ap rows (c.put_state.ensures.none h)) c.set_in_time.ensures.others c.set_in_time.ensures.timed c.self.invariant.1.timed;
        count = c.set_in_time.ensures.count ∙ c.self.invariant.1.count ∙ sym c.put_state.ensures.limit;
        room = rw c.put_state.ensures.limit c.self.invariant.1.room;
      },
      (let keys = rises-distinct 0 (entries_of i.slots.rows) (rises-up 0 i.slots.rows c.self.invariant.0.keyed c.recall.ensures.order) in
          let entries = (turned i.slots c.put_state.new.slots i.index c.unlist_turned.new.index c.args.key c.args.state c.in-Some.entry c.self.invariant.0 c.recall.ensures.order held (pair c.in-Some.entry held) (endpoints c.in-Some.entry held) c.put_state.ensures.some c.unlist_turned.ensures.slots c.unlist_turned.ensures.counts).1 in
          subst (λ es. IsTally es c.plus-self-inside.result) (sym entries)
          (tally-turned c.args.key c.args.state (entries_of i.slots.rows) c.in-Some.entry i.tally c.minus.result c.plus-self-inside.result keys held c.self.invariant.2 c.minus.ensures.waiting c.minus.ensures.alone c.plus-self-inside.ensures.waiting c.plus-self-inside.ensures.alone)),
    )

pub plus-self-inside-requires : goal.plus-self-inside-requires
plus-self-inside-requires c =
    let few = tally-few c.self.inside.slots.rows c.self.inside.tally c.self.invariant.2 c.recall_few.ensures in
    let waiting = c.minus.ensures.waiting in
    let alone = c.minus.ensures.alone in
    let less = few.waiting in
    let fewer = few.alone in
    record { waiting = omega (arith, waiting, less); alone = omega (arith, alone, fewer) }

pub returns-in-Some-clause-entries : goal.returns-in-Some-clause-entries
returns-in-Some-clause-entries c =
    let i = c.self.inside in
    let held = rw (← c.self.view_is) at (sym c.in-Some.ensures) in
    let pair = rw (← c.self.view_is) at c.requires.pair in
    let endpoints = rw (← c.self.view_is) at c.requires.endpoints in
    rw (← c.self.view_is) (turned i.slots c.put_state.new.slots i.index c.unlist_turned.new.index c.args.key c.args.state c.in-Some.entry c.self.invariant.0 c.recall.ensures.order held (pair c.in-Some.entry held) (endpoints c.in-Some.entry held) c.put_state.ensures.some c.unlist_turned.ensures.slots c.unlist_turned.ensures.counts).1

pub returns-in-Some-clause-lives : goal.returns-in-Some-clause-lives
returns-in-Some-clause-lives c =
    let i = c.self.inside in
    let held = rw (← c.self.view_is) at (sym c.in-Some.ensures) in
    let pair = rw (← c.self.view_is) at c.requires.pair in
    let endpoints = rw (← c.self.view_is) at c.requires.endpoints in
    rw (← c.self.view_is) (turned i.slots c.put_state.new.slots i.index c.unlist_turned.new.index c.args.key c.args.state c.in-Some.entry c.self.invariant.0 c.recall.ensures.order held (pair c.in-Some.entry held) (endpoints c.in-Some.entry held) c.put_state.ensures.some c.unlist_turned.ensures.slots c.unlist_turned.ensures.counts).2

pub returns-in-Some-clause-room : goal.returns-in-Some-clause-room
returns-in-Some-clause-room c =
    let i = c.self.inside in
    let held = rw (← c.self.view_is) at (sym c.in-Some.ensures) in
    let pair = rw (← c.self.view_is) at c.requires.pair in
    let endpoints = rw (← c.self.view_is) at c.requires.endpoints in
    rw (← c.self.view_is) (turned i.slots c.put_state.new.slots i.index c.unlist_turned.new.index c.args.key c.args.state c.in-Some.entry c.self.invariant.0 c.recall.ensures.order held (pair c.in-Some.entry held) (endpoints c.in-Some.entry held) c.put_state.ensures.some c.unlist_turned.ensures.slots c.unlist_turned.ensures.counts).3

pub returns-in_default-clause-entries : goal.returns-in_default-clause-entries
returns-in_default-clause-entries c =
    let none : slot_of c.args.self.now.entries c.args.key ≡ None = sym c.entry.ensures ∙ c.in_default.is in
    sym (turn-none c.args.key c.args.state c.args.self.now.entries none)

pub set_in_time-requires : goal.set_in_time-requires
set_in_time-requires c = record { count = c.self.invariant.1.count ∙ sym c.put_state.ensures.limit }
