use Rattle.std.proofs.Common.{ap, sym, subst, ◌∙◌}
use Rattle.activity.specs.Lives.{Activity, Agrees, with_packet, life_carried}
use Rattle.slots.specs.Rows.{PortSlots}
use Rattle.bindings.specs.declared.store.Item.{Item}
use Rattle.bindings.specs.Stores.{IsTally}
use Rattle.bindings.specs.Lives.{use_counts_by}
use Rattle.bindings.proofs.Kept.{life-is}
use Rattle.bindings.proofs.Timed.{changed-timed}
use Rattle.bindings.proofs.Stored.{changed-life, item-of_life}
use Rattle.bindings.proofs.store.Store.carry.Goals as goal

pub invariant_of-self : goal.invariant_of-self
invariant_of-self c =
    let rows = λ (s : PortSlots Item). s.rows in (
      (changed-life c.self.inside.slots c.put_packet-counts.new.slots c.self.inside.index c.self.inside.found.items c.args.key (life_carried c.args.key.protocol c.args.packet) c.self.invariant.0 c.recall.ensures.order c.put_packet-counts.ensures.some c.put_packet-counts.ensures.none).0,
      record {
        timed = changed-timed c.self.inside.watch c.args.key (λ i. record i { life = life_carried c.args.key.protocol c.args.packet i.life }) c.self.inside.dues.moments c.set_in_time.new.dues.moments c.self.inside.slots.rows c.put_packet-counts.new.slots.rows
            (λ i h. ap rows (c.put_packet-counts.ensures.some i h)) (λ h. ap rows (c.put_packet-counts.ensures.none h)) c.set_in_time.ensures.others c.set_in_time.ensures.timed c.self.invariant.1.timed;
        count = c.set_in_time.ensures.count ∙ c.self.invariant.1.count ∙ sym c.put_packet-counts.ensures.limit;
        room = rw c.put_packet-counts.ensures.limit c.self.invariant.1.room;
      },
      subst (λ es. IsTally es c.self.inside.tally) (sym (changed-life c.self.inside.slots c.put_packet-counts.new.slots c.self.inside.index c.self.inside.found.items c.args.key (life_carried c.args.key.protocol c.args.packet) c.self.invariant.0 c.recall.ensures.order c.put_packet-counts.ensures.some c.put_packet-counts.ensures.none).2) c.self.invariant.2,
    )

pub returns-clause-counts : goal.returns-clause-counts
returns-clause-counts c =
    rw (← c.self.view_is) (c.put_packet-counts.ensures.counts ∙ ap (use_counts_by c.args.key c.args.packet) (sym (life-is c.self.inside.slots.rows c.args.key c.self.invariant.0.keyed)))

pub returns-clause-lives : goal.returns-clause-lives
returns-clause-lives c =
    rw (← c.self.view_is) (changed-life c.self.inside.slots c.put_packet-counts.new.slots c.self.inside.index c.self.inside.found.items c.args.key (life_carried c.args.key.protocol c.args.packet) c.self.invariant.0 c.recall.ensures.order c.put_packet-counts.ensures.some c.put_packet-counts.ensures.none).1

pub returns-clause-agrees : goal.returns-clause-agrees
returns-clause-agrees c =
    rw (← c.self.view_is) (λ life past h a.
    let item = item-of_life c.self.inside.slots.rows c.args.key life c.self.invariant.0.keyed h in
    subst (λ (l : Activity). Agrees c.args.key.protocol (with_packet c.args.packet past) (life_carried c.args.key.protocol c.args.packet l)) item.2
    (c.put_packet-counts.ensures.agrees item.0 past item.1 (subst (Agrees c.args.key.protocol past) (sym item.2) a)))

pub set_in_time-requires : goal.set_in_time-requires
set_in_time-requires c = record { count = c.self.invariant.1.count ∙ sym c.put_packet-counts.ensures.limit }
