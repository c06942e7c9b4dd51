use Rattle.activity.specs.Lives.{with_packet, life_carried}
use Rattle.bindings.proofs.Holding.{stored-lives}
use Rattle.bindings.proofs.Lived.{goes-on, others-stay, length-changed}
use Rattle.bindings.proofs.table.Table.carried.Goals as goal

pub invariant_of-self : goal.invariant_of-self
invariant_of-self c =
    let i = c.self.inside in
    let packet = c.args.packet in
    let g = life_carried c.args.key.protocol packet in
    rw c.carry.ensures.lives (
      stored-lives i.store.entries i.store.lives _ i.ports i.zero i.one i.capacity _ c.self.invariant.0 (length-changed g c.args.key i.store.entries i.store.lives),
      c.self.invariant.1,
    )

pub returns-clause-longer : goal.returns-clause-longer
returns-clause-longer c =
    let i = c.self.inside in
    let packet = c.args.packet in
    rw (c.carry.ensures.lives, ← c.self.view_is)
    (λ past has. goes-on (life_carried c.args.key.protocol packet) c.args.key i.store.entries i.store.lives past (with_packet packet past) (λ life h a. c.carry.ensures.agrees life past h a) has)

pub returns-clause-others : goal.returns-clause-others
returns-clause-others c =
    let i = c.self.inside in
    let packet = c.args.packet in
    rw (c.carry.ensures.lives, ← c.self.view_is) (others-stay (life_carried c.args.key.protocol packet) c.args.key i.store.entries i.store.lives)

pub returns-clause-counts : goal.returns-clause-counts
returns-clause-counts c = rw (← c.self.view_is) c.carry.ensures.counts
