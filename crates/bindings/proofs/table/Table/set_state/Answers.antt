use Rattle.std.proofs.Common.{ap, sym, ◌∙◌, arith}
use Rattle.bindings.specs.Entries.{slot_of}
use Rattle.bindings.proofs.Turned.{KeepsRank}
use Rattle.bindings.proofs.Edits.{slot-with_state}
use Rattle.bindings.proofs.Pasts.{life-turned}
use Rattle.bindings.proofs.Holding.{stored-turn}
use Rattle.bindings.proofs.table.Table.set_state.Goals as goal

pub turn-requires : goal.turn-requires
turn-requires c =
    let rank = rw (← c.self.view_is) at c.requires in
    record {
      pair = rank;
      endpoints = λ x held was is. c.self.invariant.0.endpoints;
    }

pub invariant_of-self : goal.invariant_of-self
invariant_of-self c =
    let i = c.self.inside in
    let ranks : KeepsRank c.args.key c.args.state i.store.entries = λ x held. c.requires x (ap (λ t. slot_of t.entries c.args.key) (sym c.self.view_is) ∙ held) in (
      rw (c.turn.ensures.entries, c.turn.ensures.lives, c.turn.ensures.room)
          (stored-turn i.store.entries i.store.lives i.ports i.zero i.one i.capacity _ c.args.key c.args.state c.self.invariant.0 ranks),
      (let a = c.self.invariant.1 in let b = c.turn.ensures.spare in omega (arith, a, b)),
    )

pub returns-clause-slots : goal.returns-clause-slots
returns-clause-slots c =
    rw (c.turn.ensures.entries, ← c.self.view_is) (λ entry held q. slot-with_state c.args.key c.args.state c.self.inside.store.entries entry q held)

pub returns-clause-pasts : goal.returns-clause-pasts
returns-clause-pasts c =
    rw (c.turn.ensures.entries, c.turn.ensures.lives, ← c.self.view_is)
    (λ q past has. (has.0, life-turned c.args.key c.args.state c.self.inside.store.entries c.self.inside.store.lives q ∙ has.1, has.2))
