use Rattle.std.proofs.Common.{ap, sym, ◌∙◌}
use Rattle.nat_types.specs.declared.pairs.Pair.{Pair}
use Rattle.bindings.specs.Entries.{slot_of}
use Rattle.bind_core.specs.Cores.{book_of, is_carried}
use Rattle.bind_core.specs.View.{core_of}
use Rattle.bind_core.proofs.Carried.{wish-port, wish-quiet}
use Rattle.bind_core.proofs.cores.Core.carries.Goals as goal

pub returns-clause-quiet : goal.returns-clause-quiet
returns-clause-quiet c =
    let key = ap (λ (q : Pair). q.key) c.pair.view_is in
    let held = ap (λ k. is_carried (slot_of c.self.inside.table.entries k) c.args.pair) (sym key) ∙ ap (λ o. is_carried o c.args.pair) (sym c.pair_of_port.ensures) ∙ sym c.is_carried.ensures in
    rw (← c.self.view_is) (λ is apart full. wish-quiet (book_of (core_of c.self.inside)) apart full c.args.pair (held ∙ is))

pub returns-clause-port : goal.returns-clause-port
returns-clause-port c =
    let key = ap (λ (q : Pair). q.key) c.pair.view_is in
    let held = ap (λ k. is_carried (slot_of c.self.inside.table.entries k) c.args.pair) (sym key) ∙ ap (λ o. is_carried o c.args.pair) (sym c.pair_of_port.ensures) ∙ sym c.is_carried.ensures in
    rw (← c.self.view_is) (λ is synced own apart full. wish-port (book_of (core_of c.self.inside)) apart full c.args.pair own (held ∙ is) synced)
