use Rattle.std.proofs.Common.{◌≡◌, ℕ, ◌-◌, ap, ◌∙◌, arith}
use Rattle.std.specs.List.{range_with_len}
use Rattle.port_range.specs.Ports.{is_listed}
use Rattle.bindings.specs.Table.{Table}
use Rattle.bind_core.proofs.Founding.{not-yet, owned-next}
use Rattle.bind_core.proofs.deeds.own_range.Goals as goal

pub own-requires-clause-foreign : goal.own-requires-clause-foreign
own-requires-clause-foreign c =
    let from = c.loop-port.invariant.from in
    ap (λ (t : Table). is_listed c.loop-port.port t.owned) c.loop-port.invariant.table ∙ not-yet c.args.range.lowest.0 (c.loop-port.port - c.args.range.lowest.0) c.loop-port.port (omega (arith, from))

pub loop-port-preserved : goal.loop-port-preserved
loop-port-preserved c =
    let from = c.loop-port.invariant.from in
    let before = c.loop-port-test.true in
    record {
      from = omega (arith, from);
      to = omega (arith, before);
      table = owned-next c.loop-port.table c.args.table.now c.own.new.self c.args.range.lowest.0 c.loop-port.port from c.loop-port.invariant.table c.own.ensures.list c.own.ensures.same;
    }

pub own-requires-2-clause-foreign : goal.own-requires-2-clause-foreign
own-requires-2-clause-foreign c =
    let from = c.loop-port.invariant.from in
    let to = c.loop-port.invariant.to in
    ap (λ (t : Table). is_listed c.args.range.highest.0 t.owned) c.loop-port.invariant.table ∙ not-yet c.args.range.lowest.0 (c.loop-port.port - c.args.range.lowest.0) c.args.range.highest.0 (omega (arith, from, to))

pub returns : goal.returns
returns c =
    let to = c.loop-port.invariant.to in
    let past = c.loop-port-test.false in
    let end : c.loop-port.port ≡ c.args.range.highest.0 = omega (arith, to, past) in
    owned-next c.loop-port.table c.args.table.now c.own-2.new.self c.args.range.lowest.0 c.args.range.highest.0 c.requires.order
    (c.loop-port.invariant.table ∙ ap (λ (p : ℕ). let t : Table = record c.args.table.now { owned = range_with_len c.args.range.lowest.0 (p - c.args.range.lowest.0) } in t) end) c.own-2.ensures.list c.own-2.ensures.same
