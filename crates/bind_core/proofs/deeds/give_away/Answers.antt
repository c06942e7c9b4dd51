use Rattle.std.proofs.Common.{ℕ, List, ap, sym}
use Rattle.bindings.specs.Table.{Table}
use Rattle.bind_core.proofs.Porting.{without-none, still-vacant, given-next, given-vacant}
use Rattle.bind_core.proofs.deeds.give_away.Goals as goal

pub loop-port-init : goal.loop-port-init
loop-port-init c = record {
  ports = c.ports-port-items.ensures;
  table = ap (λ (z : List ℕ). let t : Table = record c.args.table.now { owned = z } in t) (sym (without-none c.args.table.now.owned));
}

pub give_port-requires : goal.give_port-requires
give_port-requires c =
    still-vacant c.loop-port.table c.args.table.now _ _ c.loop-port.invariant.table
    (given-vacant c.args.granted.ports c.ports-port-items.result.now c.loop-port.port-index record { 0 = 0 } c.args.table.now.entries c.args.table.now.owned c.ports-port-items.ensures c.loop-port-test.true c.requires.spare)

pub loop-port-preserved : goal.loop-port-preserved
loop-port-preserved c = record {
  ports = c.ports-port-items.ensures;
  table = given-next c.loop-port.table c.args.table.now c.give_port.new.table c.args.granted.ports c.ports-port-items.result.now c.loop-port.port-index record { 0 = 0 } c.ports-port-items.ensures c.loop-port-test.true c.loop-port.invariant.table c.give_port.ensures;
}
