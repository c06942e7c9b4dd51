use Rattle.bind_core.proofs.Porting.{gained-next, gained-between}
use Rattle.bind_core.proofs.deeds.gain_ports.Goals as goal

pub gain_port-requires : goal.gain_port-requires
gain_port-requires c = gained-between c.loop-port.table c.args.table.now _ c.args.bounds c.loop-port.invariant.gained c.requires

pub loop-port-preserved : goal.loop-port-preserved
loop-port-preserved c = record {
  ports = c.ports-port-items.ensures;
  gained = gained-next c.loop-port.table c.args.table.now c.gain_port.new.table c.args.granted.ports c.ports-port-items.result.now c.loop-port.port-index record { 0 = 0 } c.ports-port-items.ensures c.loop-port-test.true c.loop-port.invariant.gained c.gain_port.ensures;
}
