use Rattle.std.proofs.Common.{◌≡◌, take, map}
use Rattle.addresses.specs.declared.transport.Port.{Port}
use Rattle.spec_binding.specs.Rows.{with_gained}
use Rattle.bind_core.specs.Changes.{table_book}
use Rattle.bind_core.proofs.deeds.gain_ports.Given as goal

pub record Gained (l : goal.Live-loop-port) : Type 0 where
  pub ports : l.port-items ≡ l.fn.granted.ports
  pub gained : l.table ≡ record l.fn.table { owned = (with_gained (table_book l.fn.table) (map (λ (p : Port). p.0) (take l.port-index l.fn.granted.ports))).owned }

abbrev pub invariant-loop-port : goal.invariant-loop-port
invariant-loop-port l = Gained l
