use Rattle.std.proofs.Common.{◌≡◌, drop, map}
use Rattle.std.specs.List.{list_any}
use Rattle.addresses.specs.declared.transport.Port.{Port}
use Rattle.spec_binding.specs.Rows.{is_gained}
use Rattle.bind_core.specs.Changes.{table_book}
use Rattle.bind_core.proofs.deeds.gains_any.Given as goal

-- whether any port becomes owned is whether one of those that are left does
pub record Looked (l : goal.Live-loop-port) : Type 0 where
  pub ports : l.port-items ≡ l.fn.granted.ports
  pub left : list_any (is_gained (table_book l.table)) (map (λ (p : Port). p.0) l.fn.granted.ports) ≡ list_any (is_gained (table_book l.table)) (map (λ (p : Port). p.0) (drop l.port-index l.fn.granted.ports))

abbrev pub invariant-loop-port : goal.invariant-loop-port
invariant-loop-port l = Looked l
