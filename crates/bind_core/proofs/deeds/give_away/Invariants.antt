use Rattle.std.proofs.Common.{◌≡◌, take, map}
use Rattle.addresses.specs.declared.transport.Port.{Port}
use Rattle.spec_binding.specs.Rows.{without_ports}
use Rattle.bind_core.proofs.deeds.give_away.Given as goal

pub record GivenAway (l : goal.Live-loop-port) : Type 0 where
  pub ports : l.port-items ≡ l.fn.granted.ports
  pub table : l.table ≡ record l.fn.table { owned = without_ports (map (λ (p : Port). p.0) (take l.port-index l.fn.granted.ports)) l.fn.table.owned }

abbrev pub invariant-loop-port : goal.invariant-loop-port
invariant-loop-port l = GivenAway l
