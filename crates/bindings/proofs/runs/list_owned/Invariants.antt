use Rattle.std.proofs.Common.{◌≡◌, ◌++◌, map}
use Rattle.bindings.specs.Runs.{port_at, ports_from_on}
use Rattle.bindings.proofs.runs.list_owned.Given as goal

-- the list has the owned ports so far, and those that are left come after them
abbrev pub invariant-loop-port : goal.invariant-loop-port
invariant-loop-port l = l.ports.items ++ map port_at (ports_from_on l.port l.range.owned) ≡ map port_at l.range.owned
