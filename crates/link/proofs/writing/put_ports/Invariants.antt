use Rattle.std.proofs.Common.{◌≡◌, ◌+◌, ◌*◌, ◌≤◌, ◌++◌, length, take}
use Rattle.std.specs.List.{flat_map}
use Rattle.link.specs.Grammar.{port_bytes}
use Rattle.link.proofs.writing.put_ports.Given as goal

abbrev pub invariant-loop-port : goal.invariant-loop-port
invariant-loop-port l = record {
  so_far : l.out.items ≡ l.fn.out.items ++ flat_map port_bytes (take l.port-index l.ports);
  room : length l.out.items ≤ length l.fn.out.items + 2 * l.port-index;
}
