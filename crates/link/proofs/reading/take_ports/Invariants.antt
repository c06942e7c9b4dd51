use Rattle.std.proofs.Common.{◌≡◌, ◌-◌, length}
use Rattle.link.specs.Reading.{port_at, many_at}
use Rattle.link.proofs.Loop.{with_front}
use Rattle.link.proofs.reading.take_ports.Given as goal

abbrev pub invariant-loop : goal.invariant-loop
invariant-loop l = record {
  so_far : with_front l.granted.ports (many_at port_at (l.count - l.counter) l.rest) ≡ many_at port_at l.count l.bytes;
  room : length l.granted.ports ≡ l.counter;
}
