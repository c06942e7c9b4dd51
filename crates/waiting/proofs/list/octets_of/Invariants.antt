use Rattle.std.proofs.Common.{◌≡◌, ◌≤◌, ◌*◌, take}
use Rattle.waiting.specs.Packets.{octets_in}
use Rattle.waiting.proofs.list.octets_of.Given as goal

abbrev pub invariant-loop-packet : goal.invariant-loop-packet
invariant-loop-packet l = record {
  count : l.total ≡ octets_in (take l.packet-index l.packets);
  few : l.total ≤ 64035 * l.packet-index;
}
