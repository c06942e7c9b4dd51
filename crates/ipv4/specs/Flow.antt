-- From where to where a packet goes, and what else is read of it.
use Rattle.std.specs.Prelude.{ℕ, ◌==◌, if◌then◌else◌, List}
use Rattle.addresses.specs.declared.transport.Protocol.{Protocol}
use Rattle.addresses.specs.declared.transport.Protocol.TheVariants.{Icmp, Tcp, Udp}
use Rattle.ipv4.specs.Header.{word_at, header_of, is_unbroken, payload_of}
use Rattle.ipv4.specs.Segment.{segment_of}
use Rattle.ipv4.specs.declared.flows.Flow.{Flow}
use Rattle.ipv4.specs.declared.packets.Packet.{Packet}
use Rattle.ipv4.specs.declared.packets.Size.{Size}

-- which of the three translated protocols a packet carries
abbrev pub protocol_of : List ℕ → Protocol
protocol_of packet =
    (if (header_of packet).protocol == 1 then Icmp
    else if (header_of packet).protocol == 6 then Tcp
    else Udp)

-- the place of the source port in a payload: a UDP or TCP header begins with the two ports, and the identifier of an
-- ICMP query is both
abbrev pub source_place : Protocol → ℕ
source_place Icmp = 4
source_place Tcp = 0
source_place Udp = 0

-- the place of the destination port in a payload
abbrev pub destination_place : Protocol → ℕ
destination_place Icmp = 4
destination_place Tcp = 2
destination_place Udp = 2

-- the flow of a packet that is translated
abbrev pub flow_of : List ℕ → Flow
flow_of packet =
    let protocol = protocol_of packet in
    record {
      protocol = protocol;
      source = record { 0 = (header_of packet).source };
      source_port = record { 0 = word_at (source_place protocol) (payload_of packet) };
      destination = record { 0 = (header_of packet).destination };
      destination_port = record { 0 = word_at (destination_place protocol) (payload_of packet) };
    }

-- how many bytes a packet has, without padding, and whether it has the flag Don't Fragment
abbrev pub size_of : List ℕ → Size
size_of packet = record {
  length = (header_of packet).total_length;
  unbroken = is_unbroken packet;
}

-- what the first reading of such a packet finds out; the flags are byte 13 of the payload, whatever the protocol is
abbrev pub packet_of : List ℕ → Packet
packet_of packet = record {
  flow = flow_of packet;
  flags = (segment_of (payload_of packet)).flags;
  size = size_of packet;
}
