-- The endpoint and the key by which a table of pairs finds the pair of a packet's flow.
use Rattle.std.specs.Prelude.{ℕ, List}
use Rattle.nat_types.specs.declared.pairs.Endpoint.{Endpoint}
use Rattle.nat_types.specs.declared.pairs.Key.{Key}
use Rattle.frames.specs.Frame.{frame_of}
use Rattle.ipv4.specs.declared.flows.Flow.{Flow}
use Rattle.ipv4.specs.declared.packets.Packet.{Packet}
use Rattle.ipv4.specs.Flow.{flow_of, size_of}
use Rattle.ipv4.specs.Header.{payload_of}
use Rattle.ipv4.specs.Segment.{segment_of}
use Rattle.icmp.specs.Packet.{error_flow}
use Rattle.icmp.specs.declared.packets.ErrorFlow.{ErrorFlow}
use Rattle.icmp.specs.declared.packets.ErrorPacket.{ErrorPacket}

-- the flow of a frame's packet
unfoldable pub flow_in : List ℕ → Flow
flow_in bytes = flow_of (frame_of bytes).body

-- what the first reading of a frame's packet gives
abbrev pub packet_in : List ℕ → Packet
packet_in bytes = let packet = (frame_of bytes).body in record {
  flow = flow_in bytes;
  flags = (segment_of (payload_of packet)).flags;
  size = size_of packet;
}

-- the endpoint that a packet comes from
abbrev pub source_of : Flow → Endpoint
source_of flow = record { protocol = flow.protocol; address = flow.source; port = flow.source_port }

-- the outside port that a packet goes to
abbrev pub target_of : Flow → Key
target_of flow = record { protocol = flow.protocol; port = flow.destination_port }

-- the flow of a frame's error
unfoldable pub error_flow_in : List ℕ → ErrorFlow
error_flow_in bytes = error_flow (frame_of bytes).body

-- what the first reading of a frame's error gives
abbrev pub error_in : List ℕ → ErrorPacket
error_in bytes = record {
  flow = error_flow_in bytes;
  size = size_of (frame_of bytes).body;
}
