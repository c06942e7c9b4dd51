-- ICMP errors about translated packets: which way they go, by which pairs, and the frame by which one is passed on
-- (RFC 5508, section 4).
use Rattle.std.specs.Prelude.{◌≡◌, ℕ, Bool, ◌==◌, ◌&&◌, Result, Ok, Err, List, ◌++◌, take, slice_index, if◌then◌else◌}
use Rattle.addresses.specs.declared.ethernet.Mac.{Mac}
use Rattle.nat_types.specs.declared.gateways.Side.{Side}
use Rattle.nat_types.specs.declared.pairs.Endpoint.{Endpoint}
use Rattle.nat_types.specs.declared.pairs.Key.{Key}
use Rattle.frames.specs.Frame.{frame_of}
use Rattle.ipv4.specs.Header.{header_of, payload_of}
use Rattle.icmp.specs.Error.{is_error}
use Rattle.icmp.specs.Packet.{error_flow}
use Rattle.icmp.specs.declared.packets.ErrorFlow.{ErrorFlow}
use Rattle.rewrite.specs.PassedOn.{error_from, error_to, passed_on}
use Rattle.packet_rules.specs.declared.networks.Direction.{Direction}
use Rattle.packet_rules.specs.declared.networks.Networks.{Networks}
use Rattle.packet_rules.specs.declared.reasons.Reason.{Reason}
use Rattle.packet_rules.specs.declared.reasons.Reason.TheVariants.{NoBinding}
use Rattle.packet_rules.specs.declared.translations.Translation.{Translation}
use Rattle.packet_rules.specs.declared.translations.Translation.TheVariants.{Outward, Inward, Hairpin}
use Rattle.packet_rules.specs.Frames.{sent_header}
use Rattle.packet_rules.specs.Networks.{direction_of}
use Rattle.packet_rules.specs.Steps.{and_then}

-- the key of the pair by which the packet inside went out, if it did
abbrev pub key_about : ErrorFlow → Key
key_about flow = record { protocol = flow.inside.protocol; port = flow.inside.source_port }

-- the endpoint to which the packet inside came in, if it did
abbrev pub endpoint_about : ErrorFlow → Endpoint
endpoint_about flow = record {
  protocol = flow.inside.protocol;
  address = flow.inside.destination;
  port = flow.inside.destination_port;
}

-- 7, 8. the way of an error, by its own addresses; the packet inside has to come from where the error goes
unfoldable pub error_direction : Networks → Side → ErrorFlow → Result Direction Reason
error_direction networks side flow =
    and_then (direction_of networks side flow.inside.protocol flow.source.0 flow.destination.0)
    (λ way. if flow.inside.source.0 == flow.destination.0 then Ok way else Err NoBinding)

-- The pairs of an error: inward the one whose key is the protocol and source port inside; outward the one whose endpoint is
-- the protocol, destination and destination port inside; of a hairpin both, where the error goes to the endpoint of the
-- first, which is `other` here as in any hairpin.
abbrev pub AreErrorPairs : ErrorFlow → Translation → Type 0
AreErrorPairs flow (Outward p) = p.endpoint ≡ endpoint_about flow
AreErrorPairs flow (Inward p) = p.key ≡ key_about flow
AreErrorPairs flow (Hairpin own other) = (other.key ≡ key_about flow) × (own.endpoint ≡ endpoint_about flow)

-- The flow of an error that is passed on. Inward and back in the source inside becomes the endpoint of the pair of the source
-- port inside, and the error goes to it; outward and back in the destination inside becomes the outside virtual address and
-- the port of the other pair, and the error comes from that address.
abbrev pub new_error_flow : Networks → Translation → ErrorFlow → ErrorFlow
new_error_flow networks (Outward pair) flow =
    error_from networks.outside.interface.virtual_ip pair.key.port flow
new_error_flow networks (Inward pair) flow =
    error_to pair.endpoint.address pair.endpoint.port flow
new_error_flow networks (Hairpin own other) flow =
    error_from networks.outside.interface.virtual_ip own.key.port
    (error_to other.endpoint.address other.endpoint.port flow)

-- an IPv4 packet with an error, passed on: it gets that flow
unfoldable pub passed_by : Networks → Translation → List ℕ → List ℕ
passed_by networks by packet = passed_on (new_error_flow networks by (error_flow packet)) packet

-- the frame by which an error is passed on, without padding
unfoldable pub passed_frame : Networks → Translation → Mac → List ℕ → List ℕ
passed_frame networks by next bytes =
    let packet = (frame_of bytes).body in
    sent_header networks by next
    ++ take (header_of packet).total_length (passed_by networks by packet)

-- a frame of an error that was passed on: of EtherType 0x0800 and protocol 1, and its message begins with an error's type
unfoldable pub is_error_frame : List ℕ → Bool
is_error_frame bytes =
    let packet = (frame_of bytes).body in
    ((frame_of bytes).ethertype == 2048)
    && ((header_of packet).protocol == 1)
    && is_error (slice_index (payload_of packet) 0)

-- a frame's error comes from this address, and the packet inside went to it
abbrev pub HidesInside : ℕ → List ℕ → Type 0
HidesInside outside bytes =
    let flow = error_flow (frame_of bytes).body in
    (flow.source.0 ≡ outside) × (flow.inside.destination.0 ≡ outside)
