-- The frame by which a packet is sent on.
use Rattle.std.specs.Prelude.{ℕ, Bool, ◌==◌, ◌&&◌, ◌||◌, List, [], ◌∷◌, ◌++◌, take, slice_index}
use Rattle.addresses.specs.declared.ethernet.Mac.{Mac}
use Rattle.nat_types.specs.Pair.{Pair}
use Rattle.frames.specs.Frame.{frame_of, header_bytes}
use Rattle.ipv4.specs.declared.flows.Flow.{Flow}
use Rattle.ipv4.specs.Flow.{flow_of}
use Rattle.ipv4.specs.Header.{header_of, payload_of}
use Rattle.icmp.specs.Query.{kind_number}
use Rattle.nat_types.specs.declared.gateways.Side.{Side}
use Rattle.packet_rules.specs.Queries.{kind_leaving}
use Rattle.rewrite.specs.Translated.{translated}
use Rattle.packet_rules.specs.declared.networks.Networks.{Networks}
use Rattle.packet_rules.specs.declared.networks.Direction as way
use Rattle.packet_rules.specs.declared.networks.Direction.{Direction}
use Rattle.packet_rules.specs.declared.translations.Translation.{Translation}
use Rattle.packet_rules.specs.declared.translations.Translation.TheVariants.{Outward, Inward, Hairpin}
use Rattle.packet_rules.specs.Networks.{network_of, exit_of, outside_hop}

-- the way of a packet that is translated so
abbrev pub way_of : Translation → Direction
way_of (Outward pair) = way.TheVariants.Outward
way_of (Inward pair) = way.TheVariants.Inward
way_of (Hairpin own other) = way.TheVariants.Hairpin

-- the pairs that a translation uses, in order: of a hairpin the sender's own first
abbrev pub pairs_of : Translation → List Pair
pairs_of (Outward pair) = pair ∷ []
pairs_of (Inward pair) = pair ∷ []
pairs_of (Hairpin own other) = own ∷ other ∷ []

-- the flow of a translated packet: outward it gets the outside virtual address and the pair's port
-- as its source, inward the pair's endpoint as its destination; a hairpin gets the outside virtual
-- address and the sender's own port as its source, and the other pair's endpoint as its destination
abbrev pub new_flow : Networks → Translation → Flow → Flow
new_flow networks (Outward pair) flow = record flow {
  source = networks.outside.interface.virtual_ip;
  source_port = pair.key.port;
}
new_flow networks (Inward pair) flow = record flow {
  destination = pair.endpoint.address;
  destination_port = pair.endpoint.port;
}
new_flow networks (Hairpin own other) flow = record flow {
  source = networks.outside.interface.virtual_ip;
  source_port = own.key.port;
  destination = other.endpoint.address;
  destination_port = other.endpoint.port;
}

-- an IPv4 packet translated: it gets that flow
unfoldable pub translated_by : Networks → Translation → List ℕ → List ℕ
translated_by networks translation packet =
    translated (new_flow networks translation (flow_of packet)) packet

-- the next hop of a packet to this destination
abbrev pub hop_of : Networks → Translation → ℕ → ℕ
hop_of networks (Outward pair) destination = outside_hop networks destination
hop_of networks (Inward pair) destination = pair.endpoint.address.0
hop_of networks (Hairpin own other) destination = other.endpoint.address.0

-- the own hardware address at the side at which the packet leaves
abbrev pub exit_mac : Networks → Translation → Mac
exit_mac networks translation =
    (network_of networks (exit_of (way_of translation))).own_mac

-- the header of a frame that is sent on: to the next hop, from the own address
abbrev pub sent_header : Networks → Translation → Mac → List ℕ
sent_header networks translation next =
    header_bytes next.0 (exit_mac networks translation).0 2048

-- the frame by which a packet is sent on: translated, without padding
unfoldable pub sent_frame : Networks → Translation → Mac → List ℕ → List ℕ
sent_frame networks translation next bytes =
    let packet = (frame_of bytes).body in
    sent_header networks translation next
    ++ take (header_of packet).total_length (translated_by networks translation packet)

-- a frame whose packet was translated and that left at this side: of EtherType 0x0800, and of protocol 6
-- or 17, or of protocol 1 with a message that begins with 8 at the outside, with 0 at the inside
unfoldable pub is_translation : Side → List ℕ → Bool
is_translation exit bytes =
    let packet = (frame_of bytes).body in
    let protocol = (header_of packet).protocol in
    ((frame_of bytes).ethertype == 2048)
    && ((protocol == 6) || (protocol == 17)
    || ((protocol == 1) && (slice_index (payload_of packet) 0 == kind_number (kind_leaving exit))))
