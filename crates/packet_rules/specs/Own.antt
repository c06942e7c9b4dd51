-- What the box sends of its own: the frame that answers an Echo to it, and the frame that complains of a packet that it
-- drops (RFC 792; RFC 1812, section 4.3.2).
use Rattle.std.specs.Prelude.{◌≡◌, ◌<◌, ℕ, ◌+◌, Bool, false, not, nat_lt, ◌==◌, ◌&&◌, ◌||◌, Option, Some, None, List, ◌++◌, length, slice_index, Result, Ok, Err, if◌then◌else◌}
use Rattle.addresses.specs.declared.ethernet.Mac.{Mac}
use Rattle.frames.specs.Frame.{frame_of, header_bytes}
use Rattle.ipv4.specs.Header.{header_of, is_unbroken, payload_of}
use Rattle.icmp.specs.Own.{reply_packet, exceeded_packet, too_long_packet}
use Rattle.icmp.specs.declared.errors.TheConstants.{PROTOCOL}
use Rattle.icmp.specs.declared.own.Cutting.{Cutting}
use Rattle.icmp.specs.declared.own.Cutting.TheVariants.{Forbidden, Allowed}
use Rattle.nat_types.specs.declared.gateways.Side.{Side}
use Rattle.packet_rules.specs.declared.complaints.Complaint.{Complaint}
use Rattle.packet_rules.specs.declared.complaints.Complaint.TheVariants.{Exceeded, TooBig}
use Rattle.packet_rules.specs.declared.networks.Direction.{Direction}
use Rattle.packet_rules.specs.declared.networks.Network.{Network}
use Rattle.packet_rules.specs.declared.networks.Networks.{Networks}
use Rattle.packet_rules.specs.declared.reasons.Reason.{Reason}
use Rattle.packet_rules.specs.declared.reasons.Reason.TheVariants.{TtlOver, TooLong}
use Rattle.packet_rules.specs.Networks.{exit_of, is_broadcast, is_martian, lies_in, may_answer, mtu_of, network_of}

-- the frame by which an interface sends a packet of its own: to the next hop, from its own MAC
unfoldable pub own_frame : Network → Mac → List ℕ → List ℕ
own_frame network next packet = header_bytes next.0 network.own_mac.0 2048 ++ packet

-- the packet that answers an Echo is longer than the interface's `mtu`
abbrev pub is_long_answer : Network → List ℕ → Bool
is_long_answer network packet =
    nat_lt network.interface.mtu (20 + length (payload_of packet))

-- whether the answer to an Echo may be cut: where it is too long, and then with the Echo's identification
unfoldable pub answer_cutting : Network → List ℕ → Cutting
answer_cutting network packet =
    (if is_long_answer network packet then Allowed (header_of packet).identification
    else Forbidden)

-- what answers an Echo: its Reply, from the address that was asked to the one that asked
unfoldable pub answer_packet : Network → List ℕ → List ℕ
answer_packet network packet =
    reply_packet (answer_cutting network packet) (payload_of packet)
    (header_of packet).destination (header_of packet).source

-- the packet that complains of a packet, from the interface's own address to the packet's source
unfoldable pub complaint_packet : Network → Complaint → List ℕ → List ℕ
complaint_packet network Exceeded packet =
    exceeded_packet packet network.own_ip.0 (header_of packet).source
complaint_packet network (TooBig mtu) packet =
    too_long_packet packet mtu network.own_ip.0 (header_of packet).source

abbrev pub answer_frame : Network → Mac → List ℕ → List ℕ
answer_frame network next bytes =
    own_frame network next (answer_packet network (frame_of bytes).body)

abbrev pub complaint_frame : Network → Complaint → Mac → List ℕ → List ℕ
complaint_frame network complaint next bytes =
    own_frame network next (complaint_packet network complaint (frame_of bytes).body)

-- an ICMP error of any type: Destination Unreachable, Source Quench, Redirect, Time Exceeded, Parameter Problem
unfoldable pub is_any_error : List ℕ → Bool
is_any_error packet =
    let kind = slice_index (payload_of packet) 0 in
    ((header_of packet).protocol == PROTOCOL)
    && ((kind == 3) || (kind == 4) || (kind == 5) || (kind == 11) || (kind == 12))

-- a packet to one host, as far as can be told: neither martian nor the broadcast address of one of the two networks
unfoldable pub is_to_host : Networks → ℕ → Bool
is_to_host networks destination =
    not (is_martian destination)
    && (not (is_broadcast destination networks.inside.interface)
    && not (is_broadcast destination networks.outside.interface))

-- a packet that came in at a side and of which the box may complain there (RFC 1812, section 4.3.2.7)
unfoldable pub is_told : Networks → Side → List ℕ → Bool
is_told networks side packet =
    (network_of networks side).icmp.errors
    && (not (is_any_error packet)
    && (may_answer networks side (header_of packet).source
    && is_to_host networks (header_of packet).destination))

-- the side at which a packet of this way would leave; nothing tests the length of a packet without a way, so any side
-- would do
abbrev pub exit_for : Side → Result Direction Reason → Side
exit_for side (Ok way) = exit_of way
exit_for side (Err reason) = side

-- the complaint about a packet that is dropped for a reason, with the `mtu` of the side at which it would leave
unfoldable pub complaint_about : ℕ → Reason → List ℕ → Option Complaint
complaint_about mtu TtlOver packet = Some Exceeded
complaint_about mtu TooLong packet = (if is_unbroken packet then Some (TooBig mtu) else None)
complaint_about mtu reason packet = None

-- the complaint that is sent where a frame's packet, which came in at `side`, is dropped for a reason; the packet would
-- leave at `exit`
unfoldable pub complaint_of : Networks → Side → Side → Reason → List ℕ → Option Complaint
complaint_of networks side exit reason bytes =
    let packet = (frame_of bytes).body in
    (if is_told networks side packet then complaint_about (mtu_of networks exit) reason packet
    else None)

-- an own frame sent at a side: of EtherType 0x0800 and protocol 1, from the own address there; or a Reply (its message
-- begins with 0; an empty one, which nobody sends, counts as that) from the virtual address there or from the outside one
unfoldable pub is_own_frame : Networks → Side → List ℕ → Bool
is_own_frame networks side bytes =
    let packet = (frame_of bytes).body in
    let source = (header_of packet).source in
    let network = network_of networks side in
    ((frame_of bytes).ethertype == 2048) && (((header_of packet).protocol == PROTOCOL)
    && ((source == network.own_ip.0)
    || ((slice_index (payload_of packet) 0 == 0)
    && ((source == network.interface.virtual_ip.0)
    || (source == networks.outside.interface.virtual_ip.0)))))

-- a frame's packet has no address of the inside network as its source or its destination
abbrev pub HidesHosts : Networks → List ℕ → Type 0
HidesHosts networks bytes =
    let header = header_of (frame_of bytes).body in
    (lies_in header.source networks.inside.interface ≡ false)
    × (lies_in header.destination networks.inside.interface ≡ false)

-- each number of a list is a byte
abbrev pub AreBytes : List ℕ → Type 0
AreBytes bytes = (place : ℕ) → slice_index bytes place < 256
