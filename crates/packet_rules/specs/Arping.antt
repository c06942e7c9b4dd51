-- What an interface does with an ARP packet: whom it learns, and what it answers.
use Rattle.std.specs.Prelude.{ℕ, ◌%◌, Bool, not, ◌==◌, ◌&&◌, ◌||◌, Option, Some, None, List, slice_index, replicate, if◌then◌else◌}
use Rattle.std.specs.Str.{bytes_eq}
use Rattle.addresses.specs.Address.{virtual_mac}
use Rattle.addresses.specs.declared.ethernet.Mac.{Mac}
use Rattle.addresses.specs.declared.internet.Ip.{Ip}
use Rattle.arp.specs.declared.packets.ArpPacket.{ArpPacket}
use Rattle.arp.specs.declared.packets.Operation.{Operation}
use Rattle.arp.specs.declared.packets.Operation.TheVariants.{Request, Reply}
use Rattle.arp.specs.Packet.{frame_bytes, request_packet, reply_packet, gratuitous_packet}
use Rattle.packet_rules.specs.declared.networks.Network.{Network}
use Rattle.packet_rules.specs.Networks.{lies_in, broadcast_mac}

-- a sender that is learnt: of the interface's network, another than its own and the virtual
-- address, with one station's hardware address
unfoldable pub is_learnable : Network → ArpPacket → Bool
is_learnable network p =
    lies_in p.sender_ip.0 network.interface && (not (p.sender_ip.0 == network.own_ip.0)
    && (not (p.sender_ip.0 == network.interface.virtual_ip.0)
    && (not (bytes_eq p.sender_mac.0 (replicate 6 0))
    && (slice_index p.sender_mac.0 0 % 2 == 0))))

-- a packet is for the interface (RFC 826, "Packet Reception": "Am I the target protocol address?"): its target is the
-- own or the virtual address, in whatever state the router is
abbrev pub is_for_us : Network → ArpPacket → Bool
is_for_us network p =
    (p.target_ip.0 == network.own_ip.0)
    || (p.target_ip.0 == network.interface.virtual_ip.0)

-- the virtual router's hardware address
abbrev pub virtual_of : Network → Mac
virtual_of network = record { 0 = virtual_mac network.interface.virtual_router }

-- the hardware address by which an interface answers for an address: for its own with its own, and
-- while it is Active for the virtual one with the virtual router's
unfoldable pub mac_here : Network → Bool → ℕ → Option Mac
mac_here network active ip =
    (if ip == network.own_ip.0 then Some network.own_mac
    else (if active && (ip == network.interface.virtual_ip.0) then Some (virtual_of network)
    else None))

abbrev pub answer_by : Network → Bool → Ip → Operation → Option Mac
answer_by network active ip Request = mac_here network active ip.0
answer_by network active ip Reply = None

-- the hardware address by which a packet is answered, where it is a request for such an address
abbrev pub answer_to : Network → Bool → ArpPacket → Option Mac
answer_to network active p = answer_by network active p.target_ip p.operation

-- the frame that answers a request: from the own address, whichever address answers
abbrev pub answer_frame : Network → ArpPacket → Mac → List ℕ
answer_frame network p mac = frame_bytes p.sender_mac.0 network.own_mac.0 (reply_packet mac p)

-- the frame that asks everyone for an address
abbrev pub request_frame : Network → Ip → List ℕ
request_frame network ip =
    frame_bytes broadcast_mac network.own_mac.0 (request_packet network.own_mac network.own_ip ip)

-- the frame that tells everyone where the virtual address is (RFC 9568, section 6.4.2)
abbrev pub gratuitous_frame : Network → List ℕ
gratuitous_frame network =
    frame_bytes broadcast_mac (virtual_of network).0
    (gratuitous_packet (virtual_of network) network.interface.virtual_ip)
