-- Which of the first steps of the packet path refuses a frame, and what a frame that passes is read
-- as.
use Rattle.std.specs.Prelude.{◌≤◌, ◌≡◌, ℕ, Bool, true, not, ◌==◌, ◌&&◌, ◌||◌, nat_le, Option, Some, None, is_none, Result, Ok, Err, List, length, slice_index, if◌then◌else◌}
use Rattle.std.specs.Option.{option_map}
use Rattle.frames.specs.Frame.{Frame, frame_of}
use Rattle.ipv4.specs.Header.{IsIpv4, header_of, payload_of, ipv4_refusal}
use Rattle.ipv4.specs.Carried.{transport_refusal as carried_refusal}
use Rattle.ipv4.specs.Flow.{packet_of as packet_read}
use Rattle.icmp.specs.declared.errors.TheConstants.{PROTOCOL}
use Rattle.icmp.specs.declared.faults.IcmpFault.{IcmpFault}
use Rattle.icmp.specs.declared.faults.IcmpFault.TheVariants.{NotError, BadError, NotQuery, BadQuery, NotAsked}
use Rattle.icmp.specs.Error.{has_error_kind}
use Rattle.icmp.specs.Packet.{IsErrorPacket, error_packet_of, is_about, packet_refusal}
use Rattle.icmp.specs.Query.{IsTranslatable, kind_number, query_packet_refusal}
use Rattle.ipv4.specs.declared.faults.Ipv4Fault as fault
use Rattle.ipv4.specs.declared.faults.Ipv4Fault.{Ipv4Fault}
use Rattle.arp.specs.Packet.{arp_refusal, packet_of}
use Rattle.vrrp_packet.specs.declared.Advert.{Advert as Message}
use Rattle.vrrp_packet.specs.Message.{advert_refusal, advert_of}
use Rattle.packet_rules.specs.declared.reasons.Reason.{Reason}
use Rattle.packet_rules.specs.declared.reasons.Reason.TheVariants.{ShortFrame, NotMine, BadHeader, BadLength, BadHeaderSum, Fragment, TtlOver, NotUdpTcp, BadTransport, BadArp, BadAdvert, NotUp, NoBinding, SourceRoute}
use Rattle.packet_rules.specs.declared.readings.Reading.{Reading}
use Rattle.packet_rules.specs.declared.readings.Reading.TheVariants.{Arp, Advert, Packet, Error, Asked}
use Rattle.packet_rules.specs.declared.networks.Network.{Network}
use Rattle.packet_rules.specs.declared.networks.Peer.{Peer}
use Rattle.frames.specs.declared.ethernet.TheConstants.{LONGEST_WHOLE}
use Rattle.packet_rules.specs.Asked.{IsAskable, asked_of, is_asked}
use Rattle.packet_rules.specs.Flows.{error_in, packet_in}
use Rattle.packet_rules.specs.Networks.{is_addressed, is_virtual}
use Rattle.packet_rules.specs.Queries.{kind_entering, kind_leaving}
use Rattle.nat_types.specs.declared.gateways.Side.{Side}

-- the reason for a fault of the packet
abbrev pub reason_of : Ipv4Fault → Reason
reason_of fault.TheVariants.TooShort = BadHeader
reason_of fault.TheVariants.BadVersion = BadHeader
reason_of fault.TheVariants.BadLength = BadLength
reason_of fault.TheVariants.BadHeaderSum = BadHeaderSum
reason_of fault.TheVariants.Fragment = Fragment
reason_of fault.TheVariants.NotUdpTcp = NotUdpTcp
reason_of fault.TheVariants.BadTransport = BadTransport
reason_of fault.TheVariants.SourceRoute = SourceRoute

-- the reason for a fault of an ICMP message; NotAsked drops no packet, since a packet that is no Echo to the box goes
-- on to the next step
abbrev pub reason_of_icmp : IcmpFault → Reason
reason_of_icmp NotError = NotUdpTcp
reason_of_icmp BadError = BadTransport
reason_of_icmp NotQuery = NotUdpTcp
reason_of_icmp BadQuery = BadTransport
reason_of_icmp NotAsked = NotUdpTcp

-- 1. a frame at hand has 14 to 65,549 bytes
unfoldable pub size_refusal : List ℕ → Option Reason
size_refusal bytes =
    (if nat_le 14 (length bytes) && nat_le (length bytes) LONGEST_WHOLE then None
    else Some ShortFrame)

-- 1. the gateway is up
unfoldable pub up_refusal : Bool → Option Reason
up_refusal up = (if up then None else Some NotUp)

-- 2. the frame is for the interface, and carries IPv4 or ARP
unfoldable pub destination_refusal : Network → Bool → Frame → Option Reason
destination_refusal network active frame =
    (if is_addressed network active frame.dst
    && ((frame.ethertype == 2048) || (frame.ethertype == 2054)) then None
    else Some NotMine)

-- 3. the ARP packet in these bytes, or BadArp where they are none
unfoldable pub arp_reading : List ℕ → Result Reading Reason
arp_reading body =
    (if is_none (arp_refusal body) then Ok (Arp (packet_of body)) else Err BadArp)

-- 4. the body begins with an IPv4 packet
unfoldable pub header_refusal : List ℕ → Option Reason
header_refusal packet = option_map reason_of (ipv4_refusal packet)

-- 5. the packet goes to VRRP: protocol 112, to 224.0.0.18
unfoldable pub is_vrrp : List ℕ → Bool
is_vrrp packet =
    ((header_of packet).protocol == 112) && ((header_of packet).destination == 0xe0000012)

-- 5. an advertisement from an address counts: of every gateway, or of the peer alone: it comes from the peer's address,
-- and has its priority or 0, and its interval
abbrev pub counts : Option Peer → ℕ → Message → Bool
counts None source advert = true
counts (Some peer) source advert =
    (source == peer.ip.0)
    && (((advert.priority == peer.priority) || (advert.priority == 0))
    && (advert.interval == peer.interval))

-- 5. an advertisement is of the interface's virtual router, and of another gateway whose advertisements count
unfoldable pub is_from_peer : Network → List ℕ → Bool
is_from_peer network packet =
    let advert = advert_of (payload_of packet) in
    let source = (header_of packet).source in
    (advert.router == network.interface.virtual_router)
    && (not (source == network.own_ip.0) && counts network.peer source advert)

-- 5. the advertisement in a packet, or BadAdvert where it carries none of another gateway for the virtual router
unfoldable pub advert_reading : Network → List ℕ → Result Reading Reason
advert_reading network packet =
    (if is_none (advert_refusal packet) && is_from_peer network packet
    then Ok (Advert (advert_of (payload_of packet)) (record { 0 = (header_of packet).source }))
    else Err BadAdvert)

-- 5. the frame of any other packet goes to the virtual router
unfoldable pub virtual_refusal : Network → Frame → Option Reason
virtual_refusal network frame = (if is_virtual network frame.dst then None else Some NotMine)

-- 6. the packet carries a UDP datagram or a TCP segment
unfoldable pub transport_refusal : List ℕ → Option Reason
transport_refusal packet = option_map reason_of (carried_refusal packet)

-- 6. a packet of ICMP carries a query of the kind that is taken at the side
unfoldable pub query_refusal : Side → List ℕ → Option Reason
query_refusal side packet =
    option_map reason_of_icmp (query_packet_refusal (kind_entering side) packet)

-- 6. a packet of ICMP carries an error about a packet that is translated
unfoldable pub error_refusal : List ℕ → Option Reason
error_refusal packet = option_map reason_of_icmp (packet_refusal packet)

-- 6. a packet's time to live isn't over
unfoldable pub ttl_refusal : List ℕ → Option Reason
ttl_refusal packet = (if nat_le 2 (header_of packet).ttl then None else Some TtlOver)

-- 7, 8. an error goes the other way than the packet that it is about: a query inside is of the kind that
-- leaves at the side
unfoldable pub about_refusal : Side → List ℕ → Option Reason
about_refusal side packet = (if is_about (kind_leaving side) packet then None else Some NoBinding)

-- a step, where the one before it doesn't refuse
abbrev pub unless : {X : Type 0} → Option Reason → Result X Reason → Result X Reason
unless None step = step
unless (Some reason) step = Err reason

-- the next step, where this one doesn't refuse
abbrev pub and_then : {X Y : Type 0} → Result X Reason → (X → Result Y Reason) → Result Y Reason
and_then (Ok x) next = next x
and_then (Err reason) next = Err reason

-- 6. the reading of a UDP or TCP packet
unfoldable pub transport_reading : List ℕ → Result Reading Reason
transport_reading packet =
    unless (transport_refusal packet) (
    unless (ttl_refusal packet) (
    Ok (Packet (packet_read packet))))

-- 6. the reading of an ICMP query
unfoldable pub query_reading : Side → List ℕ → Result Reading Reason
query_reading side packet =
    unless (query_refusal side packet) (
    unless (ttl_refusal packet) (
    Ok (Packet (packet_read packet))))

-- 6. the reading of an ICMP error
unfoldable pub error_reading : Side → List ℕ → Result Reading Reason
error_reading side packet =
    unless (error_refusal packet) (
    unless (ttl_refusal packet) (
    unless (about_refusal side packet) (
    Ok (Error (error_packet_of packet)))))

-- 6. the reading of a packet of ICMP
unfoldable pub icmp_reading : Side → List ℕ → Result Reading Reason
icmp_reading side packet =
    (if has_error_kind (payload_of packet) then error_reading side packet
    else query_reading side packet)

-- 5, 6. the reading of a packet that isn't VRRP's
unfoldable pub packet_reading : Side → Network → Frame → Result Reading Reason
packet_reading side network frame =
    unless (virtual_refusal network frame) (
    (if (header_of frame.body).protocol == PROTOCOL then icmp_reading side frame.body
    else transport_reading frame.body))

-- 5, 6. the reading of a packet that is no Echo to the box
unfoldable pub other_reading : Side → Network → Frame → Result Reading Reason
other_reading side network frame =
    (if is_vrrp frame.body then advert_reading network frame.body
    else packet_reading side network frame)

-- 4 to 6. the reading of an IPv4 packet; an Echo to the box is taken before step 5
unfoldable pub ipv4_reading : Side → Network → Bool → Frame → Result Reading Reason
ipv4_reading side network active frame =
    unless (header_refusal frame.body) (
    (if is_asked network active frame then Ok (Asked (asked_of frame.body))
    else other_reading side network frame))

-- 3 to 6. the reading of what a frame carries
unfoldable pub body_reading : Side → Network → Bool → Frame → Result Reading Reason
body_reading side network active frame =
    (if frame.ethertype == 2054 then arp_reading frame.body
    else ipv4_reading side network active frame)

-- what a frame at hand is read as that is of this side, by a gateway that is up or not, at an interface that is Active or
-- not; or the reason of the first step that refuses it
abbrev pub reading_of : Side → Network → Bool → Bool → List ℕ → Result Reading Reason
reading_of side network active up bytes =
    let frame = frame_of bytes in
    unless (size_refusal bytes) (
    unless (up_refusal up) (
    unless (destination_refusal network active frame) (
    body_reading side network active frame)))

-- where the packet of a frame that came in at this side is a query, the query is of the side's kind
abbrev pub IsOfSide : Side → List ℕ → Type 0
IsOfSide side bytes =
    let packet = (frame_of bytes).body in
    (header_of packet).protocol ≡ PROTOCOL
    → slice_index (payload_of packet) 0 ≡ kind_number (kind_entering side)

-- what is known of a frame whose packet passes, and what a translation requires
pub record IsForwardable (bytes : List ℕ) : Type 0 where
  pub whole : 14 ≤ length bytes
  pub short : length bytes ≤ LONGEST_WHOLE
  pub ipv4 : IsIpv4 (frame_of bytes).body
  pub translatable : IsTranslatable (frame_of bytes).body
  pub ttl : 2 ≤ (header_of (frame_of bytes).body).ttl

-- what is known of a frame whose error passes, and what its passing on requires
pub record IsPassable (bytes : List ℕ) : Type 0 where
  pub whole : 14 ≤ length bytes
  pub short : length bytes ≤ LONGEST_WHOLE
  pub ipv4 : IsIpv4 (frame_of bytes).body
  pub error : IsErrorPacket (frame_of bytes).body
  pub ttl : 2 ≤ (header_of (frame_of bytes).body).ttl

-- what is known of a frame by its reading: of an ARP packet the sender's six bytes, of an advertisement the interval
abbrev pub Carries : Side → List ℕ → Reading → Type 0
Carries side bytes (Arp packet) = length packet.sender_mac.0 ≡ 6
Carries side bytes (Advert advert from) = (1 ≤ advert.interval) × (advert.interval ≤ 4095)
Carries side bytes (Packet packet) =
    IsForwardable bytes × ((packet ≡ packet_in bytes) × IsOfSide side bytes)
Carries side bytes (Error packet) = IsPassable bytes × (packet ≡ error_in bytes)
Carries side bytes (Asked asked) = IsAskable bytes × (asked ≡ asked_of (frame_of bytes).body)
