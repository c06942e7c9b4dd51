-- UDP datagrams and TCP segments, as packets carry them.
use Rattle.std.specs.Prelude.{◌⊎◌, Bool, ◌==◌, not, ◌&&◌, List, [], ◌∷◌, ℕ, Option, if◌then◌else◌}
use Rattle.addresses.specs.declared.transport.Protocol.{Protocol}
use Rattle.addresses.specs.declared.transport.Protocol.TheVariants.{Tcp as IsOfTcp, Udp as IsOfUdp}
use Rattle.ipv4.specs.Order.{first_fault}
use Rattle.ipv4.specs.Header.{header_of, payload_of}
use Rattle.ipv4.specs.Datagram.{IsUdp, has_no_datagram}
use Rattle.ipv4.specs.Segment.{IsTcp, has_no_segment}
use Rattle.ipv4.specs.declared.faults.Ipv4Fault.{Ipv4Fault}
use Rattle.ipv4.specs.declared.faults.Ipv4Fault.TheVariants.{NotUdpTcp, BadTransport}
use Rattle.ipv4.specs.declared.transports.Transport.{Transport}
use Rattle.ipv4.specs.declared.transports.Transport.TheVariants.{Udp, Tcp}

-- an IPv4 packet carries a UDP datagram or a TCP segment
abbrev pub IsTransport : List ℕ → Type 0
IsTransport packet = IsUdp packet ⊎ IsTcp packet

-- an IPv4 packet carries neither UDP nor TCP
abbrev pub carries_neither : List ℕ → Bool
carries_neither packet =
    not ((header_of packet).protocol == 6) && not ((header_of packet).protocol == 17)

-- the payload of a UDP or TCP packet isn't what its protocol requires
abbrev pub has_no_transport : List ℕ → Bool
has_no_transport packet =
    (if (header_of packet).protocol == 6 then has_no_segment (payload_of packet)
    else has_no_datagram (payload_of packet))

-- why an IPv4 packet carries neither a UDP datagram nor a TCP segment, None where it carries one
abbrev pub transport_refusal : List ℕ → Option Ipv4Fault
transport_refusal packet =
    first_fault (
    (carries_neither packet, NotUdpTcp)
    ∷ (has_no_transport packet, BadTransport)
    ∷ [])

-- the bytes that a view of a datagram or a segment shows
abbrev pub carried_bytes : Transport → List ℕ
carried_bytes (Udp datagram) = datagram.bytes.now
carried_bytes (Tcp segment) = segment.bytes.now

-- which of the two protocols a view shows
abbrev pub carried_protocol : Transport → Protocol
carried_protocol (Udp datagram) = IsOfUdp
carried_protocol (Tcp segment) = IsOfTcp
