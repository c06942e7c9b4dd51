-- ARP packets for IPv4 over Ethernet (RFC 826).
use Rattle.std.specs.Prelude.{◌≡◌, ◌≤◌, ◌<◌, ◌⊎◌, ◌^◌, ℕ, Bool, ◌==◌, ◌||◌, ◌&&◌, not, nat_lt, List, [], ◌∷◌, ◌++◌, length, take, drop, slice_index, Option, Some, None, if◌then◌else◌}
use Rattle.byteorder.specs.Endian.{big_number, big_bytes}
use Rattle.frames.specs.Frame.{header_bytes}
use Rattle.addresses.specs.declared.ethernet.Mac.{Mac}
use Rattle.addresses.specs.declared.internet.Ip.{Ip}
use Rattle.arp.specs.declared.packets.field.TheConstants.{PACKET}
use Rattle.arp.specs.declared.packets.ArpFault.{ArpFault}
use Rattle.arp.specs.declared.packets.ArpFault.TheVariants.{TooShort, NotEthernetIpv4, BadOperation}
use Rattle.arp.specs.declared.packets.ArpPacket.{ArpPacket}
use Rattle.arp.specs.declared.packets.Operation.{Operation}
use Rattle.arp.specs.declared.packets.Operation.TheVariants.{Request, Reply}

-- hardware type 1, protocol type 0x0800, lengths 6 and 4
abbrev pub ethernet_ipv4 : List ℕ
ethernet_ipv4 = 0 ∷ 1 ∷ 8 ∷ 0 ∷ 6 ∷ 4 ∷ []

-- an operation's number in a packet
abbrev pub operation_number : Operation → ℕ
operation_number Request = 1
operation_number Reply = 2

-- the 28 bytes of a packet
abbrev pub packet_bytes : ArpPacket → List ℕ
packet_bytes p =
    ethernet_ipv4 ++ (0 ∷ operation_number p.operation ∷ [])
    ++ p.sender_mac.0 ++ big_bytes 4 p.sender_ip.0
    ++ p.target_mac.0 ++ big_bytes 4 p.target_ip.0

-- a packet can be spelled: its hardware addresses have 6 bytes, its addresses 32 bits
pub record IsPacket (p : ArpPacket) : Type 0 where
  pub sender_mac : length p.sender_mac.0 ≡ 6
  pub sender_ip : p.sender_ip.0 < 2 ^ 32
  pub target_mac : length p.target_mac.0 ≡ 6
  pub target_ip : p.target_ip.0 < 2 ^ 32

-- the types and lengths are those of IPv4 over Ethernet
abbrev pub is_ethernet_ipv4 : List ℕ → Bool
is_ethernet_ipv4 bytes =
    (big_number 2 bytes == 1) && ((big_number 2 (drop 2 bytes) == 0x0800)
    && ((slice_index bytes 4 == 6) && (slice_index bytes 5 == 4)))

-- why bytes are no ARP packet, None where they are one
abbrev pub arp_refusal : List ℕ → Option ArpFault
arp_refusal bytes =
    if nat_lt (length bytes) PACKET then Some TooShort
    else (if not (is_ethernet_ipv4 bytes) then Some NotEthernetIpv4
    else (if (big_number 2 (drop 6 bytes) == 1) || (big_number 2 (drop 6 bytes) == 2) then None
    else Some BadOperation))

-- bytes begin with an ARP packet for IPv4 over Ethernet
pub record IsArp (bytes : List ℕ) : Type 0 where
  pub whole : PACKET ≤ length bytes
  pub hardware_type : big_number 2 bytes ≡ 1
  pub protocol_type : big_number 2 (drop 2 bytes) ≡ 0x0800
  pub hardware_length : slice_index bytes 4 ≡ 6
  pub protocol_length : slice_index bytes 5 ≡ 4
  pub operation : (big_number 2 (drop 6 bytes) ≡ 1) ⊎ (big_number 2 (drop 6 bytes) ≡ 2)

-- the packet that bytes spell; later bytes are padding
abbrev pub packet_of : List ℕ → ArpPacket
packet_of bytes = record {
  operation = if big_number 2 (drop 6 bytes) == 1 then Request else Reply;
  sender_mac = record { 0 = take 6 (drop 8 bytes) };
  sender_ip = record { 0 = big_number 4 (drop 14 bytes) };
  target_mac = record { 0 = take 6 (drop 18 bytes) };
  target_ip = record { 0 = big_number 4 (drop 24 bytes) };
}

-- a frame that carries a packet, by its destination, its source and the packet
abbrev pub frame_bytes : List ℕ → List ℕ → ArpPacket → List ℕ
frame_bytes dst src p = header_bytes dst src 0x0806 ++ packet_bytes p

-- bytes begin with the bytes of a packet
abbrev pub Spells : List ℕ → ArpPacket → Type 0
Spells bytes p = (rest : List ℕ) × (bytes ≡ packet_bytes p ++ rest)

-- bytes are read as a packet
abbrev pub IsReadAs : List ℕ → ArpPacket → Type 0
IsReadAs bytes p = (arp_refusal bytes ≡ None) × (packet_of bytes ≡ p)

-- a request for the hardware address of `target`
abbrev pub request_packet : Mac → Ip → Ip → ArpPacket
request_packet mac ip target = record {
  operation = Request;
  sender_mac = mac;
  sender_ip = ip;
  target_mac = record { 0 = 0 ∷ 0 ∷ 0 ∷ 0 ∷ 0 ∷ 0 ∷ [] };
  target_ip = target;
}

-- the answer to a request: its target address has the hardware address `answer`
abbrev pub reply_packet : Mac → ArpPacket → ArpPacket
reply_packet answer asked = record {
  operation = Reply;
  sender_mac = answer;
  sender_ip = asked.target_ip;
  target_mac = asked.sender_mac;
  target_ip = asked.sender_ip;
}

-- a request for the sender's own address
abbrev pub gratuitous_packet : Mac → Ip → ArpPacket
gratuitous_packet mac ip = record {
  operation = Request;
  sender_mac = mac;
  sender_ip = ip;
  target_mac = mac;
  target_ip = ip;
}
