-- The packets that the box itself sends: Echo Reply, Time Exceeded and Fragmentation Needed (RFC 792, RFC 1191).
use Rattle.std.specs.Prelude.{◌≡◌, ℕ, ◌+◌, List, [], ◌∷◌, ◌++◌, length, take}
use Rattle.byteorder.specs.Endian.{big_bytes}
use Rattle.sums.specs.Sum.{IsRight, checksum_of}
use Rattle.ipv4.specs.Flow.{flow_of}
use Rattle.ipv4.specs.Header.{header_of, payload_of, IsIpv4}
use Rattle.icmp.specs.Error.{message_of, inside_of, IsError}
use Rattle.icmp.specs.Query.{kind_number, query_of, query_data}
use Rattle.icmp.specs.Quoted.{quoted_flow}
use Rattle.icmp.specs.declared.errors.TheConstants.{PROTOCOL, TIME_EXCEEDED, UNREACHABLE}
use Rattle.icmp.specs.declared.kinds.Kind.TheVariants.{Reply}
use Rattle.icmp.specs.declared.own.Cutting.{Cutting}
use Rattle.icmp.specs.declared.own.Cutting.TheVariants.{Forbidden, Allowed}
use Rattle.icmp.specs.declared.own.TheConstants.{DONT_FRAGMENT, TTL, CONTROL, FRAGMENTATION_NEEDED, QUOTED}
use Rattle.icmp.specs.declared.own.layout.TheConstants.{HEADER}

-- the identification of a packet of the box: one that is never cut needs none (RFC 6864, section 4.1)
abbrev pub identification_of : Cutting → ℕ
identification_of Forbidden = 0
identification_of (Allowed identification) = identification

-- its flags, with the fragment offset 0: Don't Fragment alone, or none (RFC 791, section 3.1)
abbrev pub flags_of : Cutting → ℕ
flags_of Forbidden = DONT_FRAGMENT
flags_of (Allowed identification) = 0

-- a header without options and with this checksum
abbrev pub header_with : Cutting → (checksum service total from to : ℕ) → List ℕ
header_with cutting checksum service total from to =
    (0x45 ∷ service ∷ []) ++ big_bytes 2 total
    ++ big_bytes 2 (identification_of cutting) ++ big_bytes 2 (flags_of cutting)
    ++ (TTL ∷ PROTOCOL ∷ []) ++ big_bytes 2 checksum ++ big_bytes 4 from ++ big_bytes 4 to

-- a header without options whose checksum is the complement of its whole sum
abbrev pub own_header : Cutting → (service total from to : ℕ) → List ℕ
own_header cutting service total from to =
    header_with cutting (checksum_of (header_with cutting 0 service total from to))
    service total from to

-- the bytes before a message's data: type, code, checksum and two words
abbrev pub head_with : (checksum kind code first second : ℕ) → List ℕ
head_with checksum kind code first second =
    (kind ∷ code ∷ []) ++ big_bytes 2 checksum ++ big_bytes 2 first ++ big_bytes 2 second

-- the bytes before these data, with the complement of the whole sum over the message as the checksum
abbrev pub own_head : (kind code first second : ℕ) → List ℕ → List ℕ
own_head kind code first second bytes =
    head_with (checksum_of (head_with 0 kind code first second ++ bytes)) kind code first second

abbrev pub own_message : (kind code first second : ℕ) → List ℕ → List ℕ
own_message kind code first second bytes = own_head kind code first second bytes ++ bytes

abbrev pub own_packet : Cutting → (service from to : ℕ) → List ℕ → List ℕ
own_packet cutting service from to message =
    own_header cutting service (HEADER + length message) from to ++ message

-- the Reply to an Echo: identifier, sequence number and data as they came
abbrev pub reply_message : List ℕ → List ℕ
reply_message ask =
    own_message (kind_number Reply) 0 (query_of ask).identifier (query_of ask).sequence_number
    (query_data ask)

abbrev pub reply_packet : Cutting → List ℕ → (from to : ℕ) → List ℕ
reply_packet cutting ask from to = own_packet cutting 0 from to (reply_message ask)

-- a packet as it came, without padding, cut to what a packet of 576 bytes can hold of it (RFC 1812, section 4.3.2.3)
abbrev pub quoted : List ℕ → List ℕ
quoted packet = take QUOTED (take (header_of packet).total_length packet)

abbrev pub exceeded_message : List ℕ → List ℕ
exceeded_message packet = own_message TIME_EXCEEDED 0 0 0 (quoted packet)

-- Fragmentation Needed says how many bytes a packet may have (RFC 1191, section 4)
abbrev pub too_long_message : List ℕ → ℕ → List ℕ
too_long_message packet mtu = own_message UNREACHABLE FRAGMENTATION_NEEDED 0 mtu (quoted packet)

-- errors have the precedence of network control (RFC 1812, section 4.3.2.5), and are never cut
abbrev pub exceeded_packet : List ℕ → (from to : ℕ) → List ℕ
exceeded_packet packet from to = own_packet Forbidden CONTROL from to (exceeded_message packet)

abbrev pub too_long_packet : List ℕ → (mtu from to : ℕ) → List ℕ
too_long_packet packet mtu from to =
    own_packet Forbidden CONTROL from to (too_long_message packet mtu)

-- a packet of the box carries this message, and its header has these values
pub record IsOwnPacket (cutting : Cutting) (service from to : ℕ) (message packet : List ℕ)
    : Type 0 where
  pub right : IsIpv4 packet
  pub header_length : (header_of packet).header_length ≡ 20
  pub type_of_service : (header_of packet).type_of_service ≡ service
  pub total_length : (header_of packet).total_length ≡ length packet
  pub identification : (header_of packet).identification ≡ identification_of cutting
  pub flags_word : (header_of packet).flags_word ≡ flags_of cutting
  pub ttl : (header_of packet).ttl ≡ 64
  pub protocol : (header_of packet).protocol ≡ 1
  pub source : (header_of packet).source ≡ from
  pub destination : (header_of packet).destination ≡ to
  pub payload : payload_of packet ≡ message

-- a message answers an Echo: its type and its checksum are a Reply's, and all else is as it came
pub record IsReplyTo (ask message : List ℕ) : Type 0 where
  pub type_is : (query_of message).kind ≡ 0
  pub code : (query_of message).code ≡ 0
  pub sum : IsRight message
  pub identifier : (query_of message).identifier ≡ (query_of ask).identifier
  pub sequence_number : (query_of message).sequence_number ≡ (query_of ask).sequence_number
  pub carried : query_data message ≡ query_data ask

-- a message is an error of this type, code and parameter about a packet, and the packet inside has that packet's flow
pub record IsErrorAbout (packet : List ℕ) (kind code parameter : ℕ) (message : List ℕ) : Type 0 where
  pub error : IsError message
  pub kind_is : (message_of message).kind ≡ kind
  pub code_is : (message_of message).code ≡ code
  pub parameter_is : (message_of message).parameter ≡ parameter
  pub inside : inside_of message ≡ quoted packet
  pub flow : quoted_flow (inside_of message) ≡ flow_of packet
