-- ICMP queries that are translated: an Echo and its Reply (RFC 792).
use Rattle.std.specs.Prelude.{◌≡◌, ◌≤◌, ◌<◌, ◌⊎◌, ℕ, Bool, ◌==◌, ◌&&◌, ◌||◌, not, nat_lt, List, [], ◌∷◌, length, drop, slice_index, Option}
use Rattle.ipv4.specs.Carried.{IsTransport}
use Rattle.ipv4.specs.Header.{word_at, header_of, payload_of}
use Rattle.ipv4.specs.Order.{first_fault}
use Rattle.icmp.specs.declared.errors.TheConstants.{PROTOCOL}
use Rattle.icmp.specs.declared.faults.IcmpFault.{IcmpFault}
use Rattle.icmp.specs.declared.faults.IcmpFault.TheVariants.{NotQuery, BadQuery}
use Rattle.icmp.specs.declared.kinds.Kind.{Kind}
use Rattle.icmp.specs.declared.kinds.Kind.TheVariants.{Echo, Reply}
use Rattle.icmp.specs.declared.queries.field.TheConstants.{HEADER}

-- the type of a kind's messages
abbrev pub kind_number : Kind → ℕ
kind_number Echo = 8
kind_number Reply = 0

-- the fields before the data
pub record Query : Type 0 where
  pub kind : ℕ
  pub code : ℕ
  pub checksum : ℕ
  pub identifier : ℕ
  pub sequence_number : ℕ

-- the code, and 0 where the message ends before it
abbrev pub code_of : List ℕ → ℕ
code_of message = slice_index message 1

-- the fields that a packet's payload spells
abbrev pub query_of : List ℕ → Query
query_of message = record {
  kind = slice_index message 0;
  code = code_of message;
  checksum = word_at 2 message;
  identifier = word_at 4 message;
  sequence_number = word_at 6 message;
}

-- the bytes after these fields
abbrev pub query_data : List ℕ → List ℕ
query_data message = drop HEADER message

-- a message has a whole header of this kind, with code 0 and an identifier other than 0, whatever the checksum is
pub record IsQuery (kind : Kind) (message : List ℕ) : Type 0 where
  pub long : HEADER ≤ length message
  pub type_is : (query_of message).kind ≡ kind_number kind
  pub code : (query_of message).code ≡ 0
  pub identifier : 0 < (query_of message).identifier

-- a message begins with a kind's type, and with code 0 where a second byte is there
abbrev pub begins_with : Kind → List ℕ → Bool
begins_with kind message =
    nat_lt 0 (length message) && (slice_index message 0 == kind_number kind) && (code_of message == 0)

-- a message's header is cut off, or its identifier is 0
abbrev pub has_no_identifier : List ℕ → Bool
has_no_identifier message = nat_lt (length message) HEADER || ((query_of message).identifier == 0)

-- why a message is no query of a kind, None where it is one
abbrev pub query_refusal : Kind → List ℕ → Option IcmpFault
query_refusal kind message =
    first_fault (
    (not (begins_with kind message), NotQuery)
    ∷ (has_no_identifier message, BadQuery)
    ∷ [])

-- an IPv4 packet carries a query of this kind
pub record IsQueryPacket (kind : Kind) (packet : List ℕ) : Type 0 where
  pub protocol : (header_of packet).protocol ≡ PROTOCOL
  pub query : IsQuery kind (payload_of packet)

-- why an IPv4 packet carries no query of a kind, None where it carries one
abbrev pub query_packet_refusal : Kind → List ℕ → Option IcmpFault
query_packet_refusal kind packet =
    first_fault (
    (not ((header_of packet).protocol == PROTOCOL), NotQuery)
    ∷ (not (begins_with kind (payload_of packet)), NotQuery)
    ∷ (has_no_identifier (payload_of packet), BadQuery)
    ∷ [])

-- an IPv4 packet can be translated: it carries a UDP datagram, a TCP segment or a query
abbrev pub IsTranslatable : List ℕ → Type 0
IsTranslatable packet = IsTransport packet ⊎ (IsQueryPacket Echo packet ⊎ IsQueryPacket Reply packet)
