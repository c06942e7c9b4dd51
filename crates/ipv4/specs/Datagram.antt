-- UDP datagrams (RFC 768).
use Rattle.std.specs.Prelude.{◌≡◌, ◌≤◌, ◌<◌, ℕ, ◌-◌, Bool, ◌==◌, nat_lt, ◌||◌, List, length, take, drop}
use Rattle.ipv4.specs.Header.{word_at, header_of, payload_of}
use Rattle.ipv4.specs.declared.udp.field.TheConstants.{HEADER}

-- the fields of a UDP header
pub record Datagram : Type 0 where
  pub source_port : ℕ
  pub destination_port : ℕ
  pub udp_length : ℕ
  pub checksum : ℕ

-- the fields that a packet's payload spells
abbrev pub datagram_of : List ℕ → Datagram
datagram_of payload = record {
  source_port = word_at 0 payload;
  destination_port = word_at 2 payload;
  udp_length = word_at 4 payload;
  checksum = word_at 6 payload;
}

-- the bytes after the UDP header, as far as the datagram's length goes
abbrev pub data_of : List ℕ → List ℕ
data_of payload = take ((datagram_of payload).udp_length - HEADER) (drop HEADER payload)

-- a payload begins with a whole datagram between ports that aren't 0
pub record IsDatagram (payload : List ℕ) : Type 0 where
  pub long : HEADER ≤ length payload
  pub holds_header : HEADER ≤ (datagram_of payload).udp_length
  pub there : (datagram_of payload).udp_length ≤ length payload
  pub from : 0 < (datagram_of payload).source_port
  pub to : 0 < (datagram_of payload).destination_port

-- an IPv4 packet carries a datagram
pub record IsUdp (packet : List ℕ) : Type 0 where
  pub protocol : (header_of packet).protocol ≡ 17
  pub datagram : IsDatagram (payload_of packet)

-- a payload is no datagram
abbrev pub has_no_datagram : List ℕ → Bool
has_no_datagram payload =
    nat_lt (length payload) HEADER
    || nat_lt (datagram_of payload).udp_length HEADER
    || nat_lt (length payload) (datagram_of payload).udp_length
    || ((datagram_of payload).source_port == 0)
    || ((datagram_of payload).destination_port == 0)
