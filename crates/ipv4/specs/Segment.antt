-- TCP segments (RFC 9293, section 3.1).
use Rattle.std.specs.Prelude.{◌≡◌, ◌≤◌, ◌<◌, ℕ, ◌-◌, ◌*◌, ◌/◌, ◌%◌, Bool, ◌==◌, nat_lt, not, ◌||◌, List, length, take, drop, slice_index}
use Rattle.byteorder.specs.Endian.{big_number}
use Rattle.addresses.specs.declared.transport.TcpFlags.{TcpFlags}
use Rattle.ipv4.specs.Header.{word_at, header_of, payload_of}
use Rattle.ipv4.specs.declared.tcp.TheConstants.{FIN, SYN, RST, ACK}
use Rattle.ipv4.specs.declared.tcp.field.TheConstants.{FIXED}

-- the fields of a TCP header, its length in bytes
pub record Segment : Type 0 where
  pub source_port : ℕ
  pub destination_port : ℕ
  pub sequence : ℕ
  pub acknowledgement : ℕ
  pub header_length : ℕ
  pub flags : TcpFlags
  pub window : ℕ
  pub checksum : ℕ
  pub urgent : ℕ

-- the flags that the byte of control bits sets
abbrev pub flags_of : ℕ → TcpFlags
flags_of bits = record {
  fin = not (bits / FIN % 2 == 0);
  syn = not (bits / SYN % 2 == 0);
  rst = not (bits / RST % 2 == 0);
  ack = not (bits / ACK % 2 == 0);
}

-- the fields that a packet's payload spells: the data offset counts words of 4 bytes
abbrev pub segment_of : List ℕ → Segment
segment_of payload = record {
  source_port = word_at 0 payload;
  destination_port = word_at 2 payload;
  sequence = big_number 4 (drop 4 payload);
  acknowledgement = big_number 4 (drop 8 payload);
  header_length = 4 * (slice_index payload 12 / 16);
  flags = flags_of (slice_index payload 13);
  window = word_at 14 payload;
  checksum = word_at 16 payload;
  urgent = word_at 18 payload;
}

-- the bytes of the header after its first 20
abbrev pub segment_options : List ℕ → List ℕ
segment_options payload = take ((segment_of payload).header_length - FIXED) (drop FIXED payload)

-- the bytes after the header
abbrev pub segment_data : List ℕ → List ℕ
segment_data payload = drop (segment_of payload).header_length payload

-- a payload is a segment between ports that aren't 0, with a data offset of at least 5 words that lies inside the
-- payload
pub record IsSegment (payload : List ℕ) : Type 0 where
  pub long : FIXED ≤ length payload
  pub holds_fields : FIXED ≤ (segment_of payload).header_length
  pub there : (segment_of payload).header_length ≤ length payload
  pub from : 0 < (segment_of payload).source_port
  pub to : 0 < (segment_of payload).destination_port

-- an IPv4 packet carries a segment
pub record IsTcp (packet : List ℕ) : Type 0 where
  pub protocol : (header_of packet).protocol ≡ 6
  pub segment : IsSegment (payload_of packet)

-- a payload is no segment
abbrev pub has_no_segment : List ℕ → Bool
has_no_segment payload =
    nat_lt (length payload) FIXED
    || nat_lt (segment_of payload).header_length FIXED
    || nat_lt (length payload) (segment_of payload).header_length
    || ((segment_of payload).source_port == 0)
    || ((segment_of payload).destination_port == 0)
