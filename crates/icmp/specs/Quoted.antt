-- The packet inside an ICMP error, as much of it as was sent (RFC 792).
use Rattle.std.specs.Prelude.{◌≡◌, ◌≤◌, ◌<◌, ℕ, ◌+◌, Bool, false, IsTrue, ◌==◌, nat_lt, not, ◌&&◌, ◌||◌, List, length, take, drop}
use Rattle.sums.specs.Sum.{IsRight}
use Rattle.ipv4.specs.Flow.{protocol_of, source_place, destination_place}
use Rattle.ipv4.specs.Header.{word_at, header_of, has_wrong_sum}
use Rattle.ipv4.specs.declared.flows.Flow.{Flow}
use Rattle.icmp.specs.Query.{begins_with}
use Rattle.icmp.specs.declared.kinds.Kind.{Kind}
use Rattle.icmp.specs.declared.kinds.Kind.TheVariants.{Echo, Reply}
use Rattle.icmp.specs.declared.quoted.field.TheConstants.{FIXED, BEHIND}

-- the bytes after the header
abbrev pub behind : List ℕ → List ℕ
behind packet = drop (header_of packet).header_length packet

-- a protocol that is translated: ICMP, TCP or UDP
abbrev pub is_translated : ℕ → Bool
is_translated protocol = (protocol == 1) || (protocol == 6) || (protocol == 17)

-- the packet is of ICMP, but doesn't begin as a query
abbrev pub has_no_query : List ℕ → Bool
has_no_query packet =
    ((header_of packet).protocol == 1)
    && not (begins_with Echo (behind packet))
    && not (begins_with Reply (behind packet))

-- the packet may be a query of this kind: it is of another protocol, or begins as one
abbrev pub may_be : Kind → List ℕ → Bool
may_be kind packet = not ((header_of packet).protocol == 1) || begins_with kind (behind packet)

-- the ports after the header; of a query the identifier is both
abbrev pub port_from : List ℕ → ℕ
port_from packet = word_at (source_place (protocol_of packet)) (behind packet)

abbrev pub port_to : List ℕ → ℕ
port_to packet = word_at (destination_place (protocol_of packet)) (behind packet)

-- a whole and right header of no later fragment, 8 bytes or more after it, and UDP, TCP or a query between ports that
-- aren't 0; the total length isn't tested
pub record IsQuoted (packet : List ℕ) : Type 0 where
  pub long : FIXED ≤ length packet
  pub version : (header_of packet).version ≡ 4
  pub holds_fields : FIXED ≤ (header_of packet).header_length
  pub there : (header_of packet).header_length + BEHIND ≤ length packet
  pub sum : IsRight (take (header_of packet).header_length packet)
  pub first : (header_of packet).fragment_offset ≡ 0
  pub protocol : IsTrue (is_translated (header_of packet).protocol)
  pub query : has_no_query packet ≡ false
  pub from : 0 < port_from packet
  pub to : 0 < port_to packet

-- the packet's header is cut off, is wrong, or is of a later fragment or of a protocol that isn't translated
abbrev pub has_no_header : List ℕ → Bool
has_no_header packet =
    nat_lt (length packet) FIXED
    || not ((header_of packet).version == 4)
    || nat_lt (header_of packet).header_length FIXED
    || nat_lt (length packet) ((header_of packet).header_length + BEHIND)
    || has_wrong_sum (take (header_of packet).header_length packet)
    || not ((header_of packet).fragment_offset == 0)
    || not (is_translated (header_of packet).protocol)

-- a port is 0
abbrev pub has_no_ports : List ℕ → Bool
has_no_ports packet = (port_from packet == 0) || (port_to packet == 0)

-- there is no packet inside whose flow can be read
abbrev pub has_no_packet : List ℕ → Bool
has_no_packet packet = has_no_header packet || has_no_query packet || has_no_ports packet

-- from where to where the packet went, and by which protocol
abbrev pub quoted_flow : List ℕ → Flow
quoted_flow packet = record {
  protocol = protocol_of packet;
  source = record { 0 = (header_of packet).source };
  source_port = record { 0 = port_from packet };
  destination = record { 0 = (header_of packet).destination };
  destination_port = record { 0 = port_to packet };
}
