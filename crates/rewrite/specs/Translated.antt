-- What a translated packet is, with checksums by whole sums (RFC 791, RFC 792, RFC 768,
-- RFC 9293, RFC 1624).
use Rattle.std.specs.Prelude.{ℕ, ◌+◌, ◌-◌, ◌*◌, ◌%◌, ◌==◌, if◌then◌else◌, List, [], ◌∷◌, ◌++◌, length, take, drop, slice_index}
use Rattle.byteorder.specs.Endian.{big_bytes}
use Rattle.sums.specs.Sum.{word_sum, checksum_of}
use Rattle.addresses.specs.declared.internet.Ip.{Ip}
use Rattle.addresses.specs.declared.transport.Port.{Port}
use Rattle.addresses.specs.declared.transport.Protocol.{Protocol}
use Rattle.addresses.specs.declared.transport.Protocol.TheVariants.{Icmp, Udp, Tcp}
use Rattle.ipv4.specs.Header.{word_at, header_of, payload_of}
use Rattle.ipv4.specs.Datagram.{datagram_of}
use Rattle.ipv4.specs.Flow.{protocol_of, flow_of}
use Rattle.ipv4.specs.declared.flows.Flow.{Flow}
use Rattle.rewrite.specs.Sums.{new_identifier}

-- bytes with another 16-bit number at a place
abbrev pub with_word : ℕ → ℕ → List ℕ → List ℕ
with_word at value bytes = take at bytes ++ big_bytes 2 value ++ drop (at + 2) bytes

-- the addresses one after the other
abbrev pub address_bytes : Flow → List ℕ
address_bytes flow = big_bytes 4 flow.source.0 ++ big_bytes 4 flow.destination.0

-- the ports one after the other
abbrev pub port_bytes : Flow → List ℕ
port_bytes flow = big_bytes 2 flow.source_port.0 ++ big_bytes 2 flow.destination_port.0

-- an IPv4 header with these addresses, the TTL lowered by one and a checksum field of 0
abbrev pub header_unsummed : Flow → List ℕ → List ℕ
header_unsummed flow header =
    take 8 header
    ++ ((slice_index header 8 - 1) ∷ slice_index header 9 ∷ 0 ∷ 0 ∷ [])
    ++ address_bytes flow
    ++ drop 20 header

-- that header with its checksum, the complement of the whole sum
abbrev pub header_with : Flow → List ℕ → List ℕ
header_with flow header =
    with_word 10 (checksum_of (header_unsummed flow header)) (header_unsummed flow header)

-- a transport segment with these ports
abbrev pub segment_with_ports : Flow → List ℕ → List ℕ
segment_with_ports flow segment = port_bytes flow ++ drop 4 segment

-- what UDP (protocol 17) and TCP (6) put in front of a segment for the sum, its length included
abbrev pub pseudo_header : Flow → ℕ → List ℕ → List ℕ
pseudo_header flow protocol segment =
    address_bytes flow ++ (0 ∷ protocol ∷ []) ++ big_bytes 2 (length segment)

-- what a transport checksum covers
abbrev pub summed : Flow → ℕ → List ℕ → List ℕ
summed flow protocol segment = pseudo_header flow protocol segment ++ segment

-- the whole sum of pseudo-header and UDP segment with the checksum field as 0
abbrev pub udp_sum : Flow → List ℕ → ℕ
udp_sum flow segment = word_sum (pseudo_header flow 17 segment ++ with_word 6 0 segment)

-- the whole sum of pseudo-header and TCP segment with the checksum field, at byte 16, as 0
abbrev pub tcp_sum : Flow → List ℕ → ℕ
tcp_sum flow segment = word_sum (pseudo_header flow 6 segment ++ with_word 16 0 segment)

-- the number t2 from 0 to 65534 for which t2 + s2 = t + s modulo 65535, where 65534 is -1
abbrev pub moved_sum : ℕ → ℕ → ℕ → ℕ
moved_sum t s s2 = (t + s + 65534 * s2) % 65535

-- a UDP checksum field: 0 means that there is no checksum and stays, and a sum of 0 is written as all ones
abbrev pub udp_field : ℕ → ℕ → ℕ
udp_field t t2 = (if t == 0 then 0 else (if t2 == 0 then 65535 else t2))

-- the checksum field of a UDP segment of the flow `old` that gets the ports of `new`: as right as it was
abbrev pub udp_checksum : Flow → Flow → List ℕ → ℕ
udp_checksum old new segment =
    let t = word_at 6 segment in
    udp_field t (moved_sum t (udp_sum old segment) (udp_sum new (segment_with_ports new segment)))

-- the checksum field of such a TCP segment, where 0 is a sum as any other
abbrev pub tcp_checksum : Flow → Flow → List ℕ → ℕ
tcp_checksum old new segment =
    let t = word_at 16 segment in
    moved_sum t (tcp_sum old segment) (tcp_sum new (segment_with_ports new segment))

-- a UDP segment with the ports of `new` and its checksum
abbrev pub udp_with : Flow → Flow → List ℕ → List ℕ
udp_with old new segment =
    with_word 6 (udp_checksum old new segment) (segment_with_ports new segment)

-- a TCP segment with the ports of `new` and its checksum
abbrev pub tcp_with : Flow → Flow → List ℕ → List ℕ
tcp_with old new segment =
    with_word 16 (tcp_checksum old new segment) (segment_with_ports new segment)

-- the whole sum of a query with the checksum field as 0; there is no pseudo-header
abbrev pub query_sum : List ℕ → ℕ
query_sum message = word_sum (with_word 2 0 message)

-- a query with the identifier of the new flow
abbrev pub query_identified : Flow → Flow → List ℕ → List ℕ
query_identified old new message = with_word 4 (new_identifier old new) message

-- the checksum of that query, where 0 is a sum as any other
abbrev pub query_checksum : Flow → Flow → List ℕ → ℕ
query_checksum old new message =
    moved_sum (word_at 2 message) (query_sum message) (query_sum (query_identified old new message))

-- the beginning of a query, its checksum moved from the identifier of `old` to that of `new`: the query may be cut, so
-- nothing else of it is read
abbrev pub query_moved : Flow → Flow → List ℕ → List ℕ
query_moved old new message =
    with_word 2 (moved_sum (word_at 2 message) old.source_port.0 (new_identifier old new))
    (query_identified old new message)

-- a query with that identifier and its checksum
abbrev pub query_with : Flow → Flow → List ℕ → List ℕ
query_with old new message =
    with_word 2 (query_checksum old new message) (query_identified old new message)

-- a segment or query with the ports or the identifier of the new flow, and its checksum
abbrev pub segment_with : Protocol → Flow → Flow → List ℕ → List ℕ
segment_with Icmp = query_with
segment_with Udp = udp_with
segment_with Tcp = tcp_with

-- the bytes of a segment or query in a payload: a UDP segment is as long as its length field says
abbrev pub length_in : Protocol → List ℕ → ℕ
length_in Icmp payload = length payload
length_in Udp payload = (datagram_of payload).udp_length
length_in Tcp payload = length payload

-- the header's bytes, options included
abbrev pub header_bytes : List ℕ → List ℕ
header_bytes packet = take (header_of packet).header_length packet

-- the bytes after the header, padding included
abbrev pub rest_of : List ℕ → List ℕ
rest_of packet = drop (header_of packet).header_length packet

-- a packet with the flow `new`: its header, its segment, and the bytes after the segment unchanged
abbrev pub translated : Flow → List ℕ → List ℕ
translated new packet =
    let n = length_in (protocol_of packet) (payload_of packet) in
    header_with new (header_bytes packet)
    ++ segment_with (protocol_of packet) (flow_of packet) new (take n (rest_of packet))
    ++ drop n (rest_of packet)

-- a packet sent on outward: from the outside address and the pair's port
abbrev pub outward_of : Ip → Port → List ℕ → List ℕ
outward_of from port packet =
    translated (record (flow_of packet) { source = from; source_port = port }) packet

-- a packet sent on inward: to the pair's endpoint
abbrev pub inward_of : Ip → Port → List ℕ → List ℕ
inward_of to port packet =
    translated (record (flow_of packet) { destination = to; destination_port = port }) packet

-- a packet sent back in: from the outside address and the sender's own port, to the other pair's
-- endpoint
abbrev pub hairpin_of : Ip → Port → Ip → Port → List ℕ → List ℕ
hairpin_of from port to to_port packet =
    translated (record (flow_of packet) {
      source = from;
      source_port = port;
      destination = to;
      destination_port = to_port;
    }) packet
