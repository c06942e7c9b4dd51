-- What an ICMP error is after it is passed on, with checksums by whole sums (RFC 792, RFC 5508).
use Rattle.std.specs.Prelude.{ℕ, ◌+◌, ◌-◌, nat_le, if◌then◌else◌, List, ◌++◌, length, take, drop}
use Rattle.byteorder.specs.Endian.{big_bytes}
use Rattle.sums.specs.Sum.{checksum_of}
use Rattle.addresses.specs.declared.internet.Ip.{Ip}
use Rattle.addresses.specs.declared.transport.Port.{Port}
use Rattle.addresses.specs.declared.transport.Protocol.{Protocol}
use Rattle.addresses.specs.declared.transport.Protocol.TheVariants.{Icmp, Udp, Tcp}
use Rattle.ipv4.specs.Header.{word_at, header_of}
use Rattle.ipv4.specs.declared.flows.Flow.{Flow}
use Rattle.icmp.specs.Packet.{error_flow}
use Rattle.icmp.specs.Quoted.{behind}
use Rattle.icmp.specs.declared.packets.ErrorFlow.{ErrorFlow}
use Rattle.rewrite.specs.Sums.{flow_sum}
use Rattle.rewrite.specs.Translated.{with_word, header_with, header_bytes, rest_of, moved_sum, query_moved, udp_field}

-- bytes with another 32-bit number at a place
abbrev pub with_long : ℕ → ℕ → List ℕ → List ℕ
with_long at value bytes = take at bytes ++ big_bytes 4 value ++ drop (at + 4) bytes

-- bytes with a checksum at a place: the complement of the whole sum, in which the field is 0
abbrev pub checksummed : ℕ → List ℕ → List ℕ
checksummed at bytes = with_word at (checksum_of (with_word at 0 bytes)) (with_word at 0 bytes)

-- the header of the packet inside, with the addresses of its new flow and its checksum; the TTL stays
abbrev pub inside_header : Flow → List ℕ → List ℕ
inside_header new header =
    checksummed 10 (with_long 16 new.destination.0 (with_long 12 new.source.0 header))

-- the bytes after that header, with the ports of the new flow
abbrev pub ports_inside : Flow → List ℕ → List ℕ
ports_inside new bytes =
    with_word 2 new.destination_port.0 (with_word 0 new.source_port.0 bytes)

-- a transport checksum moved from the addresses and ports of `old` to those of `new`: the segment may be cut, so
-- nothing else of it is read
abbrev pub moved_field : Flow → Flow → ℕ → ℕ
moved_field old new t = moved_sum t (flow_sum old) (flow_sum new)

-- the bytes after a header inside, of UDP, with the ports of `new` and a checksum as right as it was
abbrev pub udp_inside : Flow → Flow → List ℕ → List ℕ
udp_inside old new bytes =
    let t = word_at 6 bytes in
    with_word 6 (udp_field t (moved_field old new t)) (ports_inside new bytes)

-- the bytes after a header inside, of TCP; where they end before the checksum does, only the ports change
abbrev pub tcp_inside : Flow → Flow → List ℕ → List ℕ
tcp_inside old new bytes =
    (if nat_le 18 (length bytes)
    then with_word 16 (moved_field old new (word_at 16 bytes)) (ports_inside new bytes)
    else ports_inside new bytes)

-- the bytes after the header of the packet inside, by protocol
abbrev pub behind_with : Protocol → Flow → Flow → List ℕ → List ℕ
behind_with Icmp = query_moved
behind_with Udp = udp_inside
behind_with Tcp = tcp_inside

-- the packet inside, with the flow `new`
abbrev pub inside_with : Flow → Flow → List ℕ → List ℕ
inside_with old new packet =
    inside_header new (take (header_of packet).header_length packet)
    ++ behind_with old.protocol old new (behind packet)

-- an error about that packet, with its checksum
abbrev pub message_with : Flow → Flow → List ℕ → List ℕ
message_with old new message =
    checksummed 2 (take 8 message ++ inside_with old new (drop 8 message))

-- the addresses of the error's own header; no ports belong to them
abbrev pub own_flow : ErrorFlow → Flow
own_flow flow = record flow.inside { source = flow.source; destination = flow.destination }

-- a packet that carries an error, with a new flow: its header, its message, and the padding unchanged
abbrev pub passed_on : ErrorFlow → List ℕ → List ℕ
passed_on new packet =
    let n = (header_of packet).total_length - (header_of packet).header_length in
    header_with (own_flow new) (header_bytes packet)
    ++ message_with (error_flow packet).inside new.inside (take n (rest_of packet))
    ++ drop n (rest_of packet)

-- an error sent as if from an address, about a packet to it and to a port
abbrev pub error_from : Ip → Port → ErrorFlow → ErrorFlow
error_from from port flow = record flow {
  source = from;
  inside = record flow.inside { destination = from; destination_port = port };
}

-- an error sent to an address, about a packet from it and from a port
abbrev pub error_to : Ip → Port → ErrorFlow → ErrorFlow
error_to to port flow = record flow {
  destination = to;
  inside = record flow.inside { source = to; source_port = port };
}

-- an error passed on outward: from the outside address, about a packet to it and to the pair's port
abbrev pub error_outward_of : Ip → Port → List ℕ → List ℕ
error_outward_of from port packet = passed_on (error_from from port (error_flow packet)) packet

-- an error passed on inward: to the pair's endpoint, about a packet from it
abbrev pub error_inward_of : Ip → Port → List ℕ → List ℕ
error_inward_of to port packet = passed_on (error_to to port (error_flow packet)) packet

-- an error passed back in: to the endpoint of the pair that the packet inside went by, from the outside
-- address, about a packet from that endpoint to the outside address and the other pair's port
abbrev pub error_hairpin_of : Ip → Port → Ip → Port → List ℕ → List ℕ
error_hairpin_of to port from from_port packet =
    passed_on (error_from from from_port (error_to to port (error_flow packet))) packet
