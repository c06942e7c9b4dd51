use Rattle.std.proofs.Common.{◌≡◌, ◌≤◌, ◌+◌, drop, length, take, ap, sym, ◌∙◌, arith}
use Rattle.addresses.specs.declared.transport.Protocol.{Protocol}
use Rattle.ipv4.specs.Header.{header_of, payload_of, word_at}
use Rattle.ipv4.specs.Flow.{destination_place, flow_of, protocol_of, source_place}
use Rattle.rewrite.specs.Translated.{header_with, length_in, segment_with}
use Rattle.rewrite.proofs.Parts.{header-ready, joined-parts, places-fit, word_at-segment, shortest-ports}
use Rattle.rewrite.proofs.packets.rewrite_packet.Goals as goal

pub segment_length-length-requires-clause-protocol : goal.segment_length-length-requires-clause-protocol
segment_length-length-requires-clause-protocol c = ap (λ f. f.protocol) c.requires.flow

pub rewrite_segment-requires-clause-source_port : goal.rewrite_segment-requires-clause-source_port
rewrite_segment-requires-clause-source_port c =
    let packet = c.args.packet.now in
    let n = c.segment_length-length.result in
    let rest = c.split_at_mut-header.result.1.now in
    let is_rest : rest ≡ drop (header_of packet).header_length packet = c.split_at_mut-header.ensures.back ∙ ap (λ h. drop h packet) c.header_length.ensures in
    let place = source_place (protocol_of packet) in
    let within : place + 2 ≤ 8 = (places-fit (protocol_of packet)).0 in
    let ports : 8 ≤ n = shortest-ports (protocol_of packet) n c.segment_length-length.ensures.low in
    let in_payload : place + 2 ≤ length (payload_of packet) = omega (arith, within, ports, c.segment_length-length.ensures.high) in
    let in_segment : place + 2 ≤ n = omega (arith, within, ports) in
    ap (λ f. f.source_port.0) c.requires.flow
    ∙ (word_at-segment place n packet rest is_rest in_payload in_segment
    ∙ ap (λ (p : Protocol). word_at (source_place p) (take n rest)) (sym (ap (λ f. f.protocol) c.requires.flow)))

pub rewrite_segment-requires-clause-destination_port : goal.rewrite_segment-requires-clause-destination_port
rewrite_segment-requires-clause-destination_port c =
    let packet = c.args.packet.now in
    let n = c.segment_length-length.result in
    let rest = c.split_at_mut-header.result.1.now in
    let is_rest : rest ≡ drop (header_of packet).header_length packet = c.split_at_mut-header.ensures.back ∙ ap (λ h. drop h packet) c.header_length.ensures in
    let place = destination_place (protocol_of packet) in
    let within : place + 2 ≤ 8 = (places-fit (protocol_of packet)).1 in
    let ports : 8 ≤ n = shortest-ports (protocol_of packet) n c.segment_length-length.ensures.low in
    let in_payload : place + 2 ≤ length (payload_of packet) = omega (arith, within, ports, c.segment_length-length.ensures.high) in
    let in_segment : place + 2 ≤ n = omega (arith, within, ports) in
    ap (λ f. f.destination_port.0) c.requires.flow
    ∙ (word_at-segment place n packet rest is_rest in_payload in_segment
    ∙ ap (λ (p : Protocol). word_at (destination_place p) (take n rest)) (sym (ap (λ f. f.protocol) c.requires.flow)))

pub returns-clause-ok : goal.returns-clause-ok
returns-clause-ok c =
    let packet = c.args.packet.now in
    joined-parts (header_with c.args.new) (λ f segment. segment_with f.protocol f c.args.new segment)
    c.rewrite_header.new.header c.rewrite_segment.new.segment
    c.args.old (flow_of packet)
    packet c.split_at_mut-header.result.1.now c.split_at_mut-header.result.0.now
    c.header_length.result (header_of packet).header_length
    c.segment_length-length.result (length_in (protocol_of packet) (payload_of packet))
    c.header_length.ensures c.segment_length-length.ensures.value c.requires.flow
    c.split_at_mut-header.ensures.front c.split_at_mut-header.ensures.back
    c.rewrite_header.ensures c.rewrite_segment.ensures

pub rewrite_header-requires : goal.rewrite_header-requires
rewrite_header-requires c =
    let hops : 2 ≤ (header_of c.args.packet.now).ttl = omega (arith, c.time_to_live.ensures, c.if-time_to_live-lt2.false) in
    let ready = header-ready c.args.packet.now c.split_at_mut-header.result.0.now c.header_length.result c.requires.ipv4 hops c.header_length.ensures c.split_at_mut-header.ensures.front in
    record { long = ready.long; right = ready.right; version = ready.version; ttl = ready.ttl }
