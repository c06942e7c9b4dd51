use Rattle.std.proofs.Common.{◌-◌, ◌≤◌, ap, ◌∙◌, arith}
use Rattle.ipv4.specs.Header.{header_of}
use Rattle.ipv4.specs.declared.flows.Flow.{Flow}
use Rattle.icmp.specs.Packet.{error_flow}
use Rattle.rewrite.specs.Translated.{header_with}
use Rattle.rewrite.specs.PassedOn.{own_flow, message_with}
use Rattle.rewrite.proofs.Parts.{header-ready, joined-parts}
use Rattle.rewrite.proofs.errors.rewrite_error.Goals as goal

pub returns-clause-ok : goal.returns-clause-ok
returns-clause-ok c =
    let packet = c.args.packet.now in
    let header = header_of packet in
    let front = c.split_at_mut-header.result.0.now in
    joined-parts (header_with (own_flow c.args.new)) (λ f message. message_with f c.args.new.inside message)
    c.rewrite_header.new.header c.rewrite_message.new.message
    c.args.old.inside (error_flow packet).inside
    packet c.split_at_mut-header.result.1.now front
    c.header_length.result header.header_length
    c.message_length-length.result (header.total_length - header.header_length)
    c.header_length.ensures c.message_length-length.ensures.value
    (ap (λ f. f.inside) c.requires.flow)
    c.split_at_mut-header.ensures.front c.split_at_mut-header.ensures.back
    (c.rewrite_header.ensures ∙ ap (λ (f : Flow). header_with f front) c.own_flow.ensures)
    c.rewrite_message.ensures

pub rewrite_header-requires : goal.rewrite_header-requires
rewrite_header-requires c =
    let hops : 2 ≤ (header_of c.args.packet.now).ttl = omega (arith, c.time_to_live.ensures, c.if-time_to_live-lt2.false) in
    let ready = header-ready c.args.packet.now c.split_at_mut-header.result.0.now c.header_length.result c.requires.ipv4 hops c.header_length.ensures c.split_at_mut-header.ensures.front in
    record { long = ready.long; right = ready.right; version = ready.version; ttl = ready.ttl }
