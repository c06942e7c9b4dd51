use Rattle.std.proofs.Common.{ℕ, List, ◌++◌, length, ap, ◌∙◌, arith}
use Rattle.frames.specs.Frame.{frame_of}
use Rattle.icmp.specs.Own.{reply_packet}
use Rattle.icmp.specs.declared.own.Cutting.{Cutting}
use Rattle.ipv4.specs.Header.{header_of, payload_of}
use Rattle.packet_rules.specs.Own.{answer_cutting, answer_packet}
use Rattle.packet_rules.proofs.OwnSorts.{ask-fits, ask-room}
use Rattle.packet_rules.proofs.asking.append_reply_to.Goals as goal

pub append_reply-requires-clause-room : goal.append_reply-requires-clause-room
append_reply-requires-clause-room c =
    let ask = c.ask_of-ask.ensures ∙ ap payload_of c.packet_of-packet.ensures in
    omega (arith, ap length ask, ask-room c.args.bytes.now c.requires.askable, c.requires.room)

pub append_reply-requires-clause-fits : goal.append_reply-requires-clause-fits
append_reply-requires-clause-fits c =
    let ask = c.ask_of-ask.ensures ∙ ap payload_of c.packet_of-packet.ensures in
    omega (arith, ap length ask, ask-fits c.args.bytes.now c.requires.askable)

pub returns-clause-items : goal.returns-clause-items
unfolding answer_packet
returns-clause-items c =
    let packet = (frame_of c.args.bytes.now).body in
    let list = c.args.list.now.items in
    let body = c.packet_of-packet.ensures in
    let ask = c.ask_of-ask.ensures ∙ ap payload_of body in
    let from = c.destination.ensures ∙ ap (λ (xs : List ℕ). (header_of xs).destination) body in
    let to = c.source.ensures ∙ ap (λ (xs : List ℕ). (header_of xs).source) body in
    let network = c.args.network.now in
    let cutting = c.cutting_of-cutting.ensures ∙ ap (answer_cutting network) body in
    c.append_reply.ensures.items
    ∙ ap (λ (k : Cutting). list ++ reply_packet k c.ask_of-ask.result.bytes.now c.destination.result.0 c.source.result.0) cutting
    ∙ ap (λ (xs : List ℕ). list ++ reply_packet (answer_cutting network packet) xs c.destination.result.0 c.source.result.0) ask
    ∙ ap (λ (a : ℕ). list ++ reply_packet (answer_cutting network packet) (payload_of packet) a c.source.result.0) from
    ∙ ap (λ (a : ℕ). list ++ reply_packet (answer_cutting network packet) (payload_of packet) (header_of packet).destination a) to

pub returns-clause-len : goal.returns-clause-len
returns-clause-len c =
    let ask = c.ask_of-ask.ensures ∙ ap payload_of c.packet_of-packet.ensures in
    omega (arith, c.append_reply.ensures.len, ap length ask, ask-room c.args.bytes.now c.requires.askable)
