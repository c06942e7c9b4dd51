use Rattle.std.proofs.Common.{◌≡◌, ◌≤◌, ◌++◌, length, drop, ap, arith, rules}
use Rattle.frames.specs.Frame.{frame_of}
use Rattle.icmp.specs.Query.{IsTranslatable}
use Rattle.ipv4.specs.Flow.{flow_of}
use Rattle.ipv4.specs.Header.{IsIpv4, header_of}
use Rattle.packet_rules.specs.Flows.{flow_in}
use Rattle.packet_rules.specs.Frames.{translated_by, sent_header, sent_frame}
use Rattle.packet_rules.proofs.Cut.{at_tail, tail_cut, tail_there}
use Rattle.packet_rules.proofs.translations.append_sent.Goals as goal

pub translate_tail-requires : goal.translate_tail-requires
unfolding flow_in
translate_tail-requires c =
    let list = c.args.list.now.items in
    let bytes = c.args.bytes.now in
    let start = c.len-start.result in
    let at : start ≡ length list = search rules in
    let items = c.append_reserved.ensures.items in
    record {
      whole = omega (arith, c.append_reserved.ensures.len, c.len-start.ensures, c.requires.forwardable.whole);
      ipv4 = at_tail (λ xs. IsIpv4 (frame_of xs).body) list bytes _ start at items c.requires.forwardable.ipv4;
      translatable = at_tail (λ xs. IsTranslatable (frame_of xs).body) list bytes _ start at items c.requires.forwardable.translatable;
      ttl = at_tail (λ xs. 2 ≤ (header_of (frame_of xs).body).ttl) list bytes _ start at items c.requires.forwardable.ttl;
      read = at_tail (λ xs. c.args.packet.now.flow ≡ flow_of (frame_of xs).body) list bytes _ start at items (ap (λ p. p.flow) c.requires.read);
    }

pub returns-clause-items : goal.returns-clause-items
unfolding sent_frame
returns-clause-items c =
    let list = c.args.list.now.items in
    let bytes = c.args.bytes.now in
    let at : c.len-start.result ≡ length list = omega (arith, c.len-start.ensures, c.type_inv.list) in
    let behind : drop c.len-start.result (list ++ bytes) ≡ bytes = tail_there list bytes c.len-start.result at in
    let body = translated_by c.args.networks.now c.args.translation.now (drop 14 bytes) in
    let cut = tail_cut list bytes (sent_header c.args.networks.now c.args.translation.now c.args.next_mac) body c.len-start.result (header_of (drop 14 bytes)).total_length at c.translate_tail.ensures.fourteen in
    simp (c.truncate.ensures.items, c.translate_tail.ensures.items, c.append_reserved.ensures.items, behind, c.from.ensures, ap (λ p. p.size.length) c.requires.read) cut
