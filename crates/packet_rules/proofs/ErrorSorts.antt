-- Which frames are those of errors that were passed on.
use Rattle.std.proofs.Common.{◌≡◌, ◌≤◌, ◌<◌, ◌==◌, ℕ, true, false, List, length, take, slice_index, refl, ap, ◌∙◌, arith}
use Rattle.std.proofs.lemmas.Bool.Decides.{nat_tests}
use Rattle.std.proofs.lemmas.List.{get_or-take, length-take}
use Rattle.addresses.specs.declared.ethernet.Mac.{Mac}
use Rattle.arp.specs.declared.packets.ArpPacket.{ArpPacket}
use Rattle.arp.specs.Packet.{frame_bytes, gratuitous_packet}
use Rattle.frames.specs.Frame.{frame_of}
use Rattle.icmp.specs.declared.packets.ErrorFlow.{ErrorFlow}
use Rattle.icmp.specs.Error.{is_error}
use Rattle.icmp.specs.Packet.{IsErrorPacket, error_flow}
use Rattle.icmp.specs.Query.{kind_number}
use Rattle.ipv4.specs.Header.{IsIpv4, header_of, payload_of}
use Rattle.nat_types.specs.declared.gateways.Side.{Side}
use Rattle.nat_types.specs.declared.gateways.Side.TheVariants.{Inside, Outside}
use Rattle.rewrite.proofs.Offered.{Begins, passed-begins}
use Rattle.rewrite.specs.PassedOn.{own_flow, passed_on}
use Rattle.packet_rules.specs.declared.networks.Network.{Network}
use Rattle.packet_rules.specs.declared.networks.Networks.{Networks}
use Rattle.packet_rules.specs.declared.translations.Translation.{Translation}
use Rattle.packet_rules.specs.Adverts.{advert_frame}
use Rattle.packet_rules.specs.Arping.{virtual_of, gratuitous_frame}
use Rattle.packet_rules.specs.Errors.{is_error_frame, new_error_flow, passed_by, passed_frame}
use Rattle.packet_rules.specs.Frames.{exit_mac, is_translation}
use Rattle.packet_rules.specs.Networks.{IsWired, broadcast_mac}
use Rattle.packet_rules.specs.Steps.{IsPassable}
use Rattle.packet_rules.specs.Queries.{kind_leaving}
use Rattle.packet_rules.proofs.Sorts.{body-there, cut-first, header-nine, own-six, payload-some, type-there}

-- an error that is passed on and cut keeps its protocol
passed-nine : (new : ErrorFlow) (packet : List ℕ) (total : ℕ) → 9 < total → 20 ≤ length packet → 20 ≤ (header_of packet).header_length → slice_index (take total (passed_on new packet)) 9 ≡ slice_index packet 9
passed-nine new packet total far long holds =
    let header = take (header_of packet).header_length packet in
    get_or-take total (passed_on new packet) 9 0 far
    ∙ header-nine (own_flow new) header _ _ (omega (arith, length-take (header_of packet).header_length packet, long, holds))
    ∙ get_or-take (header_of packet).header_length packet 9 0 (omega arith)

passing-nine : (networks : Networks) (t : Translation) (packet : List ℕ) (total : ℕ) → 9 < total → 20 ≤ length packet → 20 ≤ (header_of packet).header_length → slice_index (take total (passed_by networks t packet)) 9 ≡ slice_index packet 9
unfolding passed_by
passing-nine networks t packet total far long holds = passed-nine _ packet total far long holds

-- the EtherType and the protocol of the frame by which an error is passed on
passed-type : (networks : Networks) (t : Translation) (next : Mac) (bytes : List ℕ) → IsWired networks → length next.0 ≡ 6 → IsPassable bytes
    → ((frame_of (passed_frame networks t next bytes)).ethertype ≡ 2048) × ((header_of (frame_of (passed_frame networks t next bytes)).body).protocol ≡ 1)
unfolding passed_frame
passed-type networks t next bytes wired six f =
    let packet = (frame_of bytes).body in
    let own = own-six networks t wired in
    let rest = take (header_of packet).total_length (passed_by networks t packet) in
    let nine = passing-nine networks t packet (header_of packet).total_length (omega (arith, f.ipv4.holds_fields, f.ipv4.holds_header)) f.ipv4.long f.ipv4.holds_fields in
    let there = ap (λ xs. slice_index xs 9) (body-there next.0 (exit_mac networks t).0 rest 8 0 six own) ∙ nine in
    (type-there next.0 (exit_mac networks t).0 rest 8 0 six own, there ∙ f.error.protocol)

-- an error that is passed on keeps the type of its message
passing-begins : (networks : Networks) (t : Translation) (packet : List ℕ) → IsIpv4 packet → IsErrorPacket packet → Begins (passed_by networks t packet) packet
unfolding passed_by
passing-begins networks t packet ip e = passed-begins (new_error_flow networks t (error_flow packet)) packet ip e

passed-kind : (networks : Networks) (t : Translation) (next : Mac) (bytes : List ℕ) → IsWired networks → length next.0 ≡ 6 → IsPassable bytes
    → slice_index (payload_of (frame_of (passed_frame networks t next bytes)).body) 0 ≡ slice_index (payload_of (frame_of bytes).body) 0
unfolding passed_frame
passed-kind networks t next bytes wired six f =
    let packet = (frame_of bytes).body in
    let rest = take (header_of packet).total_length (passed_by networks t packet) in
    ap (λ xs. slice_index (payload_of xs) 0) (body-there next.0 (exit_mac networks t).0 rest 8 0 six (own-six networks t wired))
    ∙ cut-first (passed_by networks t packet) packet (passing-begins networks t packet f.ipv4 f.error) f.ipv4.holds_fields (payload-some packet f.error.error.long)

one-error : (bytes : List ℕ) → (frame_of bytes).ethertype ≡ 2048 → (header_of (frame_of bytes).body).protocol ≡ 1 → is_error (slice_index (payload_of (frame_of bytes).body) 0) ≡ true → is_error_frame bytes ≡ true
unfolding is_error_frame
one-error bytes type protocol kind = rw (type, protocol, kind) refl

-- an error's type is no query's
no-query : (n : ℕ) (exit : Side) → is_error n ≡ true → (n == kind_number (kind_leaving exit)) ≡ false
no-query n Inside is = grind (arith, nat_tests)
no-query n Outside is = grind (arith, nat_tests)

no-translation : (exit : Side) (bytes : List ℕ) → (frame_of bytes).ethertype ≡ 2048 → (header_of (frame_of bytes).body).protocol ≡ 1 → (slice_index (payload_of (frame_of bytes).body) 0 == kind_number (kind_leaving exit)) ≡ false → is_translation exit bytes ≡ false
unfolding is_translation
no-translation exit bytes type protocol kind = rw (type, protocol, kind) refl

-- the frame by which an error is passed on is an error's, and no translation's
pub passed-is_error : (networks : Networks) (t : Translation) (next : Mac) (bytes : List ℕ) → IsWired networks → length next.0 ≡ 6 → IsPassable bytes → is_error_frame (passed_frame networks t next bytes) ≡ true
passed-is_error networks t next bytes wired six f =
    let x = passed-type networks t next bytes wired six f in
    let kind = ap is_error (passed-kind networks t next bytes wired six f) ∙ f.error.error.kind in
    one-error _ x.0 x.1 kind

pub passed-is_none : (networks : Networks) (exit : Side) (t : Translation) (next : Mac) (bytes : List ℕ) → IsWired networks → length next.0 ≡ 6 → IsPassable bytes → is_translation exit (passed_frame networks t next bytes) ≡ false
passed-is_none networks exit t next bytes wired six f =
    let x = passed-type networks t next bytes wired six f in
    let kind = ap is_error (passed-kind networks t next bytes wired six f) ∙ f.error.error.kind in
    no-translation exit _ x.0 x.1 (no-query _ exit kind)

-- an ARP frame isn't an error's
no-error : (bytes : List ℕ) → (frame_of bytes).ethertype ≡ 2054 → is_error_frame bytes ≡ false
unfolding is_error_frame
no-error bytes type = rw type refl

pub arp-is_no_error : (dst src : List ℕ) (p : ArpPacket) → length dst ≡ 6 → length src ≡ 6 → is_error_frame (frame_bytes dst src p) ≡ false
arp-is_no_error dst src p six1 six2 = no-error _ (type-there dst src _ 8 6 six1 six2)

-- a virtual router's gratuitous ARP frame isn't an error's
pub gratuitous-is_no_error : (network : Network) → is_error_frame (gratuitous_frame network) ≡ false
gratuitous-is_no_error network = arp-is_no_error broadcast_mac (virtual_of network).0 (gratuitous_packet (virtual_of network) network.interface.virtual_ip) refl refl

pub advert-is_no_error : (network : Network) (priority interval : ℕ) → is_error_frame (advert_frame network priority interval) ≡ false
unfolding is_error_frame
advert-is_no_error network priority interval = refl
