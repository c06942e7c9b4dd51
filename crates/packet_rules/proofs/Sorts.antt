-- Which frames are those of translations.
use Rattle.std.proofs.Common.{◌≡◌, ◌⊎◌, inl, inr, ◌≤◌, ◌<◌, ◌==◌, if◌then◌else◌, ℕ, ◌+◌, ◌-◌, ◌*◌, ◌%◌, Bool, true, false, cond, Result, Ok, Err, List, [], ◌∷◌, ◌++◌, length, take, drop, slice_index, refl, ap, ap₂, sym, subst, ◌∙◌, arith}
use Rattle.std.proofs.lemmas.List.{get_or-drop, get_or-take, length-take}
use Rattle.addresses.specs.declared.ethernet.Mac.{Mac}
use Rattle.frames.specs.Frame.{frame_of}
use Rattle.addresses.specs.declared.transport.Protocol.{Protocol}
use Rattle.addresses.specs.declared.transport.Protocol.TheVariants.{Icmp, Tcp, Udp}
use Rattle.ipv4.specs.Flow.{flow_of}
use Rattle.ipv4.specs.Header.{IsIpv4, header_of, payload_of}
use Rattle.ipv4.specs.Carried.{IsTransport}
use Rattle.icmp.specs.Query.{IsQueryPacket, IsTranslatable, kind_number}
use Rattle.icmp.specs.declared.kinds.Kind.{Kind}
use Rattle.icmp.specs.declared.kinds.Kind.TheVariants.{Echo, Reply}
use Rattle.nat_types.specs.declared.gateways.Side.{Side}
use Rattle.nat_types.specs.declared.gateways.Side.TheVariants.{Inside, Outside}
use Rattle.rewrite.proofs.Offered.{Begins, payload-first, query-begins}
use Rattle.ipv4.specs.declared.flows.Flow.{Flow}
use Rattle.rewrite.specs.Translated.{header_with, translated}
use Rattle.arp.specs.declared.packets.ArpPacket.{ArpPacket}
use Rattle.arp.specs.Packet.{frame_bytes, gratuitous_packet}
use Rattle.packet_rules.specs.declared.networks.Networks.{Networks}
use Rattle.packet_rules.specs.declared.networks.Network.{Network}
use Rattle.packet_rules.specs.declared.translations.Translation.{Translation}
use Rattle.packet_rules.specs.declared.translations.Translation.TheVariants.{Outward, Inward, Hairpin}
use Rattle.packet_rules.specs.Adverts.{advert_frame}
use Rattle.packet_rules.specs.Arping.{virtual_of, gratuitous_frame}
use Rattle.packet_rules.specs.declared.networks.Direction.{Direction}
use Rattle.packet_rules.specs.declared.networks.Direction.TheVariants as way
use Rattle.packet_rules.specs.declared.reasons.Reason.{Reason}
use Rattle.packet_rules.specs.declared.reasons.Reason.TheVariants.{NoBinding}
use Rattle.packet_rules.specs.Flows.{flow_in}
use Rattle.packet_rules.specs.Frames.{translated_by, sent_frame, is_translation, exit_mac, new_flow, way_of}
use Rattle.packet_rules.specs.Networks.{IsWired, broadcast_mac, direction_of, exit_of, hairpin_direction, inside_direction, outside_direction}
use Rattle.packet_rules.specs.Queries.{kind_entering, kind_leaving}
use Rattle.packet_rules.specs.Steps.{IsForwardable, IsOfSide}

record Six (xs : List ℕ) : Type 0 where
  pub a : ℕ
  pub b : ℕ
  pub c : ℕ
  pub d : ℕ
  pub e : ℕ
  pub f : ℕ
  pub is : xs ≡ a ∷ b ∷ c ∷ d ∷ e ∷ f ∷ []

-- a list of length six is one of six elements
six : (xs : List ℕ) → length xs ≡ 6 → Six xs
six [] h = absurd (omega (arith, h))
six (a ∷ []) h = absurd (omega (arith, h))
six (a ∷ b ∷ []) h = absurd (omega (arith, h))
six (a ∷ b ∷ c ∷ []) h = absurd (omega (arith, h))
six (a ∷ b ∷ c ∷ d ∷ []) h = absurd (omega (arith, h))
six (a ∷ b ∷ c ∷ d ∷ e ∷ []) h = absurd (omega (arith, h))
six (a ∷ b ∷ c ∷ d ∷ e ∷ f ∷ []) h = record { a = a; b = b; c = c; d = d; e = e; f = f; is = refl }
six (a ∷ b ∷ c ∷ d ∷ e ∷ f ∷ g ∷ xs) h = absurd (omega (arith, h))

abbrev type_and : List ℕ → List ℕ → ℕ → ℕ → List ℕ → List ℕ
type_and dst src high low rest = ((dst ++ src) ++ (high ∷ low ∷ [])) ++ rest

-- a frame's EtherType comes after its two hardware addresses
pub type-there : (dst src rest : List ℕ) (high low : ℕ) → length dst ≡ 6 → length src ≡ 6 → (frame_of (type_and dst src high low rest)).ethertype ≡ high * 256 + low
type-there dst src rest high low long long2 =
    let d = six dst long in
    let s = six src long2 in
    ap (λ xs. (frame_of (type_and xs src high low rest)).ethertype) d.is
    ∙ ap (λ xs. (frame_of (type_and (d.a ∷ d.b ∷ d.c ∷ d.d ∷ d.e ∷ d.f ∷ []) xs high low rest)).ethertype) s.is
    ∙ omega arith

-- a frame's body comes after its hardware addresses and EtherType
pub body-there : (dst src rest : List ℕ) (high low : ℕ) → length dst ≡ 6 → length src ≡ 6 → (frame_of (type_and dst src high low rest)).body ≡ rest
body-there dst src rest high low long long2 =
    let d = six dst long in
    let s = six src long2 in
    ap (λ xs. (frame_of (type_and xs src high low rest)).body) d.is
    ∙ ap (λ xs. (frame_of (type_and (d.a ∷ d.b ∷ d.c ∷ d.d ∷ d.e ∷ d.f ∷ []) xs high low rest)).body) s.is

-- a header keeps its protocol when its addresses are replaced
pub header-nine : (flow : Flow) (header rest more : List ℕ) → 20 ≤ length header → slice_index ((header_with flow header ++ rest) ++ more) 9 ≡ slice_index header 9
header-nine flow [] rest more long = absurd (omega (arith, long))
header-nine flow (a ∷ []) rest more long = absurd (omega (arith, long))
header-nine flow (a ∷ b ∷ []) rest more long = absurd (omega (arith, long))
header-nine flow (a ∷ b ∷ c ∷ []) rest more long = absurd (omega (arith, long))
header-nine flow (a ∷ b ∷ c ∷ d ∷ []) rest more long = absurd (omega (arith, long))
header-nine flow (a ∷ b ∷ c ∷ d ∷ e ∷ []) rest more long = absurd (omega (arith, long))
header-nine flow (a ∷ b ∷ c ∷ d ∷ e ∷ f ∷ []) rest more long = absurd (omega (arith, long))
header-nine flow (a ∷ b ∷ c ∷ d ∷ e ∷ f ∷ g ∷ []) rest more long = absurd (omega (arith, long))
header-nine flow (a ∷ b ∷ c ∷ d ∷ e ∷ f ∷ g ∷ h ∷ []) rest more long = absurd (omega (arith, long))
header-nine flow (a ∷ b ∷ c ∷ d ∷ e ∷ f ∷ g ∷ h ∷ i ∷ []) rest more long = absurd (omega (arith, long))
header-nine flow (a ∷ b ∷ c ∷ d ∷ e ∷ f ∷ g ∷ h ∷ i ∷ j ∷ header) rest more long = refl

-- a packet that is translated and cut keeps its protocol
translated-nine : (flow : Flow) (packet : List ℕ) (total : ℕ) → 9 < total → 20 ≤ length packet → 20 ≤ (header_of packet).header_length → slice_index (take total (translated flow packet)) 9 ≡ slice_index packet 9
translated-nine flow packet total far long holds =
    let header = take (header_of packet).header_length packet in
    get_or-take total (translated flow packet) 9 0 far
    ∙ header-nine flow header _ _ (omega (arith, length-take (header_of packet).header_length packet, long, holds))
    ∙ get_or-take (header_of packet).header_length packet 9 0 (omega arith)

-- bytes with EtherType 2048 and protocol 17 or 6 are those of a translation
is-one : (exit : Side) (bytes : List ℕ) → (frame_of bytes).ethertype ≡ 2048 → ((header_of (frame_of bytes).body).protocol ≡ 17) ⊎ ((header_of (frame_of bytes).body).protocol ≡ 6) → is_translation exit bytes ≡ true
unfolding is_translation
is-one exit bytes type (inl protocol) = rw (type, protocol) refl
is-one exit bytes type (inr protocol) = rw (type, protocol) refl

-- bytes with a query of the kind that leaves at a side are those of a translation there
is-query : (exit : Side) (bytes : List ℕ) → (frame_of bytes).ethertype ≡ 2048 → (header_of (frame_of bytes).body).protocol ≡ 1 → slice_index (payload_of (frame_of bytes).body) 0 ≡ kind_number (kind_leaving exit) → is_translation exit bytes ≡ true
unfolding is_translation
is-query Inside bytes type protocol kind = rw (type, protocol, kind) refl
is-query Outside bytes type protocol kind = rw (type, protocol, kind) refl

is-none : (exit : Side) (bytes : List ℕ) → (frame_of bytes).ethertype ≡ 2054 → is_translation exit bytes ≡ false
unfolding is_translation
is-none exit bytes type = rw type refl

-- a packet that carries UDP or TCP has protocol 17 or 6
carried-protocol : (packet : List ℕ) → IsTransport packet → ((header_of packet).protocol ≡ 17) ⊎ ((header_of packet).protocol ≡ 6)
carried-protocol packet (inl udp) = inl udp.protocol
carried-protocol packet (inr tcp) = inr tcp.protocol

other-protocol : (a b : ℕ) → a ≡ b → (b ≡ 17) ⊎ (b ≡ 6) → (a ≡ 17) ⊎ (a ≡ 6)
other-protocol a b same (inl is) = inl (same ∙ is)
other-protocol a b same (inr is) = inr (same ∙ is)

pub own-six : (networks : Networks) (t : Translation) → IsWired networks → length (exit_mac networks t).0 ≡ 6
own-six networks (Outward pair) wired = wired.outside_mac
own-six networks (Inward pair) wired = wired.inside_mac
own-six networks (Hairpin own other) wired = wired.inside_mac

-- a translation keeps the byte of the protocol
pub translation-nine : (networks : Networks) (t : Translation) (packet : List ℕ) (total : ℕ) → 9 < total → 20 ≤ length packet → 20 ≤ (header_of packet).header_length → slice_index (take total (translated_by networks t packet)) 9 ≡ slice_index packet 9
unfolding translated_by
translation-nine networks t packet total far long holds = translated-nine _ packet total far long holds

-- the first byte of the payload stays where the packet is cut after its total length
pub cut-first : (bytes packet : List ℕ) → Begins bytes packet → 20 ≤ (header_of packet).header_length → (header_of packet).header_length < (header_of packet).total_length
    → slice_index (payload_of (take (header_of packet).total_length bytes)) 0 ≡ slice_index (payload_of packet) 0
cut-first bytes packet begins holds some =
    let h = (header_of packet).header_length in
    let t = (header_of packet).total_length in
    let cut = take t bytes in
    let zero : slice_index cut 0 ≡ slice_index bytes 0 = get_or-take t bytes 0 0 (omega (arith, some)) in
    let is_h : (header_of cut).header_length ≡ h = ap (λ (b : ℕ). 4 * (b % 16)) zero ∙ begins.header_length in
    let high : slice_index (drop 2 cut) 0 ≡ slice_index (drop 2 bytes) 0 = get_or-drop 2 cut 0 0 ∙ (get_or-take t bytes 2 0 (omega (arith, some, holds)) ∙ sym (get_or-drop 2 bytes 0 0)) in
    let low : slice_index (drop 2 cut) 1 ≡ slice_index (drop 2 bytes) 1 = get_or-drop 2 cut 1 0 ∙ (get_or-take t bytes 3 0 (omega (arith, some, holds)) ∙ sym (get_or-drop 2 bytes 1 0)) in
    let is_t : (header_of cut).total_length ≡ t = ap₂ (λ (a b : ℕ). a * 256 + (b * 1 + 0)) high low ∙ begins.total_length in
    let there : (header_of cut).header_length < (header_of cut).total_length = omega (arith, is_h, is_t, some) in
    payload-first cut there
    ∙ (ap (λ (k : ℕ). slice_index cut k) is_h
    ∙ (get_or-take t bytes h 0 some
    ∙ (begins.first ∙ sym (payload-first packet some))))

-- a payload of some bytes lies between header and total length
pub payload-some : (packet : List ℕ) → 8 ≤ length (payload_of packet) → (header_of packet).header_length < (header_of packet).total_length
payload-some packet long =
    let h = (header_of packet).header_length in
    omega (arith, long, length-take ((header_of packet).total_length - h) (drop h packet))

-- a query that goes this way is of the kind that leaves where it goes to
abbrev leaving : Result Direction Reason → Kind
leaving (Ok w) = kind_leaving (exit_of w)
leaving (Err reason) = Echo

inside-leaves : (a b c : Bool) (w : Direction) → (let r : Result Direction Reason = cond a (Err NoBinding) (cond b (hairpin_direction Icmp) (cond c (Err NoBinding) (Ok way.Outward))) in r) ≡ Ok w → Echo ≡ kind_leaving (exit_of w)
unfolding hairpin_direction
inside-leaves true b c w is = absurd (cc)
inside-leaves false true c w is = absurd (cc)
inside-leaves false false true w is = absurd (cc)
inside-leaves false false false w is = ap leaving is

outside-leaves : (a b : Bool) (w : Direction) → (let r : Result Direction Reason = cond a (Err NoBinding) (cond b (Err NoBinding) (Ok way.Inward)) in r) ≡ Ok w → Reply ≡ kind_leaving (exit_of w)
outside-leaves true b w is = absurd (cc)
outside-leaves false true w is = absurd (cc)
outside-leaves false false w is = ap leaving is

leaves-so : (networks : Networks) (side : Side) (source destination : ℕ) (w : Direction) → direction_of networks side Icmp source destination ≡ Ok w → kind_entering side ≡ kind_leaving (exit_of w)
unfolding inside_direction outside_direction
leaves-so networks Inside source destination w is = inside-leaves _ _ _ w is
leaves-so networks Outside source destination w is = outside-leaves _ _ w is

-- what is known of a packet that carries a query
record IsAny (packet : List ℕ) : Type 0 where
  pub protocol : (header_of packet).protocol ≡ 1
  pub long : 8 ≤ length (payload_of packet)

any-query : (packet : List ℕ) → IsQueryPacket Echo packet ⊎ IsQueryPacket Reply packet → IsAny packet
any-query packet (inl q) = record { protocol = q.protocol; long = q.query.long }
any-query packet (inr q) = record { protocol = q.protocol; long = q.query.long }

pub of-flow : (bytes : List ℕ) → (header_of (frame_of bytes).body).protocol ≡ 1 → (flow_in bytes).protocol ≡ Icmp
unfolding flow_in
of-flow bytes protocol = ap (λ (number : ℕ). if number == 1 then Icmp else if number == 6 then Tcp else Udp) protocol

by-begins : (networks : Networks) (t : Translation) (packet : List ℕ) → IsIpv4 packet → IsAny packet → Begins (translated_by networks t packet) packet
unfolding translated_by
by-begins networks t packet ip any = query-begins (new_flow networks t (flow_of packet)) packet ip any.protocol any.long

-- the frame by which a packet is sent on is a translation's
abbrev pub GoesBy : Networks → Side → Translation → List ℕ → Type 0
GoesBy networks side t bytes =
    let flow = flow_in bytes in
    direction_of networks side flow.protocol flow.source.0 flow.destination.0 ≡ Ok (way_of t)

sent-by : (networks : Networks) (side : Side) (t : Translation) (next : Mac) (bytes : List ℕ) → IsWired networks → length next.0 ≡ 6 → IsForwardable bytes → IsOfSide side bytes → GoesBy networks side t bytes → IsTranslatable (frame_of bytes).body
    → is_translation (exit_of (way_of t)) (sent_frame networks t next bytes) ≡ true
unfolding sent_frame
sent-by networks side t next bytes wired six1 f kind goes (inl carried) =
    let packet = (frame_of bytes).body in
    let own = own-six networks t wired in
    let rest = take (header_of packet).total_length (translated_by networks t packet) in
    let nine = translation-nine networks t packet (header_of packet).total_length (omega (arith, f.ipv4.holds_fields, f.ipv4.holds_header)) f.ipv4.long f.ipv4.holds_fields in
    let there = ap (λ xs. slice_index xs 9) (body-there next.0 (exit_mac networks t).0 rest 8 0 six1 own) ∙ nine in
    is-one (exit_of (way_of t)) _ (type-there next.0 (exit_mac networks t).0 rest 8 0 six1 own) (other-protocol _ _ there (carried-protocol packet carried))
sent-by networks side t next bytes wired six1 f kind goes (inr query) =
    let packet = (frame_of bytes).body in
    let any = any-query packet query in
    let own = own-six networks t wired in
    let total = (header_of packet).total_length in
    let rest = take total (translated_by networks t packet) in
    let body = body-there next.0 (exit_mac networks t).0 rest 8 0 six1 own in
    let nine = translation-nine networks t packet total (omega (arith, f.ipv4.holds_fields, f.ipv4.holds_header)) f.ipv4.long f.ipv4.holds_fields in
    let there = ap (λ xs. slice_index xs 9) body ∙ nine in
    let some = payload-some packet any.long in
    let first : slice_index (payload_of rest) 0 ≡ slice_index (payload_of packet) 0 = cut-first (translated_by networks t packet) packet (by-begins networks t packet f.ipv4 any) f.ipv4.holds_fields some in
    let flow = flow_in bytes in
    let way : direction_of networks side Icmp flow.source.0 flow.destination.0 ≡ Ok (way_of t) = subst (λ (p : Protocol). direction_of networks side p flow.source.0 flow.destination.0 ≡ Ok (way_of t)) (of-flow bytes any.protocol) goes in
    let leaves = leaves-so networks side flow.source.0 flow.destination.0 (way_of t) way in
    let type_is = ap (λ xs. slice_index (payload_of xs) 0) body ∙ (first ∙ (kind any.protocol ∙ ap kind_number leaves)) in
    is-query (exit_of (way_of t)) _ (type-there next.0 (exit_mac networks t).0 rest 8 0 six1 own) (there ∙ any.protocol) type_is

pub sent-is_translation : (networks : Networks) (side : Side) (t : Translation) (next : Mac) (bytes : List ℕ) → IsWired networks → length next.0 ≡ 6 → IsForwardable bytes → IsOfSide side bytes → GoesBy networks side t bytes
    → is_translation (exit_of (way_of t)) (sent_frame networks t next bytes) ≡ true
sent-is_translation networks side t next bytes wired six1 f kind goes = sent-by networks side t next bytes wired six1 f kind goes f.translatable

-- an ARP frame isn't a translation's
pub arp-is_none : (exit : Side) (dst src : List ℕ) (p : ArpPacket) → length dst ≡ 6 → length src ≡ 6 → is_translation exit (frame_bytes dst src p) ≡ false
arp-is_none exit dst src p six1 six2 = is-none exit _ (type-there dst src _ 8 6 six1 six2)

-- a virtual router's gratuitous ARP frame isn't a translation's
pub gratuitous-is_none : (exit : Side) (network : Network) → is_translation exit (gratuitous_frame network) ≡ false
gratuitous-is_none exit network = arp-is_none exit broadcast_mac (virtual_of network).0 (gratuitous_packet (virtual_of network) network.interface.virtual_ip) refl refl

pub advert-is_none : (exit : Side) (network : Network) (priority interval : ℕ) → is_translation exit (advert_frame network priority interval) ≡ false
unfolding is_translation
advert-is_none exit network priority interval = refl
