-- Which frames are the box's own, and which addresses they show.
use Rattle.std.proofs.Common.{◌≡◌, ◌≢◌, ◌⊎◌, inl, inr, ◌≤◌, ◌<◌, ◌==◌, not, ◌&&◌, ◌||◌, ℕ, ◌+◌, ◌-◌, ◌*◌, ◌/◌, ◌%◌, ◌^◌, Bool, true, false, cond, Result, Ok, Err, List, ◌∷◌, ◌++◌, length, take, drop, slice_index, refl, ap, ap₂, sym, subst, ◌∙◌, arith, length-drop}
use Rattle.std.proofs.lemmas.Bool.Decides.{nat_tests}
use Rattle.std.proofs.lemmas.List.{get_or-drop, get_or-take, length-take}
use Rattle.addresses.specs.Transport.{same_protocol}
use Rattle.addresses.specs.declared.ethernet.Mac.{Mac}
use Rattle.addresses.specs.declared.internet.Ip.{Ip}
use Rattle.nat_types.specs.Pair.{Pair}
use Rattle.addresses.specs.declared.transport.Protocol.{Protocol}
use Rattle.addresses.specs.declared.transport.Protocol.TheVariants.{Icmp}
use Rattle.arp.specs.declared.packets.ArpPacket.{ArpPacket}
use Rattle.arp.specs.Packet.{frame_bytes, gratuitous_packet}
use Rattle.frames.specs.Frame.{frame_of}
use Rattle.icmp.specs.Error.{is_error}
use Rattle.icmp.specs.Packet.{error_flow}
use Rattle.icmp.specs.Query.{kind_number, query_data}
use Rattle.icmp.specs.Own.{IsOwnPacket, exceeded_message, identification_of, own_packet, quoted, reply_message, too_long_message}
use Rattle.icmp.specs.declared.own.Cutting.{Cutting}
use Rattle.icmp.specs.declared.own.Cutting.TheVariants.{Allowed, Forbidden}
use Rattle.icmp.specs.declared.errors.TheConstants.{PROTOCOL}
use Rattle.ipv4.specs.Flow.{flow_of}
use Rattle.ipv4.specs.Header.{header_of, payload_of}
use Rattle.ipv4.specs.declared.flows.Flow.{Flow}
use Rattle.nat_types.specs.declared.gateways.Side.{Side}
use Rattle.nat_types.specs.declared.gateways.Side.TheVariants.{Inside, Outside}
use Rattle.rewrite.specs.PassedOn.{own_flow}
use Rattle.rewrite.specs.Translated.{header_with}
use Rattle.settings.specs.declared.interfaces.InterfaceSettings.{InterfaceSettings}
use Rattle.packet_rules.specs.declared.complaints.Complaint.{Complaint}
use Rattle.packet_rules.specs.declared.complaints.Complaint.TheVariants.{Exceeded, TooBig}
use Rattle.packet_rules.specs.declared.networks.Direction.{Direction}
use Rattle.packet_rules.specs.declared.networks.Direction.TheVariants as way
use Rattle.packet_rules.specs.declared.networks.Network.{Network}
use Rattle.packet_rules.specs.declared.networks.Networks.{Networks}
use Rattle.packet_rules.specs.declared.reasons.Reason.{Reason}
use Rattle.packet_rules.specs.declared.reasons.Reason.TheVariants.{NoBinding}
use Rattle.packet_rules.specs.declared.translations.Translation.{Translation}
use Rattle.packet_rules.specs.declared.translations.Translation.TheVariants.{Outward, Inward, Hairpin}
use Rattle.packet_rules.specs.Adverts.{advert_frame}
use Rattle.packet_rules.specs.Arping.{virtual_of, gratuitous_frame}
use Rattle.packet_rules.specs.Asked.{IsAskable, is_asked, is_echo, is_to_box}
use Rattle.packet_rules.specs.Errors.{error_direction, is_error_frame, new_error_flow, passed_by, passed_frame}
use Rattle.packet_rules.specs.Flows.{error_flow_in, flow_in}
use Rattle.packet_rules.specs.Frames.{exit_mac, is_translation, new_flow, sent_frame, translated_by, way_of}
use Rattle.packet_rules.specs.Networks.{IsPlaced, IsWired, broadcast_mac, direction_of, exit_of, hairpin_direction, inside_direction, is_martian, lies_in, may_answer, may_come, network_of, outside_direction}
use Rattle.packet_rules.specs.Own.{AreBytes, HidesHosts, answer_cutting, answer_frame, answer_packet, complaint_frame, complaint_packet, is_any_error, is_long_answer, is_own_frame, is_to_host, is_told, own_frame}
use Rattle.packet_rules.specs.Queries.{kind_leaving}
use Rattle.packet_rules.specs.Steps.{IsForwardable, IsPassable, and_then}
use Rattle.packet_rules.proofs.Passing.{both-true, same-number}
use Rattle.packet_rules.proofs.Sorts.{body-there, of-flow, own-six, translation-nine, type-there}

number-same : (m n : ℕ) → m ≡ n → (m == n) ≡ true
number-same m n e = grind (arith, nat_tests)

number-other : (m n : ℕ) → m ≢ n → (m == n) ≡ false
number-other m n e = grind (arith, nat_tests)

-- two numbers are unequal where a test holds of the second and not of the first
differ-by : (f : ℕ → Bool) (m n : ℕ) (b : Bool) → (m == n) ≡ b → f m ≡ false → f n ≡ true → b ≡ false
differ-by f m n false is out lies = refl
differ-by f m n true is out lies =
    let same : m ≡ n = same-number m n is in
    let clash : f n ≡ false = subst (λ (k : ℕ). f k ≡ false) same out in
    cc

differ : (f : ℕ → Bool) (m n : ℕ) → f m ≡ false → f n ≡ true → (m == n) ≡ false
differ f m n out lies = differ-by f m n (m == n) refl out lies

-- the virtual address lies in its network
virtual-lies : (interface : InterfaceSettings) → lies_in interface.virtual_ip.0 interface ≡ true
unfolding lies_in
virtual-lies interface = number-same _ _ refl

-- the outside virtual address isn't in the inside network
virtual-apart : (networks : Networks) → IsPlaced networks → lies_in networks.outside.interface.virtual_ip.0 networks.inside.interface ≡ false
virtual-apart networks placed = placed.apart networks.outside.interface.virtual_ip.0 (virtual-lies networks.outside.interface)

-- four bytes make an address of 32 bits
four-fit : (a b c d : ℕ) → a < 256 → b < 256 → c < 256 → d < 256 → a * 16777216 + (b * 65536 + (c * 256 + (d * 1 + 0))) < 4294967296
four-fit a b c d w x y z = omega arith

body-bytes : (bytes : List ℕ) → AreBytes bytes → AreBytes (frame_of bytes).body
body-bytes bytes are place = subst (λ (x : ℕ). x < 256) (sym (get_or-drop 14 bytes place 0)) (are (14 + place))

address-fits : (at : ℕ) (packet : List ℕ) → AreBytes packet
    → slice_index (drop at packet) 0 * 16777216 + (slice_index (drop at packet) 1 * 65536 + (slice_index (drop at packet) 2 * 256 + (slice_index (drop at packet) 3 * 1 + 0))) < 4294967296
address-fits at packet are =
    let fits : (i : ℕ) → slice_index (drop at packet) i < 256 = λ i. subst (λ (x : ℕ). x < 256) (sym (get_or-drop at packet i 0)) (are (at + i)) in
    four-fit _ _ _ _ (fits 0) (fits 1) (fits 2) (fits 3)

source-fits : (packet : List ℕ) → AreBytes packet → (header_of packet).source < 4294967296
source-fits packet are = address-fits 12 packet are

destination-fits : (packet : List ℕ) → AreBytes packet → (header_of packet).destination < 4294967296
destination-fits packet are = address-fits 16 packet are

-- the source stays where a packet is cut
cut-source : (xs : List ℕ) (total : ℕ) → 16 ≤ total → (header_of (take total xs)).source ≡ (header_of xs).source
cut-source xs total far =
    let at : (i : ℕ) → 12 + i < total → slice_index (drop 12 (take total xs)) i ≡ slice_index (drop 12 xs) i = λ i near. get_or-drop 12 (take total xs) i 0 ∙ (get_or-take total xs (12 + i) 0 near ∙ sym (get_or-drop 12 xs i 0)) in
    let a = at 0 (omega (arith, far)) in
    let b = at 1 (omega (arith, far)) in
    let c = at 2 (omega (arith, far)) in
    let d = at 3 (omega (arith, far)) in
    ap₂ (λ (x y : ℕ). x * 16777216 + y) a (ap₂ (λ (x y : ℕ). x * 65536 + y) b (ap₂ (λ (x y : ℕ). x * 256 + (y * 1 + 0)) c d))

number-written : (x : ℕ) → x < 4294967296 → x / 16777216 % 256 * 16777216 + (x / 65536 % 256 * 65536 + (x / 256 % 256 * 256 + (x % 256 * 1 + 0))) ≡ x
number-written x h = omega arith

-- a header whose addresses are replaced has the new source
header-source : (f : Flow) (header rest more : List ℕ) → 20 ≤ length header → f.source.0 < 4294967296 → (header_of ((header_with f header ++ rest) ++ more)).source ≡ f.source.0
header-source f (b0 ∷ b1 ∷ b2 ∷ b3 ∷ b4 ∷ b5 ∷ b6 ∷ b7 ∷ b8 ∷ b9 ∷ b10 ∷ b11 ∷ b12 ∷ b13 ∷ b14 ∷ b15 ∷ b16 ∷ b17 ∷ b18 ∷ b19 ∷ options) rest more long fits = number-written f.source.0 fits
header-source f _ rest more long fits = absurd (omega arith)

-- a conjunction of tests fails where one of its tests fails
and-none : (a b c : Bool) → c ≡ false → (a && (b && c)) ≡ false
and-none true true c none = none
and-none true false c none = refl
and-none false b c none = refl

first-none : (a b c : Bool) → b ≡ false → (a && (b && c)) ≡ false
first-none true b c none = rw none refl
first-none false b c none = refl

three-none : (c d e f : Bool) → c ≡ false → (d ≡ false) ⊎ ((e ≡ false) × (f ≡ false)) → (c || (d && (e || f))) ≡ false
three-none c d e f other (inl none) = rw (other, none) refl
three-none c true e f other (inr both) = rw (other, both.0, both.1) refl
three-none c false e f other (inr both) = rw other refl

-- a frame with another protocol or source isn't own
other-protocol-none : (networks : Networks) (side : Side) (bytes : List ℕ) → ((header_of (frame_of bytes).body).protocol == PROTOCOL) ≡ false → is_own_frame networks side bytes ≡ false
unfolding is_own_frame
other-protocol-none networks side bytes other = first-none ((frame_of bytes).ethertype == 2048) _ _ other

other-source-none : (networks : Networks) (side : Side) (bytes : List ℕ) (source : ℕ) → (header_of (frame_of bytes).body).source ≡ source → (source == (network_of networks side).own_ip.0) ≡ false
    → ((slice_index (payload_of (frame_of bytes).body) 0 == 0) ≡ false) ⊎ (((source == (network_of networks side).interface.virtual_ip.0) ≡ false) × ((source == networks.outside.interface.virtual_ip.0) ≡ false))
    → is_own_frame networks side bytes ≡ false
unfolding is_own_frame
other-source-none networks side bytes source is own rest =
    let packet = (frame_of bytes).body in
    let network = network_of networks side in
    let none : ((source == network.own_ip.0) || ((slice_index (payload_of packet) 0 == 0) && ((source == network.interface.virtual_ip.0) || (source == networks.outside.interface.virtual_ip.0)))) ≡ false = three-none _ _ _ _ own rest in
    rw is (and-none ((frame_of bytes).ethertype == 2048) ((header_of packet).protocol == PROTOCOL) _ none)

-- an ARP frame isn't own, and neither is an advertisement
type-none : (networks : Networks) (side : Side) (bytes : List ℕ) → (frame_of bytes).ethertype ≡ 2054 → is_own_frame networks side bytes ≡ false
unfolding is_own_frame
type-none networks side bytes type = rw type refl

pub arp-is_not_own : (networks : Networks) (side : Side) (dst src : List ℕ) (p : ArpPacket) → length dst ≡ 6 → length src ≡ 6 → is_own_frame networks side (frame_bytes dst src p) ≡ false
arp-is_not_own networks side dst src p six1 six2 = type-none networks side _ (type-there dst src _ 8 6 six1 six2)

pub gratuitous-is_not_own : (networks : Networks) (side : Side) (network : Network) → is_own_frame networks side (gratuitous_frame network) ≡ false
gratuitous-is_not_own networks side network = arp-is_not_own networks side broadcast_mac (virtual_of network).0 (gratuitous_packet (virtual_of network) network.interface.virtual_ip) refl refl

pub advert-is_not_own : (networks : Networks) (side : Side) (network : Network) (priority interval : ℕ) → is_own_frame networks side (advert_frame network priority interval) ≡ false
unfolding is_own_frame
advert-is_not_own networks side network priority interval = refl

-- The frame by which a packet is sent on.
sent-source : (networks : Networks) (t : Translation) (next : Mac) (bytes : List ℕ) → IsWired networks → length next.0 ≡ 6 → IsForwardable bytes
    → (new_flow networks t (flow_of (frame_of bytes).body)).source.0 < 4294967296
    → (header_of (frame_of (sent_frame networks t next bytes)).body).source ≡ (new_flow networks t (flow_of (frame_of bytes).body)).source.0
unfolding sent_frame translated_by
sent-source networks t next bytes wired six f fits =
    let packet = (frame_of bytes).body in
    let total = (header_of packet).total_length in
    let h = (header_of packet).header_length in
    let flow = new_flow networks t (flow_of packet) in
    let rest = take total (translated_by networks t packet) in
    let long : 20 ≤ length (take h packet) = omega (arith, length-take h packet, f.ipv4.long, f.ipv4.holds_fields, f.ipv4.holds_header, f.ipv4.there) in
    ap (λ (xs : List ℕ). (header_of xs).source) (body-there next.0 (exit_mac networks t).0 rest 8 0 six (own-six networks t wired))
    ∙ (cut-source (translated_by networks t packet) total (omega (arith, f.ipv4.holds_fields, f.ipv4.holds_header))
    ∙ header-source flow (take h packet) _ _ long fits)

sent-protocol : (networks : Networks) (t : Translation) (next : Mac) (bytes : List ℕ) → IsWired networks → length next.0 ≡ 6 → IsForwardable bytes
    → (header_of (frame_of (sent_frame networks t next bytes)).body).protocol ≡ (header_of (frame_of bytes).body).protocol
unfolding sent_frame
sent-protocol networks t next bytes wired six f =
    let packet = (frame_of bytes).body in
    let total = (header_of packet).total_length in
    let rest = take total (translated_by networks t packet) in
    ap (λ (xs : List ℕ). (header_of xs).protocol) (body-there next.0 (exit_mac networks t).0 rest 8 0 six (own-six networks t wired))
    ∙ translation-nine networks t packet total (omega (arith, f.ipv4.holds_fields, f.ipv4.holds_header)) f.ipv4.long f.ipv4.holds_fields

-- what leaves at the outside as a translation, of protocol 1, is no Reply
echo-leaves : (b : Bool) (p k : ℕ) → (b && ((p == 6) || (p == 17) || ((p == 1) && (k == kind_number (kind_leaving Outside))))) ≡ true → p ≡ 1 → (k == 0) ≡ false
echo-leaves b p k is one =
    let at : (b && ((1 == 6) || (1 == 17) || ((1 == 1) && (k == 8)))) ≡ true = subst (λ (q : ℕ). (b && ((q == 6) || (q == 17) || ((q == 1) && (k == 8)))) ≡ true) one is in
    let eight : k ≡ 8 = same-number k 8 (both-true b (k == 8) at).1 in
    number-other k 0 (λ zero. absurd (omega (arith, eight, zero)))

outward-none : (networks : Networks) (bytes : List ℕ) (source : ℕ) (b : Bool) → ((header_of (frame_of bytes).body).protocol == PROTOCOL) ≡ b → is_translation Outside bytes ≡ true
    → (header_of (frame_of bytes).body).source ≡ source → (source == networks.outside.own_ip.0) ≡ false → is_own_frame networks Outside bytes ≡ false
unfolding is_translation
outward-none networks bytes source false other is from own = other-protocol-none networks Outside bytes other
outward-none networks bytes source true one is from own =
    let packet = (frame_of bytes).body in
    let kind = echo-leaves ((frame_of bytes).ethertype == 2048) (header_of packet).protocol (slice_index (payload_of packet) 0) is (same-number (header_of packet).protocol PROTOCOL one) in
    other-source-none networks Outside bytes source from own (inl kind)

-- the ways of packets
inside-in : {X : Type 0} (a b c d : Bool) → (let r : Result Direction Reason = cond a (Err NoBinding) (cond b (cond d (Err NoBinding) (Ok way.Hairpin)) (cond c (Err NoBinding) (Ok way.Outward))) in r) ≡ Ok way.Inward → X
inside-in true b c d is = cc
inside-in false true c true is = cc
inside-in false true c false is = cc
inside-in false false true d is = cc
inside-in false false false d is = cc

outside-in : (a l v m : Bool) → (let r : Result Direction Reason = cond a (Err NoBinding) (cond (l || v || m) (Err NoBinding) (Ok way.Inward)) in r) ≡ Ok way.Inward → (l ≡ false) × (v ≡ false)
outside-in true l v m is = cc
outside-in false true v m is = cc
outside-in false false true m is = cc
outside-in false false false true is = cc
outside-in false false false false is = (refl, refl)

-- a packet comes in from a host that isn't inside, and not from the outside virtual address
comes-in : (networks : Networks) (side : Side) (protocol : Protocol) (source destination : ℕ) → direction_of networks side protocol source destination ≡ Ok way.Inward
    → (lies_in source networks.inside.interface ≡ false) × ((source == networks.outside.interface.virtual_ip.0) ≡ false)
unfolding inside_direction outside_direction hairpin_direction
comes-in networks Inside protocol source destination is =
    inside-in (not (lies_in source networks.inside.interface) || (source == networks.inside.interface.virtual_ip.0) || is_martian source)
    (destination == networks.outside.interface.virtual_ip.0)
    (lies_in destination networks.inside.interface || is_martian destination)
    (same_protocol protocol Icmp) is
comes-in networks Outside protocol source destination is =
    outside-in (not (destination == networks.outside.interface.virtual_ip.0)) (lies_in source networks.inside.interface)
    (source == networks.outside.interface.virtual_ip.0) (is_martian source) is

inside-back : {X : Type 0} (a b c : Bool) → (let r : Result Direction Reason = cond a (Err NoBinding) (cond b (Err NoBinding) (cond c (Err NoBinding) (Ok way.Outward))) in r) ≡ Ok way.Hairpin → X
inside-back true b c is = cc
inside-back false true c is = cc
inside-back false false true is = cc
inside-back false false false is = cc

outside-back : {X : Type 0} (a b : Bool) → (let r : Result Direction Reason = cond a (Err NoBinding) (cond b (Err NoBinding) (Ok way.Inward)) in r) ≡ Ok way.Hairpin → X
outside-back true b is = cc
outside-back false true is = cc
outside-back false false is = cc

-- no query goes back in
no-query-back : {X : Type 0} (networks : Networks) (side : Side) (source destination : ℕ) → direction_of networks side Icmp source destination ≡ Ok way.Hairpin → X
unfolding inside_direction outside_direction hairpin_direction
no-query-back networks Inside source destination is =
    inside-back (not (lies_in source networks.inside.interface) || (source == networks.inside.interface.virtual_ip.0) || is_martian source)
    (destination == networks.outside.interface.virtual_ip.0)
    (lies_in destination networks.inside.interface || is_martian destination) is
no-query-back networks Outside source destination is =
    outside-back (not (destination == networks.outside.interface.virtual_ip.0))
    (lies_in source networks.inside.interface || (source == networks.outside.interface.virtual_ip.0) || is_martian source) is

-- a source that isn't inside is none of the box's at the inside
not-inside : (networks : Networks) (source : ℕ) → IsPlaced networks → lies_in source networks.inside.interface ≡ false
    → ((source == networks.inside.own_ip.0) ≡ false) × ((source == networks.inside.interface.virtual_ip.0) ≡ false)
not-inside networks source placed out = (
  differ (λ (a : ℕ). lies_in a networks.inside.interface) source networks.inside.own_ip.0 out placed.inside_own,
  differ (λ (a : ℕ). lies_in a networks.inside.interface) source networks.inside.interface.virtual_ip.0 out (virtual-lies networks.inside.interface),
)

-- the outside virtual address is no own one
virtual-not-own : (networks : Networks) → IsPlaced networks → (networks.outside.interface.virtual_ip.0 == networks.outside.own_ip.0) ≡ false
virtual-not-own networks placed = number-other _ _ (λ e. placed.outside_other (sym e))

-- the frame by which a packet is sent on isn't own
abbrev pub GoesSo : Networks → Side → Translation → List ℕ → Type 0
GoesSo networks side t bytes =
    let flow = flow_in bytes in
    direction_of networks side flow.protocol flow.source.0 flow.destination.0 ≡ Ok (way_of t)

-- the frame of a hairpin isn't own
hairpin-none : (networks : Networks) (side : Side) (own other : Pair) (next : Mac) (bytes : List ℕ) → IsWired networks → length next.0 ≡ 6 → IsForwardable bytes → GoesSo networks side (Hairpin own other) bytes
    → (b : Bool) → ((header_of (frame_of bytes).body).protocol == PROTOCOL) ≡ b → is_own_frame networks Inside (sent_frame networks (Hairpin own other) next bytes) ≡ false
hairpin-none networks side own other next bytes wired six f goes false other_one =
    other-protocol-none networks Inside _ (ap (λ (p : ℕ). p == PROTOCOL) (sent-protocol networks (Hairpin own other) next bytes wired six f) ∙ other_one)
hairpin-none networks side own other next bytes wired six f goes true one =
    let flow = flow_in bytes in
    let icmp : flow.protocol ≡ Icmp = of-flow bytes (same-number (header_of (frame_of bytes).body).protocol PROTOCOL one) in
    no-query-back networks side flow.source.0 flow.destination.0 (subst (λ (p : Protocol). direction_of networks side p flow.source.0 flow.destination.0 ≡ Ok way.Hairpin) icmp goes)

pub sent-is_not_own : (networks : Networks) (side : Side) (t : Translation) (next : Mac) (bytes : List ℕ) → IsWired networks → IsPlaced networks → length next.0 ≡ 6 → IsForwardable bytes → AreBytes bytes → GoesSo networks side t bytes
    → is_translation (exit_of (way_of t)) (sent_frame networks t next bytes) ≡ true
    → is_own_frame networks (exit_of (way_of t)) (sent_frame networks t next bytes) ≡ false
unfolding flow_in
sent-is_not_own networks side (Outward pair) next bytes wired placed six f are goes is =
    let frame = sent_frame networks (Outward pair) next bytes in
    let from = sent-source networks (Outward pair) next bytes wired six f placed.outside_virtual in
    outward-none networks frame networks.outside.interface.virtual_ip.0 ((header_of (frame_of frame).body).protocol == PROTOCOL) refl is from (virtual-not-own networks placed)
sent-is_not_own networks side (Inward pair) next bytes wired placed six f are goes is =
    let packet = (frame_of bytes).body in
    let from = sent-source networks (Inward pair) next bytes wired six f (source-fits packet (body-bytes bytes are)) in
    let comes = comes-in networks side _ (header_of packet).source _ goes in
    let apart = not-inside networks (header_of packet).source placed comes.0 in
    other-source-none networks Inside _ (header_of packet).source from apart.0 (inr (apart.1, comes.1))
sent-is_not_own networks side (Hairpin own other) next bytes wired placed six f are goes is = hairpin-none networks side own other next bytes wired six f goes _ refl

-- The frame by which an error is passed on.
passed-source : (networks : Networks) (t : Translation) (next : Mac) (bytes : List ℕ) → IsWired networks → length next.0 ≡ 6 → IsPassable bytes
    → (new_error_flow networks t (error_flow (frame_of bytes).body)).source.0 < 4294967296
    → (header_of (frame_of (passed_frame networks t next bytes)).body).source ≡ (new_error_flow networks t (error_flow (frame_of bytes).body)).source.0
unfolding passed_frame passed_by
passed-source networks t next bytes wired six f fits =
    let packet = (frame_of bytes).body in
    let total = (header_of packet).total_length in
    let h = (header_of packet).header_length in
    let flow = own_flow (new_error_flow networks t (error_flow packet)) in
    let rest = take total (passed_by networks t packet) in
    let long : 20 ≤ length (take h packet) = omega (arith, length-take h packet, f.ipv4.long, f.ipv4.holds_fields, f.ipv4.holds_header, f.ipv4.there) in
    ap (λ (xs : List ℕ). (header_of xs).source) (body-there next.0 (exit_mac networks t).0 rest 8 0 six (own-six networks t wired))
    ∙ (cut-source (passed_by networks t packet) total (omega (arith, f.ipv4.holds_fields, f.ipv4.holds_header))
    ∙ header-source flow (take h packet) _ _ long fits)

error-no_reply : (k : ℕ) → is_error k ≡ true → (k == 0) ≡ false
error-no_reply k is = grind (arith, nat_tests)

error-kind : (a b : Bool) (k : ℕ) → (a && b && is_error k) ≡ true → (k == 0) ≡ false
error-kind true true k is = error-no_reply k is
error-kind true false k is = cc
error-kind false true k is = cc
error-kind false false k is = cc

frame-kind : (bytes : List ℕ) → is_error_frame bytes ≡ true → (slice_index (payload_of (frame_of bytes).body) 0 == 0) ≡ false
unfolding is_error_frame
frame-kind bytes is = error-kind ((frame_of bytes).ethertype == 2048) ((header_of (frame_of bytes).body).protocol == 1) _ is

goes-too : (r : Result Direction Reason) (b : Bool) (w : Direction) → (let x : Result Direction Reason = and_then r (λ v. cond b (Ok v) (Err NoBinding)) in x) ≡ Ok w → r ≡ Ok w
goes-too (Ok v) true w is = is
goes-too (Ok v) false w is = cc
goes-too (Err reason) b w is = cc

error-goes : (networks : Networks) (side : Side) (bytes : List ℕ) (w : Direction) → error_direction networks side (error_flow_in bytes) ≡ Ok w
    → (let flow = error_flow_in bytes in direction_of networks side flow.inside.protocol flow.source.0 flow.destination.0 ≡ Ok w)
unfolding error_direction
error-goes networks side bytes w is = goes-too _ _ w is

pub passed-is_not_own : (networks : Networks) (side : Side) (t : Translation) (next : Mac) (bytes : List ℕ) → IsWired networks → IsPlaced networks → length next.0 ≡ 6 → IsPassable bytes → AreBytes bytes
    → error_direction networks side (error_flow_in bytes) ≡ Ok (way_of t) → is_error_frame (passed_frame networks t next bytes) ≡ true
    → is_own_frame networks (exit_of (way_of t)) (passed_frame networks t next bytes) ≡ false
unfolding error_flow_in
passed-is_not_own networks side (Outward pair) next bytes wired placed six f are goes is =
    let from = passed-source networks (Outward pair) next bytes wired six f placed.outside_virtual in
    other-source-none networks Outside _ networks.outside.interface.virtual_ip.0 from (virtual-not-own networks placed) (inl (frame-kind _ is))
passed-is_not_own networks side (Inward pair) next bytes wired placed six f are goes is =
    let packet = (frame_of bytes).body in
    let from = passed-source networks (Inward pair) next bytes wired six f (source-fits packet (body-bytes bytes are)) in
    let comes = comes-in networks side _ (header_of packet).source _ (error-goes networks side bytes _ goes) in
    other-source-none networks Inside _ (header_of packet).source from (not-inside networks (header_of packet).source placed comes.0).0 (inl (frame-kind _ is))
passed-is_not_own networks side (Hairpin own other) next bytes wired placed six f are goes is =
    let virtual = networks.outside.interface.virtual_ip.0 in
    let from = passed-source networks (Hairpin own other) next bytes wired six f placed.outside_virtual in
    other-source-none networks Inside _ virtual from (not-inside networks virtual placed (virtual-apart networks placed)).0 (inl (frame-kind _ is))

-- The packets that the box sends of its own.
abbrev pub OwnPackets : Type 0
OwnPackets = (cutting : Cutting) (service from to : ℕ) (message : List ℕ) → identification_of cutting < 2 ^ 16 → service < 2 ^ 8 → from < 2 ^ 32 → to < 2 ^ 32 → 20 + length message < 2 ^ 16
    → IsOwnPacket cutting service from to message (own_packet cutting service from to message)

own-body : (network : Network) (next : Mac) (packet : List ℕ) → length next.0 ≡ 6 → length network.own_mac.0 ≡ 6
    → ((frame_of (own_frame network next packet)).ethertype ≡ 2048) × ((frame_of (own_frame network next packet)).body ≡ packet)
unfolding own_frame
own-body network next packet six own = (type-there next.0 network.own_mac.0 packet 8 0 six own, body-there next.0 network.own_mac.0 packet 8 0 six own)

wired-at : (networks : Networks) (side : Side) → IsWired networks → length (network_of networks side).own_mac.0 ≡ 6
wired-at networks Inside wired = wired.inside_mac
wired-at networks Outside wired = wired.outside_mac

own-fits : (networks : Networks) (side : Side) → IsPlaced networks → (network_of networks side).own_ip.0 < 2 ^ 32
own-fits networks Inside placed = placed.inside_number
own-fits networks Outside placed = placed.outside_number

knows-outside : (networks : Networks) (side : Side) → IsPlaced networks → (network_of networks side).outside_ip ≡ networks.outside.interface.virtual_ip
knows-outside networks Inside placed = placed.inside_knows
knows-outside networks Outside placed = placed.outside_knows

-- the packet that answers an Echo fits in the total length
ask-short : (bytes : List ℕ) → IsAskable bytes → 20 + length (reply_message (payload_of (frame_of bytes).body)) < 65536
ask-short bytes f =
    let packet = (frame_of bytes).body in
    let ask = payload_of packet in
    let h = (header_of packet).header_length in
    let size : length (reply_message ask) ≡ 8 + length (query_data ask) = omega arith in
    omega (arith, size, length-drop 8 ask, length-take ((header_of packet).total_length - h) (drop h packet), length-drop h packet, length-drop 14 bytes, f.frame.short, f.frame.ipv4.holds_fields)

-- so does what it answers, without its options
pub ask-fits : (bytes : List ℕ) → IsAskable bytes → 20 + length (payload_of (frame_of bytes).body) < 65536
ask-fits bytes f =
    let packet = (frame_of bytes).body in
    let h = (header_of packet).header_length in
    omega (arith, length-take ((header_of packet).total_length - h) (drop h packet), length-drop h packet, length-drop 14 bytes, f.frame.short, f.frame.ipv4.holds_fields)

pub ask-room : (bytes : List ℕ) → IsAskable bytes → 34 + length (payload_of (frame_of bytes).body) ≤ length bytes
ask-room bytes f =
    let packet = (frame_of bytes).body in
    let h = (header_of packet).header_length in
    omega (arith, length-take ((header_of packet).total_length - h) (drop h packet), length-drop h packet, length-drop 14 bytes, f.frame.whole, f.frame.ipv4.long, f.frame.ipv4.holds_fields, f.frame.ipv4.holds_header, f.frame.ipv4.there)

-- the identification of an answer is a number of 16 bits
two-fit : (a b : ℕ) → a < 256 → b < 256 → a * 256 + (b * 1 + 0) < 65536
two-fit a b w x = omega arith

identification-fits : (packet : List ℕ) → AreBytes packet → (header_of packet).identification < 65536
identification-fits packet are =
    let fits : (i : ℕ) → slice_index (drop 4 packet) i < 256 = λ i. subst (λ (x : ℕ). x < 256) (sym (get_or-drop 4 packet i 0)) (are (4 + i)) in
    two-fit _ _ (fits 0) (fits 1)

cutting-fits-by : (b : Bool) (n : ℕ) → n < 65536 → identification_of (cond b (Allowed n) Forbidden) < 65536
cutting-fits-by true n fits = fits
cutting-fits-by false n fits = omega arith

cutting-fits : (network : Network) (packet : List ℕ) → AreBytes packet → identification_of (answer_cutting network packet) < 65536
unfolding answer_cutting
cutting-fits network packet are = cutting-fits-by (is_long_answer network packet) (header_of packet).identification (identification-fits packet are)

pub answer-said : OwnPackets → (network : Network) (bytes : List ℕ) → IsAskable bytes → AreBytes bytes
    → (let packet = (frame_of bytes).body in IsOwnPacket (answer_cutting network packet) 0 (header_of packet).destination (header_of packet).source (reply_message (payload_of packet)) (answer_packet network packet))
unfolding answer_packet
answer-said law network bytes f are =
    let packet = (frame_of bytes).body in
    let bodies = body-bytes bytes are in
    law (answer_cutting network packet) 0 (header_of packet).destination (header_of packet).source (reply_message (payload_of packet)) (cutting-fits network packet bodies) (omega arith) (destination-fits packet bodies) (source-fits packet bodies) (ask-short bytes f)

-- the message of a complaint
abbrev complaint-message : Complaint → List ℕ → List ℕ
complaint-message Exceeded packet = exceeded_message packet
complaint-message (TooBig mtu) packet = too_long_message packet mtu

quoted-short : (packet : List ℕ) → length (quoted packet) ≤ 548
quoted-short packet = omega (arith, length-take 548 (take (header_of packet).total_length packet))

complaint-short : (complaint : Complaint) (packet : List ℕ) → 20 + length (complaint-message complaint packet) < 65536
complaint-short Exceeded packet =
    let size : length (exceeded_message packet) ≡ 8 + length (quoted packet) = omega arith in
    omega (arith, size, quoted-short packet)
complaint-short (TooBig mtu) packet =
    let size : length (too_long_message packet mtu) ≡ 8 + length (quoted packet) = omega arith in
    omega (arith, size, quoted-short packet)

complaint-said : OwnPackets → (network : Network) (complaint : Complaint) (packet : List ℕ) → network.own_ip.0 < 2 ^ 32 → AreBytes packet
    → IsOwnPacket Forbidden 192 network.own_ip.0 (header_of packet).source (complaint-message complaint packet) (complaint_packet network complaint packet)
unfolding complaint_packet
complaint-said law network Exceeded packet own are =
    law Forbidden 192 network.own_ip.0 (header_of packet).source (exceeded_message packet) (omega arith) (omega arith) own (source-fits packet are) (complaint-short Exceeded packet)
complaint-said law network (TooBig mtu) packet own are =
    law Forbidden 192 network.own_ip.0 (header_of packet).source (too_long_message packet mtu) (omega arith) (omega arith) own (source-fits packet are) (complaint-short (TooBig mtu) packet)

-- the tests of an own frame hold where each part does
own-first : (a b c d : Bool) → a ≡ true → b ≡ true → c ≡ true → (a && (b && (c || d))) ≡ true
own-first a b c d x y z = rw (x, y, z) refl

own-replied : (a b c d e : Bool) → a ≡ true → b ≡ true → d ≡ true → e ≡ true → (a && (b && (c || (d && e)))) ≡ true
own-replied a b true d e x y z w = rw (x, y) refl
own-replied a b false d e x y z w = rw (x, y, z, w) refl

pub complaint-is_own : OwnPackets → (networks : Networks) (side : Side) (complaint : Complaint) (next : Mac) (bytes : List ℕ) → IsWired networks → IsPlaced networks → length next.0 ≡ 6 → AreBytes bytes
    → is_own_frame networks side (complaint_frame (network_of networks side) complaint next bytes) ≡ true
unfolding is_own_frame
complaint-is_own law networks side complaint next bytes wired placed six are =
    let packet = (frame_of bytes).body in
    let network = network_of networks side in
    let said = complaint-said law network complaint packet (own-fits networks side placed) (body-bytes bytes are) in
    let frame = own-body network next (complaint_packet network complaint packet) six (wired-at networks side wired) in
    own-first _ _ _ _ (number-same _ _ frame.0)
    (number-same _ _ (ap (λ (xs : List ℕ). (header_of xs).protocol) frame.1 ∙ said.protocol))
    (number-same _ _ (ap (λ (xs : List ℕ). (header_of xs).source) frame.1 ∙ said.source))

-- which address an Echo asks
asked-or : (a v x y : Bool) → (a && (v && (x || y))) ≡ true → (x ≡ true) ⊎ (y ≡ true)
asked-or true true true y is = inl refl
asked-or true true false true is = inr refl
asked-or true true false false is = cc
asked-or true false x y is = cc
asked-or false v x y is = cc

box-or : (m o a v x y : Bool) → ((m && o) || (a && (v && (x || y)))) ≡ true → (o ≡ true) ⊎ ((x ≡ true) ⊎ (y ≡ true))
box-or true true a v x y is = inl refl
box-or true false a v x y is = inr (asked-or a v x y is)
box-or false o a v x y is = inr (asked-or a v x y is)

to-box : (network : Network) (active : Bool) (bytes : List ℕ) → is_to_box network active (frame_of bytes) ≡ true
    → (let destination = (header_of (frame_of bytes).body).destination in
    ((destination == network.own_ip.0) ≡ true) ⊎ (((destination == network.interface.virtual_ip.0) ≡ true) ⊎ ((destination == network.outside_ip.0) ≡ true)))
unfolding is_to_box
to-box network active bytes is = box-or _ _ _ _ _ _ is

asked-to : (network : Network) (active : Bool) (bytes : List ℕ) → is_asked network active (frame_of bytes) ≡ true → is_to_box network active (frame_of bytes) ≡ true
unfolding is_asked
asked-to network active bytes is =
    (both-true (is_to_box network active (frame_of bytes)) (is_echo (frame_of bytes).body) (both-true network.icmp.echo (is_to_box network active (frame_of bytes) && is_echo (frame_of bytes).body) is).1).0

-- the address that is asked is the own one, the virtual one, or the outside one
record IsAskedAt (networks : Networks) (side : Side) (destination : ℕ) : Type 0 where
  pub one : (destination ≡ (network_of networks side).own_ip.0) ⊎ ((destination ≡ (network_of networks side).interface.virtual_ip.0) ⊎ (destination ≡ networks.outside.interface.virtual_ip.0))

asked-at-by : (networks : Networks) (side : Side) (destination : ℕ) → IsPlaced networks
    → ((destination == (network_of networks side).own_ip.0) ≡ true) ⊎ (((destination == (network_of networks side).interface.virtual_ip.0) ≡ true) ⊎ ((destination == (network_of networks side).outside_ip.0) ≡ true))
    → IsAskedAt networks side destination
asked-at-by networks side destination placed (inl own) = record { one = inl (same-number _ _ own) }
asked-at-by networks side destination placed (inr (inl virtual)) = record { one = inr (inl (same-number _ _ virtual)) }
asked-at-by networks side destination placed (inr (inr outside)) =
    record { one = inr (inr (same-number destination (network_of networks side).outside_ip.0 outside ∙ ap (λ (ip : Ip). ip.0) (knows-outside networks side placed))) }

asked-at : (networks : Networks) (side : Side) (active : Bool) (bytes : List ℕ) → IsPlaced networks → is_asked (network_of networks side) active (frame_of bytes) ≡ true
    → IsAskedAt networks side (header_of (frame_of bytes).body).destination
asked-at networks side active bytes placed is =
    let network = network_of networks side in
    asked-at-by networks side _ placed (to-box network active bytes (asked-to network active bytes is))

or-first : (a b : Bool) → a ≡ true → (a || b) ≡ true
or-first a b x = rw x refl

or-second : (a b : Bool) → b ≡ true → (a || b) ≡ true
or-second true b x = refl
or-second false b x = x

answer-own-by : (networks : Networks) (side : Side) (frame : List ℕ) (destination : ℕ) → (frame_of frame).ethertype ≡ 2048 → (header_of (frame_of frame).body).protocol ≡ 1
    → (header_of (frame_of frame).body).source ≡ destination → slice_index (payload_of (frame_of frame).body) 0 ≡ 0
    → (destination ≡ (network_of networks side).own_ip.0) ⊎ ((destination ≡ (network_of networks side).interface.virtual_ip.0) ⊎ (destination ≡ networks.outside.interface.virtual_ip.0))
    → is_own_frame networks side frame ≡ true
unfolding is_own_frame
answer-own-by networks side frame destination type protocol source kind (inl own) =
    own-first _ _ _ _ (number-same _ _ type) (number-same _ _ protocol) (number-same _ _ (source ∙ own))
answer-own-by networks side frame destination type protocol source kind (inr (inl virtual)) =
    own-replied _ _ _ _ _ (number-same _ _ type) (number-same _ _ protocol) (number-same _ _ kind) (or-first _ _ (number-same _ _ (source ∙ virtual)))
answer-own-by networks side frame destination type protocol source kind (inr (inr outside)) =
    own-replied _ _ _ _ _ (number-same _ _ type) (number-same _ _ protocol) (number-same _ _ kind) (or-second _ _ (number-same _ _ (source ∙ outside)))

pub answer-is_own : OwnPackets → (networks : Networks) (side : Side) (active : Bool) (next : Mac) (bytes : List ℕ) → IsWired networks → IsPlaced networks → length next.0 ≡ 6 → AreBytes bytes → IsAskable bytes
    → is_asked (network_of networks side) active (frame_of bytes) ≡ true
    → is_own_frame networks side (answer_frame (network_of networks side) next bytes) ≡ true
answer-is_own law networks side active next bytes wired placed six are f is =
    let packet = (frame_of bytes).body in
    let network = network_of networks side in
    let said = answer-said law network bytes f are in
    let frame = own-body network next (answer_packet network packet) six (wired-at networks side wired) in
    answer-own-by networks side _ (header_of packet).destination frame.0
    (ap (λ (xs : List ℕ). (header_of xs).protocol) frame.1 ∙ said.protocol)
    (ap (λ (xs : List ℕ). (header_of xs).source) frame.1 ∙ said.source)
    (ap (λ (xs : List ℕ). slice_index (payload_of xs) 0) frame.1 ∙ ap (λ (xs : List ℕ). slice_index xs 0) said.payload)
    (asked-at networks side active bytes placed is).one

-- An own frame at the outside shows no address of the inside network.
not-true : (b : Bool) → not b ≡ true → b ≡ false
not-true false is = refl
not-true true is = cc

asked-apart : (networks : Networks) (destination : ℕ) → IsPlaced networks
    → (destination ≡ networks.outside.own_ip.0) ⊎ ((destination ≡ networks.outside.interface.virtual_ip.0) ⊎ (destination ≡ networks.outside.interface.virtual_ip.0))
    → lies_in destination networks.inside.interface ≡ false
asked-apart networks destination placed (inl own) = ap (λ (a : ℕ). lies_in a networks.inside.interface) own ∙ placed.apart networks.outside.own_ip.0 placed.outside_own
asked-apart networks destination placed (inr (inl virtual)) = ap (λ (a : ℕ). lies_in a networks.inside.interface) virtual ∙ virtual-apart networks placed
asked-apart networks destination placed (inr (inr virtual)) = ap (λ (a : ℕ). lies_in a networks.inside.interface) virtual ∙ virtual-apart networks placed

answered-apart : (networks : Networks) (source : ℕ) → may_answer networks Outside source ≡ true → lies_in source networks.inside.interface ≡ false
unfolding may_answer may_come
answered-apart networks source is = not-true (lies_in source networks.inside.interface) (both-true (not (lies_in source networks.inside.interface)) (not (source == networks.outside.interface.virtual_ip.0)) (both-true (may_come networks Outside source) _ is).0).0

pub answer-hides : OwnPackets → (networks : Networks) (active : Bool) (next : Mac) (bytes : List ℕ) → IsWired networks → IsPlaced networks → length next.0 ≡ 6 → AreBytes bytes → IsAskable bytes
    → is_asked networks.outside active (frame_of bytes) ≡ true → may_answer networks Outside (header_of (frame_of bytes).body).source ≡ true
    → HidesHosts networks (answer_frame networks.outside next bytes)
answer-hides law networks active next bytes wired placed six are f is may =
    let packet = (frame_of bytes).body in
    let said = answer-said law networks.outside bytes f are in
    let frame = own-body networks.outside next (answer_packet networks.outside packet) six wired.outside_mac in
    let inside = λ (a : ℕ). lies_in a networks.inside.interface in (
      ap inside (ap (λ (xs : List ℕ). (header_of xs).source) frame.1 ∙ said.source) ∙ asked-apart networks _ placed (asked-at networks Outside active bytes placed is).one,
      ap inside (ap (λ (xs : List ℕ). (header_of xs).destination) frame.1 ∙ said.destination) ∙ answered-apart networks (header_of packet).source may,
    )

told-may : (networks : Networks) (packet : List ℕ) → is_told networks Outside packet ≡ true → may_answer networks Outside (header_of packet).source ≡ true
unfolding is_told
told-may networks packet is =
    (both-true (may_answer networks Outside (header_of packet).source) (is_to_host networks (header_of packet).destination)
    (both-true (not (is_any_error packet)) _ (both-true networks.outside.icmp.errors _ is).1).1).0

pub complaint-hides : OwnPackets → (networks : Networks) (complaint : Complaint) (next : Mac) (bytes : List ℕ) → IsWired networks → IsPlaced networks → length next.0 ≡ 6 → AreBytes bytes
    → is_told networks Outside (frame_of bytes).body ≡ true → HidesHosts networks (complaint_frame networks.outside complaint next bytes)
complaint-hides law networks complaint next bytes wired placed six are told =
    let packet = (frame_of bytes).body in
    let said = complaint-said law networks.outside complaint packet placed.outside_number (body-bytes bytes are) in
    let frame = own-body networks.outside next (complaint_packet networks.outside complaint packet) six wired.outside_mac in
    let inside = λ (a : ℕ). lies_in a networks.inside.interface in (
      ap inside (ap (λ (xs : List ℕ). (header_of xs).source) frame.1 ∙ said.source) ∙ placed.apart networks.outside.own_ip.0 placed.outside_own,
      ap inside (ap (λ (xs : List ℕ). (header_of xs).destination) frame.1 ∙ said.destination) ∙ answered-apart networks (header_of packet).source (told-may networks packet told),
    )
