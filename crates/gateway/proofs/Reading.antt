-- A frame that is read as a fragment carries one.
use Rattle.std.proofs.Common.{◌≡◌, ◌≤◌, ◌↔◌, ◌%◌, ◌/◌, ℕ, Bool, true, false, cond, not, ◌&&◌, ◌||◌, ◌==◌, nat_le, is_none, Option, Some, None, Result, Ok, Err, List, length, drop, refl, ap₂, subst, arith}
use Rattle.std.specs.Option.{option_map}
use Rattle.std.proofs.lemmas.Bool.Decides.{nat_tests}
use Rattle.std.proofs.lemmas.List.{drop-drop, length-drop}
use Rattle.byteorder.specs.Endian.{big_number}
use Rattle.frames.specs.Frame.{Frame, frame_of}
use Rattle.frames.specs.declared.ethernet.TheConstants.{LONGEST_WHOLE}
use Rattle.ipv4.specs.Header.{header_of, ipv4_refusal, is_fragment, payload_of}
use Rattle.ipv4.specs.Flow.{packet_of as packet_read}
use Rattle.ipv4.specs.Carried.{carries_neither, has_no_transport}
use Rattle.ipv4.specs.declared.faults.Ipv4Fault as fault
use Rattle.ipv4.specs.declared.faults.Ipv4Fault.{Ipv4Fault}
use Rattle.icmp.specs.declared.errors.TheConstants.{PROTOCOL}
use Rattle.icmp.specs.declared.faults.IcmpFault.{IcmpFault}
use Rattle.icmp.specs.declared.faults.IcmpFault.TheVariants.{NotError, BadError, NotQuery, BadQuery, NotAsked}
use Rattle.icmp.specs.Error.{has_error_kind}
use Rattle.icmp.specs.Packet.{error_packet_of, is_about, packet_refusal}
use Rattle.icmp.specs.Query.{query_packet_refusal}
use Rattle.arp.specs.Packet.{arp_refusal, packet_of}
use Rattle.vrrp_packet.specs.Message.{advert_refusal, advert_of}
use Rattle.nat_types.specs.declared.gateways.Side.{Side}
use Rattle.packet_rules.specs.declared.networks.Network.{Network}
use Rattle.packet_rules.specs.declared.readings.Reading.{Reading}
use Rattle.packet_rules.specs.declared.readings.Reading.TheVariants.{Arp, Advert, Packet, Error, Asked}
use Rattle.packet_rules.specs.declared.reasons.Reason.{Reason}
use Rattle.packet_rules.specs.declared.reasons.Reason.TheVariants.{ShortFrame, NotMine, TtlOver, BadArp, BadAdvert, NotUp, NoBinding}
use Rattle.packet_rules.specs.Asked.{asked_of, is_asked}
use Rattle.packet_rules.specs.Networks.{is_addressed, is_virtual}
use Rattle.packet_rules.specs.Queries.{kind_entering, kind_leaving}
use Rattle.packet_rules.specs.Steps.{about_refusal, advert_reading, arp_reading, body_reading, destination_refusal, error_reading, error_refusal, header_refusal, icmp_reading, ipv4_reading, is_from_peer, is_vrrp, other_reading, packet_reading, query_reading, query_refusal, reading_of, reason_of, reason_of_icmp, size_refusal, transport_reading, transport_refusal, ttl_refusal, unless, up_refusal, virtual_refusal}
use Rattle.fragments.specs.Fragment.{HasHeader, IsFragment, ipv4_in}
use Rattle.spec_gateway.specs.Arrivals.{is_part}
use Rattle.gateway.specs.Parts.{looks_cut}

-- a refusal as a fragment
abbrev parts : Option Reason → Bool
parts None = false
parts (Some reason) = is_part (Err reason)

-- a step that refuses for another reason doesn't read a fragment, where the next one doesn't
unless-other : (o : Option Reason) (step : Result Reading Reason) → parts o ≡ false → is_part step ≡ false → is_part (unless o step) ≡ false
unless-other None step other next = next
unless-other (Some reason) step other next = other

test-other : (b : Bool) (reason : Reason) → is_part (Err reason) ≡ false → parts (cond b None (Some reason)) ≡ false
test-other true reason other = refl
test-other false reason other = other

either-other : (b : Bool) (x y : Result Reading Reason) → is_part x ≡ false → is_part y ≡ false → is_part (cond b x y) ≡ false
either-other true x y one two = one
either-other false x y one two = two

-- ---- steps 5 and 6
advert-other : (network : Network) (packet : List ℕ) → is_part (advert_reading network packet) ≡ false
unfolding advert_reading
advert-other network packet =
    either-other (is_none (advert_refusal packet) && is_from_peer network packet) (Ok (Advert (advert_of (payload_of packet)) (record { 0 = (header_of packet).source }))) (Err BadAdvert) refl refl

ttl-other : (packet : List ℕ) → parts (ttl_refusal packet) ≡ false
unfolding ttl_refusal
ttl-other packet = test-other (nat_le 2 (header_of packet).ttl) TtlOver refl

virtual-other : (network : Network) (frame : Frame) → parts (virtual_refusal network frame) ≡ false
unfolding virtual_refusal
virtual-other network frame = test-other (is_virtual network frame.dst) NotMine refl

about-other : (side : Side) (packet : List ℕ) → parts (about_refusal side packet) ≡ false
unfolding about_refusal
about-other side packet = test-other (is_about (kind_leaving side) packet) NoBinding refl

icmp-other : (o : Option IcmpFault) → parts (option_map reason_of_icmp o) ≡ false
icmp-other None = refl
icmp-other (Some NotError) = refl
icmp-other (Some BadError) = refl
icmp-other (Some NotQuery) = refl
icmp-other (Some BadQuery) = refl
icmp-other (Some NotAsked) = refl

carried-other : (packet : List ℕ) → parts (transport_refusal packet) ≡ false
unfolding transport_refusal
carried-other packet = by (carries_neither packet) (has_no_transport packet)
  where
    by : (a b : Bool) → parts (option_map reason_of (cond a (Some fault.TheVariants.NotUdpTcp) (cond b (Some fault.TheVariants.BadTransport) None))) ≡ false
    by true b = refl
    by false true = refl
    by false false = refl

transport-other : (packet : List ℕ) → is_part (transport_reading packet) ≡ false
unfolding transport_reading
transport-other packet =
    unless-other (transport_refusal packet) (unless (ttl_refusal packet) (Ok (Packet (packet_read packet)))) (carried-other packet)
    (unless-other (ttl_refusal packet) (Ok (Packet (packet_read packet))) (ttl-other packet) refl)

query-other : (side : Side) (packet : List ℕ) → is_part (query_reading side packet) ≡ false
unfolding query_reading query_refusal
query-other side packet =
    unless-other (option_map reason_of_icmp (query_packet_refusal (kind_entering side) packet)) (unless (ttl_refusal packet) (Ok (Packet (packet_read packet)))) (icmp-other (query_packet_refusal (kind_entering side) packet))
    (unless-other (ttl_refusal packet) (Ok (Packet (packet_read packet))) (ttl-other packet) refl)

error-other : (side : Side) (packet : List ℕ) → is_part (error_reading side packet) ≡ false
unfolding error_reading error_refusal
error-other side packet =
    unless-other (option_map reason_of_icmp (packet_refusal packet)) (unless (ttl_refusal packet) (unless (about_refusal side packet) (Ok (Error (error_packet_of packet))))) (icmp-other (packet_refusal packet))
    (unless-other (ttl_refusal packet) (unless (about_refusal side packet) (Ok (Error (error_packet_of packet)))) (ttl-other packet)
    (unless-other (about_refusal side packet) (Ok (Error (error_packet_of packet))) (about-other side packet) refl))

packet-other : (side : Side) (network : Network) (frame : Frame) → is_part (packet_reading side network frame) ≡ false
unfolding packet_reading icmp_reading
packet-other side network frame =
    unless-other (virtual_refusal network frame) (cond ((header_of frame.body).protocol == PROTOCOL) (cond (has_error_kind (payload_of frame.body)) (error_reading side frame.body) (query_reading side frame.body)) (transport_reading frame.body)) (virtual-other network frame)
    (either-other ((header_of frame.body).protocol == PROTOCOL) (cond (has_error_kind (payload_of frame.body)) (error_reading side frame.body) (query_reading side frame.body)) (transport_reading frame.body)
    (either-other (has_error_kind (payload_of frame.body)) (error_reading side frame.body) (query_reading side frame.body) (error-other side frame.body) (query-other side frame.body))
    (transport-other frame.body))

rest-other : (side : Side) (network : Network) (active : Bool) (frame : Frame) → is_part (cond (is_asked network active frame) (Ok (Asked (asked_of frame.body))) (other_reading side network frame)) ≡ false
unfolding other_reading
rest-other side network active frame =
    either-other (is_asked network active frame) (Ok (Asked (asked_of frame.body))) (cond (is_vrrp frame.body) (advert_reading network frame.body) (packet_reading side network frame)) refl
    (either-other (is_vrrp frame.body) (advert_reading network frame.body) (packet_reading side network frame) (advert-other network frame.body) (packet-other side network frame))

-- ---- steps 1 to 4
ipv4-part : (side : Side) (network : Network) (active : Bool) (frame : Frame) → is_part (ipv4_reading side network active frame) ≡ true → ipv4_refusal frame.body ≡ Some fault.TheVariants.Fragment
unfolding ipv4_reading header_refusal
ipv4-part side network active frame part = at (ipv4_refusal frame.body) refl part
  where
    rest : Result Reading Reason
    rest = cond (is_asked network active frame) (Ok (Asked (asked_of frame.body))) (other_reading side network frame)

    at : (o : Option Ipv4Fault) → ipv4_refusal frame.body ≡ o → is_part (unless (option_map reason_of o) rest) ≡ true → ipv4_refusal frame.body ≡ Some fault.TheVariants.Fragment
    at None is has = let none : is_part rest ≡ false = rest-other side network active frame in absurd (cc)
    at (Some fault.TheVariants.Fragment) is has = is
    at (Some fault.TheVariants.TooShort) is has = absurd (cc)
    at (Some fault.TheVariants.BadVersion) is has = absurd (cc)
    at (Some fault.TheVariants.BadLength) is has = absurd (cc)
    at (Some fault.TheVariants.BadHeaderSum) is has = absurd (cc)
    at (Some fault.TheVariants.SourceRoute) is has = absurd (cc)
    at (Some fault.TheVariants.NotUdpTcp) is has = absurd (cc)
    at (Some fault.TheVariants.BadTransport) is has = absurd (cc)

body-part : (side : Side) (network : Network) (active : Bool) (frame : Frame) → is_part (body_reading side network active frame) ≡ true → ipv4_refusal frame.body ≡ Some fault.TheVariants.Fragment
unfolding body_reading arp_reading
body-part side network active frame part = by (frame.ethertype == 2054) part
  where
    by : (b : Bool) → is_part (cond b (cond (is_none (arp_refusal frame.body)) (Ok (Arp (packet_of frame.body))) (Err BadArp)) (ipv4_reading side network active frame)) ≡ true → ipv4_refusal frame.body ≡ Some fault.TheVariants.Fragment
    by true has =
        let none : is_part (cond (is_none (arp_refusal frame.body)) (Ok (Arp (packet_of frame.body))) (Err BadArp)) ≡ false =
        either-other (is_none (arp_refusal frame.body)) (Ok (Arp (packet_of frame.body))) (Err BadArp) refl refl in
        absurd (cc)
    by false has = ipv4-part side network active frame has

-- where a step refuses for another reason, a fragment is read by the next one
through : (b : Bool) (reason : Reason) (step : Result Reading Reason) → is_part (Err reason) ≡ false → is_part (unless (cond b None (Some reason)) step) ≡ true → (b ≡ true) × (is_part step ≡ true)
through true reason step other has = (refl, has)
through false reason step other has = absurd (cc)

at-least : (m n : ℕ) (more : Bool) → (nat_le m n && more) ≡ true → m ≤ n
at-least m n more e = grind (arith, nat_tests)

pub record IsReadCut (bytes : List ℕ) : Type 0 where
  pub whole : 14 ≤ length bytes
  pub refusal : ipv4_refusal (frame_of bytes).body ≡ Some fault.TheVariants.Fragment

pub part-read : (side : Side) (network : Network) (active up : Bool) (bytes : List ℕ) → is_part (reading_of side network active up bytes) ≡ true → IsReadCut bytes
unfolding size_refusal up_refusal destination_refusal
part-read side network active up bytes part =
    let frame : Frame = frame_of bytes in
    let sized = through (nat_le 14 (length bytes) && nat_le (length bytes) LONGEST_WHOLE) ShortFrame (unless (up_refusal up) (unless (destination_refusal network active frame) (body_reading side network active frame))) refl part in
    let running = through up NotUp (unless (destination_refusal network active frame) (body_reading side network active frame)) refl sized.1 in
    let addressed = through (is_addressed network active frame.dst && ((frame.ethertype == 2048) || (frame.ethertype == 2054))) NotMine (body_reading side network active frame) refl running.1 in
    record {
      whole = at-least 14 (length bytes) (nat_le (length bytes) LONGEST_WHOLE) sized.0;
      refusal = body-part side network active frame addressed.1;
    }

-- a packet is refused as a fragment where it has a right header and is one
abbrev pub Grammar : Type 0
Grammar = (packet : List ℕ) → (ipv4_refusal packet ≡ Some fault.TheVariants.Fragment) ↔ (HasHeader packet × (is_fragment (header_of packet) ≡ true))

pub part-is : Grammar → (side : Side) (network : Network) (active up : Bool) (bytes : List ℕ) → is_part (reading_of side network active up bytes) ≡ true → IsFragment bytes
part-is grammar side network active up bytes part =
    let read = part-read side network active up bytes part in
    let is = (grammar (ipv4_in bytes)).0 read.refusal in
    record { whole = read.whole; header = is.0; part = is.1 }

-- ---- the bytes that say so
word-cut : (word : ℕ) → (not (word / 8192 % 2 == 0) || not (word % 8192 == 0)) ≡ true → not (word % 0x4000 == 0) ≡ true
word-cut word e = grind (arith, nat_tests)

long-enough : (n : ℕ) → 34 ≤ n → nat_le 22 n ≡ true
long-enough n h = grind (arith, nat_tests)

both-true : (a b : Bool) → a ≡ true → b ≡ true → (a && b) ≡ true
both-true a b one two = ap₂ (λ (x y : Bool). x && y) one two

pub cut-looks : (bytes : List ℕ) → IsFragment bytes → looks_cut bytes ≡ true
cut-looks bytes is =
    both-true (nat_le 22 (length bytes)) (not (big_number 2 (drop 20 bytes) % 0x4000 == 0))
    (long-enough (length bytes) (omega (arith, is.whole, is.header.long, length-drop 14 bytes)))
    (subst (λ (xs : List ℕ). not (big_number 2 xs % 0x4000 == 0) ≡ true) (drop-drop 6 14 bytes) (word-cut (big_number 2 (drop 6 (drop 14 bytes))) is.part))

-- what doesn't look so isn't read as a fragment
pub plain-read : Grammar → (side : Side) (network : Network) (active up : Bool) (bytes : List ℕ) → looks_cut bytes ≡ false → is_part (reading_of side network active up bytes) ≡ false
plain-read grammar side network active up bytes plain = at (is_part (reading_of side network active up bytes)) refl
  where
    at : (b : Bool) → is_part (reading_of side network active up bytes) ≡ b → b ≡ false
    at false is = refl
    at true is = let looks = cut-looks bytes (part-is grammar side network active up bytes is) in absurd (cc)
