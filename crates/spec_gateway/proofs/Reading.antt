-- A frame that is read as a fragment carries one.
use Rattle.std.proofs.Common.{◌≡◌, ◌≤◌, ◌↔◌, ◌&&◌, ◌==◌, ℕ, Bool, true, false, cond, nat_le, is_none, Option, None, Some, Result, Ok, Err, List, [], ◌∷◌, length, refl, ap, ◌∙◌, sym, arith}
use Rattle.std.specs.Option.{option_map}
use Rattle.std.proofs.lemmas.Bool.Decides.{nat_tests}
use Rattle.arp.specs.Packet.{arp_refusal, packet_of}
use Rattle.vrrp_packet.specs.Message.{advert_of, advert_refusal}
use Rattle.nat_types.specs.declared.gateways.Side.{Side}
use Rattle.frames.specs.Frame.{Frame, frame_of}
use Rattle.frames.specs.declared.ethernet.TheConstants.{LONGEST_WHOLE}
use Rattle.icmp.specs.declared.errors.TheConstants.{PROTOCOL}
use Rattle.icmp.specs.declared.faults.IcmpFault.{IcmpFault}
use Rattle.icmp.specs.declared.faults.IcmpFault.TheVariants.{NotError, BadError, NotQuery, BadQuery, NotAsked}
use Rattle.icmp.specs.Error.{has_error_kind}
use Rattle.icmp.specs.Packet.{is_about, packet_refusal}
use Rattle.icmp.specs.Query.{query_packet_refusal}
use Rattle.ipv4.specs.Header.{header_of, ipv4_refusal, is_fragment, payload_of}
use Rattle.ipv4.specs.Order.{first_fault}
use Rattle.ipv4.specs.Carried.{carries_neither, has_no_transport}
use Rattle.ipv4.specs.declared.faults.Ipv4Fault as fault
use Rattle.ipv4.specs.declared.faults.Ipv4Fault.{Ipv4Fault}
use Rattle.packet_rules.specs.declared.networks.Network.{Network}
use Rattle.packet_rules.specs.declared.readings.Reading.{Reading}
use Rattle.packet_rules.specs.declared.readings.Reading.TheVariants.{Arp, Advert}
use Rattle.packet_rules.specs.declared.reasons.Reason.{Reason}
use Rattle.packet_rules.specs.declared.reasons.Reason.TheVariants.{ShortFrame, NotMine, BadHeader, BadLength, BadHeaderSum, Fragment, TtlOver, NotUdpTcp, BadTransport, BadArp, BadAdvert, NotUp, NoBinding, NoPort, CannotWait, BadDatagram, OldWord, HostLimit, TooLong, TooMany, SourceRoute}
use Rattle.packet_rules.specs.Asked.{is_asked}
use Rattle.packet_rules.specs.Networks.{is_virtual}
use Rattle.packet_rules.specs.Queries.{kind_entering, kind_leaving}
use Rattle.packet_rules.specs.Steps.{about_refusal, advert_reading, arp_reading, body_reading, destination_refusal, error_reading, error_refusal, header_refusal, icmp_reading, ipv4_reading, is_from_peer, is_vrrp, other_reading, packet_reading, query_reading, query_refusal, reading_of, reason_of, reason_of_icmp, size_refusal, transport_reading, transport_refusal, ttl_refusal, unless, up_refusal, virtual_refusal}
use Rattle.fragments.specs.Fragment.{HasHeader, IsFragment}
use Rattle.spec_gateway.specs.Arrivals.{is_part}

-- what ipv4's header says of fragments, as the crate fragments proves it
abbrev pub Grammar : Type 0
Grammar = (packet : List ℕ) → (ipv4_refusal packet ≡ Some fault.TheVariants.Fragment) ↔ (HasHeader packet × (is_fragment (header_of packet) ≡ true))

-- a drop for any other reason isn't a fragment
other-reason : (reason : Reason) → (reason ≡ Fragment → ⊥) → is_part (Err reason) ≡ false
other-reason ShortFrame other = refl
other-reason NotMine other = refl
other-reason BadHeader other = refl
other-reason BadLength other = refl
other-reason BadHeaderSum other = refl
other-reason Fragment other = absurd (other refl)
other-reason TtlOver other = refl
other-reason NotUdpTcp other = refl
other-reason BadTransport other = refl
other-reason BadArp other = refl
other-reason BadAdvert other = refl
other-reason NotUp other = refl
other-reason NoBinding other = refl
other-reason NoPort other = refl
other-reason CannotWait other = refl
other-reason BadDatagram other = refl
other-reason OldWord other = refl
other-reason HostLimit other = refl
other-reason TooLong other = refl
other-reason TooMany other = refl
other-reason SourceRoute other = refl

-- a step that refuses for no fragment
abbrev Never : Option Reason → Type 0
Never o = o ≡ Some Fragment → ⊥

none-if : (b : Bool) (x y : Result Reading Reason) → is_part x ≡ false → is_part y ≡ false → is_part (cond b x y) ≡ false
none-if true x y one two = one
none-if false x y one two = two

none-ok : (b : Bool) (x : Reading) (reason : Reason) → is_part (Err reason) ≡ false → is_part (cond b (Ok x) (Err reason)) ≡ false
none-ok true x reason none = refl
none-ok false x reason none = none

none-unless : (o : Option Reason) (r : Result Reading Reason) → Never o → is_part r ≡ false → is_part (unless o r) ≡ false
none-unless None r never rest = rest
none-unless (Some reason) r never rest = other-reason reason (λ same. never (ap (λ (x : Reason). let o : Option Reason = Some x in o) same))

-- a test that refuses for one other reason
never-if : (b : Bool) (reason : Reason) → (reason ≡ Fragment → ⊥) → Never (cond b None (Some reason))
never-if true reason other same = absurd (cc)
never-if false reason other same = other (let e : reason ≡ Fragment = cc in e)

never-icmp : (o : Option IcmpFault) → Never (option_map reason_of_icmp o)
never-icmp None same = absurd (cc)
never-icmp (Some NotError) same = absurd (cc)
never-icmp (Some BadError) same = absurd (cc)
never-icmp (Some NotQuery) same = absurd (cc)
never-icmp (Some BadQuery) same = absurd (cc)
never-icmp (Some NotAsked) same = absurd (cc)

never-transport : (a b : Bool) → Never (option_map reason_of (first_fault ((a, fault.TheVariants.NotUdpTcp) ∷ (b, fault.TheVariants.BadTransport) ∷ [])))
never-transport true b same = absurd (cc)
never-transport false true same = absurd (cc)
never-transport false false same = absurd (cc)

-- ---- behind the test of the header
no-ttl : (packet : List ℕ) → Never (ttl_refusal packet)
unfolding ttl_refusal
no-ttl packet = never-if (nat_le 2 (header_of packet).ttl) TtlOver (λ same. absurd (cc))

no-error : (side : Side) (packet : List ℕ) → is_part (error_reading side packet) ≡ false
unfolding error_reading error_refusal about_refusal
no-error side packet =
    none-unless (option_map reason_of_icmp (packet_refusal packet)) _ (never-icmp (packet_refusal packet))
    (none-unless (ttl_refusal packet) _ (no-ttl packet)
    (none-unless (cond (is_about (kind_leaving side) packet) None (Some NoBinding)) _ (never-if (is_about (kind_leaving side) packet) NoBinding (λ same. absurd (cc))) refl))

no-query : (side : Side) (packet : List ℕ) → is_part (query_reading side packet) ≡ false
unfolding query_reading query_refusal
no-query side packet =
    none-unless (option_map reason_of_icmp (query_packet_refusal (kind_entering side) packet)) _ (never-icmp (query_packet_refusal (kind_entering side) packet))
    (none-unless (ttl_refusal packet) _ (no-ttl packet) refl)

no-transport : (packet : List ℕ) → is_part (transport_reading packet) ≡ false
unfolding transport_reading transport_refusal
no-transport packet =
    none-unless (option_map reason_of (first_fault ((carries_neither packet, fault.TheVariants.NotUdpTcp) ∷ (has_no_transport packet, fault.TheVariants.BadTransport) ∷ []))) _ (never-transport (carries_neither packet) (has_no_transport packet))
    (none-unless (ttl_refusal packet) _ (no-ttl packet) refl)

no-packet : (side : Side) (network : Network) (frame : Frame) → is_part (packet_reading side network frame) ≡ false
unfolding packet_reading virtual_refusal icmp_reading
no-packet side network frame =
    none-unless (cond (is_virtual network frame.dst) None (Some NotMine)) _ (never-if (is_virtual network frame.dst) NotMine (λ same. absurd (cc)))
    (none-if ((header_of frame.body).protocol == PROTOCOL) (icmp_reading side frame.body) (transport_reading frame.body)
    (none-if (has_error_kind (payload_of frame.body)) (error_reading side frame.body) (query_reading side frame.body) (no-error side frame.body) (no-query side frame.body))
    (no-transport frame.body))

no-advert : (network : Network) (packet : List ℕ) → is_part (advert_reading network packet) ≡ false
unfolding advert_reading
no-advert network packet = none-ok (is_none (advert_refusal packet) && is_from_peer network packet) (Advert (advert_of (payload_of packet)) (record { 0 = (header_of packet).source })) BadAdvert refl

no-other : (side : Side) (network : Network) (frame : Frame) → is_part (other_reading side network frame) ≡ false
unfolding other_reading
no-other side network frame =
    none-if (is_vrrp frame.body) (advert_reading network frame.body) (packet_reading side network frame) (no-advert network frame.body) (no-packet side network frame)

-- ---- the whole
part-header : (o : Option Ipv4Fault) (r : Result Reading Reason) → is_part r ≡ false → is_part (unless (option_map reason_of o) r) ≡ true → o ≡ Some fault.TheVariants.Fragment
part-header None r none is = absurd (cc)
part-header (Some fault.TheVariants.TooShort) r none is = absurd (cc)
part-header (Some fault.TheVariants.BadVersion) r none is = absurd (cc)
part-header (Some fault.TheVariants.BadLength) r none is = absurd (cc)
part-header (Some fault.TheVariants.BadHeaderSum) r none is = absurd (cc)
part-header (Some fault.TheVariants.Fragment) r none is = refl
part-header (Some fault.TheVariants.NotUdpTcp) r none is = absurd (cc)
part-header (Some fault.TheVariants.BadTransport) r none is = absurd (cc)
part-header (Some fault.TheVariants.SourceRoute) r none is = absurd (cc)

part-ipv4 : (side : Side) (network : Network) (active : Bool) (frame : Frame) → is_part (ipv4_reading side network active frame) ≡ true → ipv4_refusal frame.body ≡ Some fault.TheVariants.Fragment
unfolding ipv4_reading header_refusal
part-ipv4 side network active frame is =
    part-header (ipv4_refusal frame.body) _
    (none-if (is_asked network active frame) _ (other_reading side network frame) refl (no-other side network frame))
    is

part-body : (side : Side) (network : Network) (active : Bool) (frame : Frame) → is_part (body_reading side network active frame) ≡ true → ipv4_refusal frame.body ≡ Some fault.TheVariants.Fragment
unfolding body_reading arp_reading
part-body side network active frame is = by (frame.ethertype == 2054) is
  where
    no-arp : is_part (arp_reading frame.body) ≡ false
    no-arp = none-ok (is_none (arp_refusal frame.body)) (Arp (packet_of frame.body)) BadArp refl

    by : (b : Bool) → is_part (cond b (arp_reading frame.body) (ipv4_reading side network active frame)) ≡ true → ipv4_refusal frame.body ≡ Some fault.TheVariants.Fragment
    by true is = absurd (let e : false ≡ true = sym no-arp ∙ is in cc)
    by false is = part-ipv4 side network active frame is

-- what stands behind a step that isn't refused for a fragment
part-behind : (o : Option Reason) (r : Result Reading Reason) → Never o → is_part (unless o r) ≡ true → (o ≡ None) × (is_part r ≡ true)
part-behind None r never is = (refl, is)
part-behind (Some reason) r never is =
    absurd (let e : false ≡ true = sym (other-reason reason (λ same. never (ap (λ (x : Reason). let o : Option Reason = Some x in o) same))) ∙ is in cc)

size-fits : (n : ℕ) → (let o : Option Reason = cond (nat_le 14 n && nat_le n LONGEST_WHOLE) None (Some ShortFrame) in o) ≡ None → 14 ≤ n
size-fits n none = by (nat_le 14 n && nat_le n LONGEST_WHOLE) refl none
  where
    by : (b : Bool) → (nat_le 14 n && nat_le n LONGEST_WHOLE) ≡ b → (let o : Option Reason = cond b None (Some ShortFrame) in o) ≡ None → 14 ≤ n
    by true is none = grind (arith, nat_tests)
    by false is none = absurd (cc)

pub part-fragment : Grammar → (side : Side) (network : Network) (active up : Bool) (bytes : List ℕ) → is_part (reading_of side network active up bytes) ≡ true → IsFragment bytes
unfolding size_refusal up_refusal destination_refusal
part-fragment grammar side network active up bytes is =
    let one = part-behind (size_refusal bytes) _ (never-if _ ShortFrame (λ same. absurd (cc))) is in
    let two = part-behind (up_refusal up) _ (never-if _ NotUp (λ same. absurd (cc))) one.1 in
    let three = part-behind (destination_refusal network active (frame_of bytes)) _ (never-if _ NotMine (λ same. absurd (cc))) two.1 in
    let header = (grammar (frame_of bytes).body).0 (part-body side network active (frame_of bytes) three.1) in
    record { whole = size-fits (length bytes) one.0; header = header.0; part = header.1 }
