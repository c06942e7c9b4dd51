-- What is known of a frame by what it is read as.
use Rattle.std.proofs.Common.{◌≡◌, ◌≢◌, inl, inr, ◌≤◌, ◌↔◌, ℕ, Bool, true, false, cond, ◌==◌, ◌&&◌, nat_le, is_none, Option, Some, None, Result, Ok, Err, List, length, drop, refl, subst, arith, length-drop}
use Rattle.std.specs.Option.{option_map}
use Rattle.std.proofs.lemmas.Bool.{leb-true}
use Rattle.std.proofs.lemmas.Bool.Decides.{nat_tests}
use Rattle.std.proofs.lemmas.List.{length-take-le}
use Rattle.std.proofs.lemmas.Nat.{mod_below}
use Rattle.frames.specs.Frame.{frame_of}
use Rattle.arp.specs.Packet.{arp_refusal, IsArp, packet_of}
use Rattle.ipv4.specs.Header.{IsIpv4, header_of, payload_of, ipv4_refusal, word_at}
use Rattle.ipv4.specs.Carried.{IsTransport, transport_refusal as carried_refusal}
use Rattle.ipv4.specs.Flow.{packet_of as packet_read}
use Rattle.ipv4.specs.declared.faults.Ipv4Fault as fault
use Rattle.ipv4.specs.declared.faults.Ipv4Fault.{Ipv4Fault}
use Rattle.icmp.specs.declared.errors.TheConstants.{PROTOCOL}
use Rattle.icmp.specs.declared.faults.IcmpFault.{IcmpFault}
use Rattle.icmp.specs.Ask.{IsAsk, ask_refusal}
use Rattle.icmp.specs.Error.{has_error_kind}
use Rattle.icmp.specs.Packet.{IsErrorPacket, error_packet_of, packet_refusal}
use Rattle.icmp.specs.Query.{IsQueryPacket, IsTranslatable, query_packet_refusal}
use Rattle.icmp.specs.declared.kinds.Kind.{Kind}
use Rattle.nat_types.specs.declared.gateways.Side.{Side}
use Rattle.nat_types.specs.declared.gateways.Side.TheVariants.{Inside, Outside}
use Rattle.packet_rules.specs.Queries.{kind_entering}
use Rattle.vrrp_packet.specs.Message.{advert_refusal, IsAdvert, advert_of}
use Rattle.packet_rules.specs.declared.networks.Network.{Network}
use Rattle.packet_rules.specs.declared.readings.Reading.{Reading}
use Rattle.packet_rules.specs.declared.readings.Reading.TheVariants.{Arp, Advert, Packet, Error, Asked}
use Rattle.packet_rules.specs.declared.readings.Asked.{Asked as AskedValue}
use Rattle.addresses.specs.declared.internet.Ip.{Ip}
use Rattle.arp.specs.declared.packets.ArpPacket.{ArpPacket}
use Rattle.icmp.specs.declared.packets.ErrorPacket.{ErrorPacket as ErrorValue}
use Rattle.ipv4.specs.declared.packets.Packet.{Packet as PacketValue}
use Rattle.vrrp_packet.specs.declared.Advert.{Advert as Message}
use Rattle.packet_rules.specs.declared.reasons.Reason.{Reason}
use Rattle.packet_rules.specs.declared.reasons.Reason.TheVariants.{ShortFrame, NotMine, NotUp, TtlOver, BadArp, BadAdvert}
use Rattle.frames.specs.declared.ethernet.TheConstants.{LONGEST_WHOLE}
use Rattle.packet_rules.specs.Asked.{IsAskable, IsWhole, asked_of, is_asked, is_echo, is_to_box}
use Rattle.packet_rules.specs.Flows.{error_flow_in, flow_in}
use Rattle.packet_rules.specs.Steps.{reason_of, reason_of_icmp, size_refusal, up_refusal, destination_refusal, header_refusal, virtual_refusal, transport_refusal, query_refusal, error_refusal, about_refusal, ttl_refusal, is_vrrp, is_from_peer, arp_reading, advert_reading, transport_reading, query_reading, error_reading, icmp_reading, packet_reading, other_reading, ipv4_reading, body_reading, reading_of, unless, IsForwardable, IsPassable, Carries}

-- the grammars of what a frame carries
pub record Grammars : Type 0 where
  pub arp : (bytes : List ℕ) → (arp_refusal bytes ≡ None) ↔ IsArp bytes
  pub ipv4 : (bytes : List ℕ) → (ipv4_refusal bytes ≡ None) ↔ IsIpv4 bytes
  pub transport : (packet : List ℕ) → (carried_refusal packet ≡ None) ↔ IsTransport packet
  pub error : (packet : List ℕ) → (packet_refusal packet ≡ None) ↔ IsErrorPacket packet
  pub query : (kind : Kind) (packet : List ℕ) → (query_packet_refusal kind packet ≡ None) ↔ IsQueryPacket kind packet
  pub ask : (message : List ℕ) → (ask_refusal message ≡ None) ↔ IsAsk message
  pub advert : (packet : List ℕ) → (advert_refusal packet ≡ None) ↔ IsAdvert packet

pub unless-passes : (o : Option Reason) (step : Result Reading Reason) (r : Reading) → unless o step ≡ Ok r → (o ≡ None) × (step ≡ Ok r)
unless-passes None step r is = (refl, is)
unless-passes (Some reason) step r is = cc

none-passes : (b : Bool) (reason : Reason) → cond b None (Some reason) ≡ None → b ≡ true
none-passes true reason is = refl
none-passes false reason is = cc

pub ok-passes : (b : Bool) (x r : Reading) (reason : Reason) → (let y : Result Reading Reason = cond b (Ok x) (Err reason) in y) ≡ Ok r → (b ≡ true) × (x ≡ r)
ok-passes true x r reason is = (refl, cc)
ok-passes false x r reason is = cc

map-none : (o : Option Ipv4Fault) → option_map reason_of o ≡ None → o ≡ None
map-none None is = refl
map-none (Some fault) is = cc

icmp-none : (o : Option IcmpFault) → option_map reason_of_icmp o ≡ None → o ≡ None
icmp-none None is = refl
icmp-none (Some fault) is = cc

no-fault : {F : Type 0} (o : Option F) → is_none o ≡ true → o ≡ None
no-fault None is = refl
no-fault (Some fault) is = cc

pub both-true : (a b : Bool) → (a && b) ≡ true → (a ≡ true) × (b ≡ true)
both-true true b is = (refl, is)
both-true false b is = cc

size-passes : (bytes : List ℕ) → size_refusal bytes ≡ None → (14 ≤ length bytes) × (length bytes ≤ LONGEST_WHOLE)
unfolding size_refusal
size-passes bytes is =
    let both = both-true _ _ (none-passes _ ShortFrame is) in
    (leb-true 14 (length bytes) both.0, leb-true (length bytes) LONGEST_WHOLE both.1)

arp-passes : (g : Grammars) (side : Side) (bytes : List ℕ) (r : Reading) → arp_reading (frame_of bytes).body ≡ Ok r → Carries side bytes r
unfolding arp_reading
arp-passes g side bytes r is =
    let body = (frame_of bytes).body in
    let ok = ok-passes (is_none (arp_refusal body)) (Arp (packet_of body)) r BadArp is in
    let whole = ((g.arp body).0 (no-fault _ ok.0)).whole in
    subst (Carries side bytes) ok.1 (length-take-le 6 (drop 8 body) (omega (arith, whole, length-drop 8 body)))

advert-passes : (g : Grammars) (side : Side) (network : Network) (bytes : List ℕ) (r : Reading) → advert_reading network (frame_of bytes).body ≡ Ok r → Carries side bytes r
unfolding advert_reading
advert-passes g side network bytes r is =
    let packet = (frame_of bytes).body in
    let ok = ok-passes (is_none (advert_refusal packet) && is_from_peer network packet) (Advert (advert_of (payload_of packet)) (record { 0 = (header_of packet).source })) r BadAdvert is in
    let advert = (g.advert packet).0 (no-fault _ (both-true _ _ ok.0).0) in
    let most = mod_below (word_at 4 (payload_of packet)) 4096 (omega arith) in
    subst (Carries side bytes) ok.1 (advert.interval, omega (arith, most))

-- a UDP or TCP packet isn't of ICMP
no-icmp : {X : Type 0} (packet : List ℕ) → IsTransport packet → (header_of packet).protocol ≡ PROTOCOL → X
no-icmp packet (inl udp) icmp = absurd (omega (arith, udp.protocol, icmp))
no-icmp packet (inr tcp) icmp = absurd (omega (arith, tcp.protocol, icmp))

transport-passes : (g : Grammars) (side : Side) (bytes : List ℕ) (r : Reading) → size_refusal bytes ≡ None → IsIpv4 (frame_of bytes).body → transport_reading (frame_of bytes).body ≡ Ok r → Carries side bytes r
unfolding transport_reading transport_refusal ttl_refusal flow_in
transport-passes g side bytes r size ipv4 is =
    let packet = (frame_of bytes).body in
    let s2 = unless-passes _ _ r is in
    let s3 = unless-passes _ _ r s2.1 in
    let sizes = size-passes bytes size in
    let carried = (g.transport packet).0 (map-none (carried_refusal packet) s2.0) in
    let known : IsForwardable bytes = record {
      whole = sizes.0;
      short = sizes.1;
      ipv4 = ipv4;
      translatable = inl carried;
      ttl = leb-true 2 (header_of packet).ttl (none-passes _ TtlOver s3.0);
    } in
    let same : Packet (packet_read packet) ≡ r = cc in
    subst (Carries side bytes) same (known, (refl, λ icmp. no-icmp packet carried icmp))

-- a query of the side's kind can be translated
entering-translatable : (side : Side) (packet : List ℕ) → IsQueryPacket (kind_entering side) packet → IsTranslatable packet
entering-translatable Inside packet q = inr (inl q)
entering-translatable Outside packet q = inr (inr q)

query-passes : (g : Grammars) (side : Side) (bytes : List ℕ) (r : Reading) → size_refusal bytes ≡ None → IsIpv4 (frame_of bytes).body → query_reading side (frame_of bytes).body ≡ Ok r → Carries side bytes r
unfolding query_reading query_refusal ttl_refusal flow_in
query-passes g side bytes r size ipv4 is =
    let packet = (frame_of bytes).body in
    let s2 = unless-passes _ _ r is in
    let s3 = unless-passes _ _ r s2.1 in
    let sizes = size-passes bytes size in
    let carried = (g.query (kind_entering side) packet).0 (icmp-none (query_packet_refusal (kind_entering side) packet) s2.0) in
    let known : IsForwardable bytes = record {
      whole = sizes.0;
      short = sizes.1;
      ipv4 = ipv4;
      translatable = entering-translatable side packet carried;
      ttl = leb-true 2 (header_of packet).ttl (none-passes _ TtlOver s3.0);
    } in
    let same : Packet (packet_read packet) ≡ r = cc in
    subst (Carries side bytes) same (known, (refl, λ icmp. carried.query.type_is))

error-passes : (g : Grammars) (side : Side) (bytes : List ℕ) (r : Reading) → size_refusal bytes ≡ None → IsIpv4 (frame_of bytes).body → error_reading side (frame_of bytes).body ≡ Ok r → Carries side bytes r
unfolding error_reading error_refusal ttl_refusal error_flow_in
error-passes g side bytes r size ipv4 is =
    let packet = (frame_of bytes).body in
    let s2 = unless-passes _ _ r is in
    let s3 = unless-passes _ _ r s2.1 in
    let sizes = size-passes bytes size in
    let known : IsPassable bytes = record {
      whole = sizes.0;
      short = sizes.1;
      ipv4 = ipv4;
      error = (g.error packet).0 (icmp-none (packet_refusal packet) s2.0);
      ttl = leb-true 2 (header_of packet).ttl (none-passes _ TtlOver s3.0);
    } in
    let s4 = unless-passes (about_refusal side packet) _ r s3.1 in
    let same : Error (error_packet_of packet) ≡ r = cc in
    subst (Carries side bytes) same (known, refl)

icmp-passes-by : (g : Grammars) (side : Side) (bytes : List ℕ) (r : Reading) (b : Bool) → size_refusal bytes ≡ None → IsIpv4 (frame_of bytes).body
    → cond b (error_reading side (frame_of bytes).body) (query_reading side (frame_of bytes).body) ≡ Ok r → Carries side bytes r
icmp-passes-by g side bytes r true size ipv4 is = error-passes g side bytes r size ipv4 is
icmp-passes-by g side bytes r false size ipv4 is = query-passes g side bytes r size ipv4 is

icmp-passes : (g : Grammars) (side : Side) (bytes : List ℕ) (r : Reading) → size_refusal bytes ≡ None → IsIpv4 (frame_of bytes).body → icmp_reading side (frame_of bytes).body ≡ Ok r → Carries side bytes r
unfolding icmp_reading
icmp-passes g side bytes r size ipv4 is = icmp-passes-by g side bytes r (has_error_kind (payload_of (frame_of bytes).body)) size ipv4 is

carried-passes : (g : Grammars) (side : Side) (bytes : List ℕ) (r : Reading) (b : Bool) → size_refusal bytes ≡ None → IsIpv4 (frame_of bytes).body
    → cond b (icmp_reading side (frame_of bytes).body) (transport_reading (frame_of bytes).body) ≡ Ok r → Carries side bytes r
carried-passes g side bytes r true size ipv4 is = icmp-passes g side bytes r size ipv4 is
carried-passes g side bytes r false size ipv4 is = transport-passes g side bytes r size ipv4 is

packet-passes : (g : Grammars) (side : Side) (network : Network) (bytes : List ℕ) (r : Reading) → size_refusal bytes ≡ None → IsIpv4 (frame_of bytes).body → packet_reading side network (frame_of bytes) ≡ Ok r → Carries side bytes r
unfolding packet_reading
packet-passes g side network bytes r size ipv4 is =
    let s1 = unless-passes (virtual_refusal network (frame_of bytes)) _ r is in
    carried-passes g side bytes r ((header_of (frame_of bytes).body).protocol == PROTOCOL) size ipv4 s1.1

vrrp-passes : (g : Grammars) (side : Side) (network : Network) (bytes : List ℕ) (r : Reading) (b : Bool) → size_refusal bytes ≡ None → IsIpv4 (frame_of bytes).body
    → cond b (advert_reading network (frame_of bytes).body) (packet_reading side network (frame_of bytes)) ≡ Ok r → Carries side bytes r
vrrp-passes g side network bytes r true size ipv4 is = advert-passes g side network bytes r is
vrrp-passes g side network bytes r false size ipv4 is = packet-passes g side network bytes r size ipv4 is

other-passes : (g : Grammars) (side : Side) (network : Network) (bytes : List ℕ) (r : Reading) → size_refusal bytes ≡ None → IsIpv4 (frame_of bytes).body → other_reading side network (frame_of bytes) ≡ Ok r → Carries side bytes r
unfolding other_reading
other-passes g side network bytes r size ipv4 is = vrrp-passes g side network bytes r (is_vrrp (frame_of bytes).body) size ipv4 is

-- an Echo to the box
pub same-number : (m n : ℕ) → (m == n) ≡ true → m ≡ n
same-number m n e = grind (arith, nat_tests)

pub echo-known : (g : Grammars) (bytes : List ℕ) → size_refusal bytes ≡ None → IsIpv4 (frame_of bytes).body → is_echo (frame_of bytes).body ≡ true → IsAskable bytes
unfolding is_echo
echo-known g bytes size ipv4 is =
    let packet = (frame_of bytes).body in
    let sizes = size-passes bytes size in
    let both = both-true ((header_of packet).protocol == PROTOCOL) (is_none (ask_refusal (payload_of packet))) is in
    record {
      frame = record { whole = sizes.0; short = sizes.1; ipv4 = ipv4 };
      protocol = same-number (header_of packet).protocol PROTOCOL both.0;
      ask = (g.ask (payload_of packet)).0 (no-fault (ask_refusal (payload_of packet)) both.1);
    }

pub asked-echo : (network : Network) (active : Bool) (bytes : List ℕ) → is_asked network active (frame_of bytes) ≡ true → is_echo (frame_of bytes).body ≡ true
unfolding is_asked
asked-echo network active bytes is =
    (both-true (is_to_box network active (frame_of bytes)) (is_echo (frame_of bytes).body) (both-true network.icmp.echo (is_to_box network active (frame_of bytes) && is_echo (frame_of bytes).body) is).1).1

asked-passes : (g : Grammars) (side : Side) (network : Network) (bytes : List ℕ) (r : Reading) (b : Bool) → (b ≡ true → is_echo (frame_of bytes).body ≡ true) → size_refusal bytes ≡ None → IsIpv4 (frame_of bytes).body
    → (let x : Result Reading Reason = cond b (Ok (Asked (asked_of (frame_of bytes).body))) (other_reading side network (frame_of bytes)) in x) ≡ Ok r → Carries side bytes r
asked-passes g side network bytes r true echo size ipv4 is =
    let same : Asked (asked_of (frame_of bytes).body) ≡ r = cc in
    subst (Carries side bytes) same (echo-known g bytes size ipv4 (echo refl), refl)
asked-passes g side network bytes r false echo size ipv4 is = other-passes g side network bytes r size ipv4 is

ipv4-passes : (g : Grammars) (side : Side) (network : Network) (active : Bool) (bytes : List ℕ) (r : Reading) → size_refusal bytes ≡ None → ipv4_reading side network active (frame_of bytes) ≡ Ok r → Carries side bytes r
unfolding ipv4_reading header_refusal
ipv4-passes g side network active bytes r size is =
    let body = (frame_of bytes).body in
    let step = unless-passes (option_map reason_of (ipv4_refusal body)) _ r is in
    asked-passes g side network bytes r (is_asked network active (frame_of bytes)) (asked-echo network active bytes) size ((g.ipv4 body).0 (map-none _ step.0)) step.1

type-passes : (g : Grammars) (side : Side) (network : Network) (active : Bool) (bytes : List ℕ) (r : Reading) (b : Bool) → size_refusal bytes ≡ None
    → cond b (arp_reading (frame_of bytes).body) (ipv4_reading side network active (frame_of bytes)) ≡ Ok r → Carries side bytes r
type-passes g side network active bytes r true size is = arp-passes g side bytes r is
type-passes g side network active bytes r false size is = ipv4-passes g side network active bytes r size is

pub reading-passes : (g : Grammars) (side : Side) (network : Network) (active up : Bool) (bytes : List ℕ) (r : Reading) → reading_of side network active up bytes ≡ Ok r → Carries side bytes r
unfolding body_reading
reading-passes g side network active up bytes r is =
    let s1 = unless-passes (size_refusal bytes) _ r is in
    let s2 = unless-passes (up_refusal up) _ r s1.1 in
    let s3 = unless-passes (destination_refusal network active (frame_of bytes)) _ r s2.1 in
    type-passes g side network active bytes r ((frame_of bytes).ethertype == 2054) s1.0 s3.1

-- a step that refuses for another reason than that a packet's time to live is over
tested : (b : Bool) (reason : Reason) (step : Result Reading Reason) → reason ≢ TtlOver → (let o : Option Reason = cond b None (Some reason) in unless o step) ≡ Err TtlOver → (b ≡ true) × (step ≡ Err TtlOver)
tested true reason step other is = (refl, is)
tested false reason step other is = absurd (other cc)

size-over : (bytes : List ℕ) (step : Result Reading Reason) → unless (size_refusal bytes) step ≡ Err TtlOver → (14 ≤ length bytes) × ((length bytes ≤ LONGEST_WHOLE) × (step ≡ Err TtlOver))
unfolding size_refusal
size-over bytes step is =
    let t = tested (nat_le 14 (length bytes) && nat_le (length bytes) LONGEST_WHOLE) ShortFrame step (λ e. cc) is in
    let both = both-true (nat_le 14 (length bytes)) (nat_le (length bytes) LONGEST_WHOLE) t.0 in
    (leb-true 14 (length bytes) both.0, (leb-true (length bytes) LONGEST_WHOLE both.1, t.1))

up-over : (up : Bool) (step : Result Reading Reason) → unless (up_refusal up) step ≡ Err TtlOver → step ≡ Err TtlOver
unfolding up_refusal
up-over up step is = (tested up NotUp step (λ e. cc) is).1

destination-over : (network : Network) (active : Bool) (bytes : List ℕ) (step : Result Reading Reason) → unless (destination_refusal network active (frame_of bytes)) step ≡ Err TtlOver → step ≡ Err TtlOver
unfolding destination_refusal
destination-over network active bytes step is = (tested _ NotMine step (λ e. cc) is).1

fault-other : (f : Ipv4Fault) → reason_of f ≢ TtlOver
fault-other fault.TheVariants.TooShort e = cc
fault-other fault.TheVariants.BadVersion e = cc
fault-other fault.TheVariants.BadLength e = cc
fault-other fault.TheVariants.BadHeaderSum e = cc
fault-other fault.TheVariants.Fragment e = cc
fault-other fault.TheVariants.NotUdpTcp e = cc
fault-other fault.TheVariants.BadTransport e = cc
fault-other fault.TheVariants.SourceRoute e = cc

fault-over : (o : Option Ipv4Fault) (step : Result Reading Reason) → unless (option_map reason_of o) step ≡ Err TtlOver → o ≡ None
fault-over None step is = refl
fault-over (Some f) step is = absurd (fault-other f cc)

arp-over : {X : Type 0} (b : Bool) (x : Reading) → (let y : Result Reading Reason = cond b (Ok x) (Err BadArp) in y) ≡ Err TtlOver → X
arp-over true x is = cc
arp-over false x is = cc

body-over : (g : Grammars) (side : Side) (network : Network) (active : Bool) (bytes : List ℕ) (b : Bool)
    → cond b (arp_reading (frame_of bytes).body) (ipv4_reading side network active (frame_of bytes)) ≡ Err TtlOver → IsIpv4 (frame_of bytes).body
unfolding arp_reading ipv4_reading header_refusal
body-over g side network active bytes true is =
    let body = (frame_of bytes).body in
    arp-over (is_none (arp_refusal body)) (Arp (packet_of body)) is
body-over g side network active bytes false is =
    let body = (frame_of bytes).body in
    (g.ipv4 body).0 (fault-over (ipv4_refusal body) _ is)

-- a frame whose packet's time to live is over has a whole packet
pub over-whole : (g : Grammars) (side : Side) (network : Network) (active up : Bool) (bytes : List ℕ) → reading_of side network active up bytes ≡ Err TtlOver → IsWhole bytes
unfolding body_reading
over-whole g side network active up bytes is =
    let s1 = size-over bytes _ is in
    let s2 = up-over up _ s1.1.1 in
    let s3 = destination-over network active bytes _ s2 in
    record { whole = s1.0; short = s1.1.0; ipv4 = body-over g side network active bytes ((frame_of bytes).ethertype == 2054) s3 }

-- a packet that is translated, and an error that is passed on, isn't read as this
pub record IsApart (x : Reading) : Type 0 where
  pub packet : (p : PacketValue) → Packet p ≢ x
  pub error : (p : ErrorValue) → Error p ≢ x

-- a step doesn't read this
abbrev pub Never : Reading → Result Reading Reason → Type 0
Never x r = r ≢ Ok x

never-unless : (x : Reading) (o : Option Reason) (step : Result Reading Reason) → Never x step → Never x (unless o step)
never-unless x None step never = never
never-unless x (Some reason) step never = λ e. cc

never-either : (x : Reading) (b : Bool) (first second : Result Reading Reason) → Never x first → Never x second → Never x (cond b first second)
never-either x true first second a b = a
never-either x false first second a b = b

pub never-arp : (x : Reading) → ((p : ArpPacket) → Arp p ≢ x) → (body : List ℕ) → Never x (arp_reading body)
unfolding arp_reading
never-arp x apart body = never-either x (is_none (arp_refusal body)) _ _ (λ e. apart (packet_of body) cc) (λ e. cc)

never-advert : (x : Reading) → ((message : Message) (from : Ip) → Advert message from ≢ x) → (network : Network) (packet : List ℕ) → Never x (advert_reading network packet)
unfolding advert_reading
never-advert x apart network packet =
    never-either x (is_none (advert_refusal packet) && is_from_peer network packet) _ _ (λ e. apart (advert_of (payload_of packet)) (record { 0 = (header_of packet).source }) cc) (λ e. cc)

never-transport : (x : Reading) → IsApart x → (packet : List ℕ) → Never x (transport_reading packet)
unfolding transport_reading
never-transport x apart packet = never-unless x (transport_refusal packet) _ (never-unless x (ttl_refusal packet) _ (λ e. apart.packet (packet_read packet) cc))

never-query : (x : Reading) → IsApart x → (side : Side) (packet : List ℕ) → Never x (query_reading side packet)
unfolding query_reading
never-query x apart side packet = never-unless x (query_refusal side packet) _ (never-unless x (ttl_refusal packet) _ (λ e. apart.packet (packet_read packet) cc))

never-error : (x : Reading) → IsApart x → (side : Side) (packet : List ℕ) → Never x (error_reading side packet)
unfolding error_reading
never-error x apart side packet =
    never-unless x (error_refusal packet) _ (never-unless x (ttl_refusal packet) _ (never-unless x (about_refusal side packet) _ (λ e. apart.error (error_packet_of packet) cc)))

never-icmp : (x : Reading) → IsApart x → (side : Side) (packet : List ℕ) → Never x (icmp_reading side packet)
unfolding icmp_reading
never-icmp x apart side packet = never-either x (has_error_kind (payload_of packet)) _ _ (never-error x apart side packet) (never-query x apart side packet)

pub never-packet : (x : Reading) → IsApart x → (side : Side) (network : Network) (bytes : List ℕ) → Never x (packet_reading side network (frame_of bytes))
unfolding packet_reading
never-packet x apart side network bytes =
    let packet = (frame_of bytes).body in
    never-unless x (virtual_refusal network (frame_of bytes)) _ (never-either x ((header_of packet).protocol == PROTOCOL) _ _ (never-icmp x apart side packet) (never-transport x apart packet))

-- nothing else is read as an Echo to the box
apart-asked : (asked : AskedValue) → IsApart (Asked asked)
apart-asked asked = record { packet = λ p e. cc; error = λ p e. cc }

never-other : (asked : AskedValue) (side : Side) (network : Network) (bytes : List ℕ) → Never (Asked asked) (other_reading side network (frame_of bytes))
unfolding other_reading
never-other asked side network bytes =
    never-either (Asked asked) (is_vrrp (frame_of bytes).body) _ _ (never-advert (Asked asked) (λ message from e. cc) network (frame_of bytes).body) (never-packet (Asked asked) (apart-asked asked) side network bytes)

read-asked : (side : Side) (network : Network) (bytes : List ℕ) (asked : AskedValue) (b : Bool)
    → (let x : Result Reading Reason = cond b (Ok (Asked (asked_of (frame_of bytes).body))) (other_reading side network (frame_of bytes)) in x) ≡ Ok (Asked asked) → b ≡ true
read-asked side network bytes asked true is = refl
read-asked side network bytes asked false is = absurd (never-other asked side network bytes is)

type-asked : (side : Side) (network : Network) (active : Bool) (bytes : List ℕ) (asked : AskedValue) (b : Bool)
    → cond b (arp_reading (frame_of bytes).body) (ipv4_reading side network active (frame_of bytes)) ≡ Ok (Asked asked) → is_asked network active (frame_of bytes) ≡ true
unfolding ipv4_reading
type-asked side network active bytes asked true is = absurd (never-arp (Asked asked) (λ p e. cc) (frame_of bytes).body is)
type-asked side network active bytes asked false is =
    let step = unless-passes (header_refusal (frame_of bytes).body) _ (Asked asked) is in
    read-asked side network bytes asked (is_asked network active (frame_of bytes)) step.1

-- what is read as an Echo to the box is one
pub reading-asked : (side : Side) (network : Network) (active up : Bool) (bytes : List ℕ) (asked : AskedValue) → reading_of side network active up bytes ≡ Ok (Asked asked) → is_asked network active (frame_of bytes) ≡ true
unfolding body_reading
reading-asked side network active up bytes asked is =
    let s1 = unless-passes (size_refusal bytes) _ (Asked asked) is in
    let s2 = unless-passes (up_refusal up) _ (Asked asked) s1.1 in
    let s3 = unless-passes (destination_refusal network active (frame_of bytes)) _ (Asked asked) s2.1 in
    type-asked side network active bytes asked ((frame_of bytes).ethertype == 2054) s3.1
