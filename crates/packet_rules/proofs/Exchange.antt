-- What a router advertises is read by its peer.
use Rattle.std.proofs.Common.{◌≡◌, ◌≢◌, ◌<◌, ◌^◌, ℕ, Bool, true, false, cond, not, ◌==◌, ◌&&◌, ◌||◌, is_none, Option, Some, None, Result, Ok, Err, List, refl, sym, ap, ◌∙◌, arith}
use Rattle.std.specs.Option.{option_map}
use Rattle.std.specs.Str.{bytes_eq}
use Rattle.sums.specs.Sum.{checksum_of, IsRight}
use Rattle.addresses.specs.declared.internet.Ip.{Ip}
use Rattle.frames.specs.Frame.{frame_of}
use Rattle.ipv4.specs.Header.{IsIpv4, header_of, payload_of, ipv4_refusal}
use Rattle.ipv4.proofs.Offered.{route-none}
use Rattle.vrrp_packet.specs.declared.Advert.{Advert as Message}
use Rattle.vrrp_packet.specs.Message.{advert_refusal, IsAdvert, IsWritable, advert_of, advert_bytes}
use Rattle.packet_rules.specs.declared.networks.Network.{Network}
use Rattle.packet_rules.specs.declared.readings.Reading.{Reading}
use Rattle.packet_rules.specs.declared.readings.Reading.TheVariants.{Advert}
use Rattle.packet_rules.specs.declared.reasons.Reason.{Reason}
use Rattle.packet_rules.specs.declared.reasons.Reason.TheVariants.{BadAdvert}
use Rattle.packet_rules.specs.Adverts.{own_advert, advert_header, advert_packet, advert_frame}
use Rattle.packet_rules.specs.Asked.{is_asked, is_echo, is_to_box}
use Rattle.packet_rules.specs.Networks.{vrrp_mac, is_addressed, is_virtual}
use Rattle.packet_rules.specs.Steps.{reason_of, size_refusal, up_refusal, destination_refusal, header_refusal, is_vrrp, counts, is_from_peer, advert_reading, ipv4_reading, other_reading, body_reading, reading_of, unless}
use Rattle.nat_types.specs.declared.gateways.Side.{Side}

-- the codecs' laws, as far as they speak of an advertisement's packet
pub record Codecs : Type 0 where
  pub ipv4 : (bytes : List ℕ) → IsIpv4 bytes → ipv4_refusal bytes ≡ None
  pub advert : (packet : List ℕ) → IsAdvert packet → advert_refusal packet ≡ None
  pub read : (packet : List ℕ) (advert : Message) → IsWritable advert → (header_of packet).ttl ≡ 255 → payload_of packet ≡ advert_bytes advert → IsAdvert packet × (advert_of (payload_of packet) ≡ advert)

passes : (o : Option Reason) (step r : Result Reading Reason) → o ≡ None → step ≡ r → unless o step ≡ r
passes o step r none is = ap (λ x. unless x step) none ∙ is

third : (a d : Bool) → (a || false || true || d) ≡ true
third true true = refl
third true false = refl
third false true = refl
third false false = refl

addressed : (peer : Network) (active : Bool) → is_addressed peer active vrrp_mac ≡ true
unfolding is_addressed
addressed peer active = third (bytes_eq vrrp_mac peer.own_mac.0) (active && is_virtual peer vrrp_mac)

no-refusal : (b : Bool) (reason : Reason) → b ≡ true → cond b None (Some reason) ≡ None
no-refusal b reason is = ap (λ x. cond x None (Some reason)) is

header-right : (source : ℕ) → IsRight (advert_header source (checksum_of (advert_header source 0)))
header-right source = (omega arith, omega arith)

packet-ipv4 : (source : ℕ) (advert : Message) → IsIpv4 (advert_packet source advert)
packet-ipv4 source advert = record {
  long = omega arith;
  version = refl;
  holds_fields = omega arith;
  holds_header = omega arith;
  there = omega arith;
  sum = header-right source;
  no_source_route = route-none;
  last = refl;
  first = refl;
}

source-there : (source : ℕ) (advert : Message) → source < 2 ^ 32 → (header_of (advert_packet source advert)).source ≡ source
source-there source advert fits = omega (arith, fits)

two-true : (a b : Bool) → a ≡ true → b ≡ true → (a && b) ≡ true
two-true a b x y = ap (λ t. t && b) x ∙ y

same-number : (a b : ℕ) → a ≡ b → (a == b) ≡ true
same-number a b is = grind (arith, is)

other-number : (a b : ℕ) → (a ≡ b → ⊥) → not (a == b) ≡ true
other-number a b differs = grind (arith, differs)

ok-reading : (b : Bool) (a own : Message) (s : ℕ) (from : Ip) → b ≡ true → a ≡ own → s ≡ from.0 → (let r : Result Reading Reason = cond b (Ok (Advert a (record { 0 = s }))) (Err BadAdvert) in r) ≡ Ok (Advert own from)
ok-reading b a own s from t same source =
    ap (λ x. let r : Result Reading Reason = cond x (Ok (Advert a (record { 0 = s }))) (Err BadAdvert) in r) t
    ∙ ap (λ x. let r : Result Reading Reason = Ok (Advert x (record { 0 = s })) in r) same
    ∙ ap (λ n. let r : Result Reading Reason = Ok (Advert own (record { 0 = n })) in r) source

packet-read : (c : Codecs) (network peer : Network) (priority interval : ℕ) → IsWritable (own_advert network priority interval) → network.own_ip.0 < 2 ^ 32
    → peer.interface.virtual_router ≡ network.interface.virtual_router → peer.own_ip.0 ≢ network.own_ip.0
    → counts peer.peer network.own_ip.0 (own_advert network priority interval) ≡ true
    → advert_reading peer (advert_packet network.own_ip.0 (own_advert network priority interval)) ≡ Ok (Advert (own_advert network priority interval) network.own_ip)
unfolding advert_reading is_from_peer
packet-read c network peer priority interval writable fits router other counted =
    let own = own_advert network priority interval in
    let packet = advert_packet network.own_ip.0 own in
    let read = c.read packet own writable refl refl in
    let none : is_none (advert_refusal packet) ≡ true = ap (λ o. is_none o) (c.advert packet read.0) in
    let source = source-there network.own_ip.0 own fits in
    let named = same-number _ _ (ap (λ (a : Message). a.router) read.1 ∙ sym router) in
    let foreign = other-number _ _ (λ e. other (sym e ∙ source)) in
    let heard =
    ap (counts peer.peer (header_of packet).source) read.1
    ∙ ap (λ s. counts peer.peer s own) source
    ∙ counted
    in
    ok-reading _ _ own _ network.own_ip (two-true _ _ none (two-true _ _ named (two-true _ _ foreign heard))) read.1 source

-- an advertisement is no Echo
no-echo : (network peer : Network) (active : Bool) (priority interval : ℕ) → is_echo (frame_of (advert_frame network priority interval)).body ≡ false
unfolding is_echo
no-echo network peer active priority interval = refl

not-all : (a b d : Bool) → d ≡ false → (a && (b && d)) ≡ false
not-all true true d none = none
not-all true false d none = refl
not-all false b d none = refl

not-asked : (network peer : Network) (active : Bool) (priority interval : ℕ) → is_asked peer active (frame_of (advert_frame network priority interval)) ≡ false
unfolding is_asked
not-asked network peer active priority interval = not-all peer.icmp.echo (is_to_box peer active (frame_of (advert_frame network priority interval))) _ (no-echo network peer active priority interval)

otherwise : (b : Bool) (x y r : Result Reading Reason) → b ≡ false → y ≡ r → cond b x y ≡ r
otherwise false x y r other is = is
otherwise true x y r other is = cc

body-read : (c : Codecs) (side : Side) (network peer : Network) (active : Bool) (priority interval : ℕ) → IsWritable (own_advert network priority interval) → network.own_ip.0 < 2 ^ 32
    → peer.interface.virtual_router ≡ network.interface.virtual_router → peer.own_ip.0 ≢ network.own_ip.0
    → counts peer.peer network.own_ip.0 (own_advert network priority interval) ≡ true
    → body_reading side peer active (frame_of (advert_frame network priority interval)) ≡ Ok (Advert (own_advert network priority interval) network.own_ip)
unfolding body_reading ipv4_reading header_refusal other_reading is_vrrp
body-read c side network peer active priority interval writable fits router other counted =
    let packet = advert_packet network.own_ip.0 (own_advert network priority interval) in
    passes (option_map reason_of (ipv4_refusal packet)) _ _
    (ap (option_map reason_of) (c.ipv4 packet (packet-ipv4 _ _)))
    (otherwise (is_asked peer active (frame_of (advert_frame network priority interval))) _ _ _ (not-asked network peer active priority interval)
    (packet-read c network peer priority interval writable fits router other counted))

pub advert-read : (c : Codecs) (side : Side) (network peer : Network) (active : Bool) (priority interval : ℕ) → IsWritable (own_advert network priority interval) → network.own_ip.0 < 2 ^ 32
    → peer.interface.virtual_router ≡ network.interface.virtual_router → peer.own_ip.0 ≢ network.own_ip.0
    → counts peer.peer network.own_ip.0 (own_advert network priority interval) ≡ true
    → reading_of side peer active true (advert_frame network priority interval) ≡ Ok (Advert (own_advert network priority interval) network.own_ip)
unfolding size_refusal up_refusal destination_refusal
advert-read c side network peer active priority interval writable fits router other counted =
    let frame = frame_of (advert_frame network priority interval) in
    passes (size_refusal (advert_frame network priority interval)) _ _ refl
    (passes (up_refusal true) _ _ refl
    (passes (destination_refusal peer active frame) _ _ (no-refusal _ _ (two-true _ _ (addressed peer active) refl))
    (body-read c side network peer active priority interval writable fits router other counted)))
