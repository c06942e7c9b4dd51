-- With the peer's advertisements alone, what is read as an advertisement is the peer's.
use Rattle.std.proofs.Common.{◌≡◌, ◌⊎◌, inl, inr, ℕ, Bool, true, false, cond, ◌==◌, ◌&&◌, ◌||◌, not, is_none, Some, Result, Ok, List, refl, sym, ap, ◌∙◌, subst}
use Rattle.addresses.specs.declared.internet.Ip.{Ip}
use Rattle.frames.specs.Frame.{frame_of}
use Rattle.ipv4.specs.Header.{header_of, payload_of}
use Rattle.vrrp_packet.specs.declared.Advert.{Advert as Message}
use Rattle.vrrp_packet.specs.Message.{advert_refusal, advert_of}
use Rattle.packet_rules.specs.declared.networks.Network.{Network}
use Rattle.packet_rules.specs.declared.networks.Peer.{Peer}
use Rattle.packet_rules.specs.declared.readings.Reading.{Reading}
use Rattle.packet_rules.specs.declared.readings.Reading.TheVariants.{Arp, Advert, Packet, Error, Asked}
use Rattle.packet_rules.specs.declared.reasons.Reason.{Reason}
use Rattle.packet_rules.specs.declared.reasons.Reason.TheVariants.{BadAdvert}
use Rattle.packet_rules.specs.Asked.{asked_of, is_asked}
use Rattle.packet_rules.specs.Steps.{size_refusal, up_refusal, destination_refusal, header_refusal, is_vrrp, counts, is_from_peer, arp_reading, advert_reading, packet_reading, other_reading, ipv4_reading, body_reading, reading_of}
use Rattle.nat_types.specs.declared.gateways.Side.{Side}
use Rattle.packet_rules.proofs.Passing.{IsApart, unless-passes, ok-passes, both-true, same-number, never-arp, never-packet}

-- an advertisement from an address is the peer's
abbrev IsPeers : Peer → Message → Ip → Type 0
IsPeers peer advert from = (from.0 ≡ peer.ip.0) × (advert.interval ≡ peer.interval) × ((advert.priority ≡ peer.priority) ⊎ (advert.priority ≡ 0))

-- what is read is the peer's, where it is an advertisement
abbrev IsHeard : Peer → Reading → Type 0
IsHeard peer (Arp p) = true ≡ true
IsHeard peer (Advert advert from) = IsPeers peer advert from
IsHeard peer (Packet p) = true ≡ true
IsHeard peer (Error p) = true ≡ true
IsHeard peer (Asked asked) = true ≡ true

either-by : {A B : Type 0} (a b : Bool) → (a ≡ true → A) → (b ≡ true → B) → (a || b) ≡ true → A ⊎ B
either-by true b first second is = inl (first refl)
either-by false b first second is = inr (second is)

either-number : (m n o : ℕ) → ((m == n) || (m == o)) ≡ true → (m ≡ n) ⊎ (m ≡ o)
either-number m n o is = either-by (m == n) (m == o) (same-number m n) (same-number m o) is

counted : (peer : Peer) (advert : Message) (from : Ip) → counts (Some peer) from.0 advert ≡ true → IsPeers peer advert from
counted peer advert from is =
    let source = both-true (from.0 == peer.ip.0) _ is in
    let values = both-true ((advert.priority == peer.priority) || (advert.priority == 0)) (advert.interval == peer.interval) source.1 in
    (same-number _ _ source.0, same-number _ _ values.1, either-number advert.priority peer.priority 0 values.0)

-- an advertisement that passes is the peer's
heard : (network : Network) (packet : List ℕ) (peer : Peer) (advert : Message) (from : Ip) → network.peer ≡ Some peer → advert_reading network packet ≡ Ok (Advert advert from) → IsPeers peer advert from
unfolding advert_reading is_from_peer
heard network packet peer advert from alone is =
    let message = advert_of (payload_of packet) in
    let source = (header_of packet).source in
    let primary : Ip = record { 0 = source } in
    let ok = ok-passes (is_none (advert_refusal packet) && is_from_peer network packet) (Advert message primary) (Advert advert from) BadAdvert is in
    let tests = both-true (is_none (advert_refusal packet)) _ ok.0 in
    let others = both-true (message.router == network.interface.virtual_router) _ tests.1 in
    let counts_here = (both-true (not (source == network.own_ip.0)) (counts network.peer source message) others.1).1 in
    let passed : counts (Some peer) source message ≡ true = ap (λ p. counts p source message) (sym alone) ∙ counts_here in
    subst (IsHeard peer) ok.1 (counted peer message primary passed)

apart-advert : (advert : Message) (from : Ip) → IsApart (Advert advert from)
apart-advert advert from = record { packet = λ p e. cc; error = λ p e. cc }

vrrp-heard : (side : Side) (network : Network) (bytes : List ℕ) (peer : Peer) (advert : Message) (from : Ip) (b : Bool) → network.peer ≡ Some peer
    → cond b (advert_reading network (frame_of bytes).body) (packet_reading side network (frame_of bytes)) ≡ Ok (Advert advert from) → IsPeers peer advert from
vrrp-heard side network bytes peer advert from true alone is = heard network (frame_of bytes).body peer advert from alone is
vrrp-heard side network bytes peer advert from false alone is = absurd (never-packet (Advert advert from) (apart-advert advert from) side network bytes is)

asked-heard : (side : Side) (network : Network) (bytes : List ℕ) (peer : Peer) (advert : Message) (from : Ip) (b : Bool) → network.peer ≡ Some peer
    → (let x : Result Reading Reason = cond b (Ok (Asked (asked_of (frame_of bytes).body))) (other_reading side network (frame_of bytes)) in x) ≡ Ok (Advert advert from) → IsPeers peer advert from
unfolding other_reading
asked-heard side network bytes peer advert from true alone is = cc
asked-heard side network bytes peer advert from false alone is = vrrp-heard side network bytes peer advert from (is_vrrp (frame_of bytes).body) alone is

type-heard : (side : Side) (network : Network) (active : Bool) (bytes : List ℕ) (peer : Peer) (advert : Message) (from : Ip) (b : Bool) → network.peer ≡ Some peer
    → cond b (arp_reading (frame_of bytes).body) (ipv4_reading side network active (frame_of bytes)) ≡ Ok (Advert advert from) → IsPeers peer advert from
unfolding ipv4_reading
type-heard side network active bytes peer advert from true alone is = absurd (never-arp (Advert advert from) (λ p e. cc) (frame_of bytes).body is)
type-heard side network active bytes peer advert from false alone is =
    let step = unless-passes (header_refusal (frame_of bytes).body) _ (Advert advert from) is in
    asked-heard side network bytes peer advert from (is_asked network active (frame_of bytes)) alone step.1

pub peers-alone : (side : Side) (network : Network) (active up : Bool) (bytes : List ℕ) (advert : Message) (from : Ip) (peer : Peer) → network.peer ≡ Some peer → reading_of side network active up bytes ≡ Ok (Advert advert from) → IsPeers peer advert from
unfolding body_reading
peers-alone side network active up bytes advert from peer alone is =
    let s1 = unless-passes (size_refusal bytes) _ (Advert advert from) is in
    let s2 = unless-passes (up_refusal up) _ (Advert advert from) s1.1 in
    let s3 = unless-passes (destination_refusal network active (frame_of bytes)) _ (Advert advert from) s2.1 in
    type-heard side network active bytes peer advert from ((frame_of bytes).ethertype == 2054) alone s3.1
