-- Reading a frame, and finding a packet's way, are refused for reasons of their own: never because no port is free, because
-- of a host's limit, or because the packet is too long. And only a gateway that is up reads anything.
use Rattle.std.proofs.Common.{◌≡◌, ℕ, Bool, true, false, cond, Option, Some, None, Result, Ok, Err, List, is_none, nat_le, length, ◌&&◌, ◌||◌, ◌==◌, not, refl}
use Rattle.std.specs.Option.{option_map}
use Rattle.addresses.specs.declared.transport.Protocol.{Protocol}
use Rattle.addresses.specs.declared.transport.Protocol.TheVariants.{Icmp}
use Rattle.addresses.specs.Transport.{same_protocol}
use Rattle.nat_types.specs.declared.gateways.Side.{Side}
use Rattle.nat_types.specs.declared.gateways.Side.TheVariants.{Inside, Outside}
use Rattle.arp.specs.Packet.{arp_refusal, packet_of}
use Rattle.frames.specs.Frame.{Frame, frame_of}
use Rattle.frames.specs.declared.ethernet.TheConstants.{LONGEST_WHOLE}
use Rattle.icmp.specs.declared.errors.TheConstants.{PROTOCOL}
use Rattle.icmp.specs.declared.faults.IcmpFault.{IcmpFault}
use Rattle.icmp.specs.declared.faults.IcmpFault.TheVariants.{NotError, BadError, NotQuery, BadQuery, NotAsked}
use Rattle.icmp.specs.declared.packets.ErrorFlow.{ErrorFlow}
use Rattle.icmp.specs.Error.{has_error_kind}
use Rattle.icmp.specs.Packet.{error_packet_of, is_about, packet_refusal}
use Rattle.icmp.specs.Query.{query_packet_refusal}
use Rattle.ipv4.specs.declared.faults.Ipv4Fault as fault
use Rattle.ipv4.specs.declared.faults.Ipv4Fault.{Ipv4Fault}
use Rattle.ipv4.specs.Carried.{transport_refusal as carried_refusal}
use Rattle.ipv4.specs.Flow.{packet_of as packet_read}
use Rattle.ipv4.specs.Header.{header_of, ipv4_refusal, payload_of}
use Rattle.packet_rules.specs.declared.networks.Direction.{Direction}
use Rattle.packet_rules.specs.declared.networks.Direction.TheVariants.{Outward, Inward, Hairpin}
use Rattle.packet_rules.specs.declared.networks.Network.{Network}
use Rattle.packet_rules.specs.declared.networks.Networks.{Networks}
use Rattle.packet_rules.specs.declared.readings.Reading.{Reading}
use Rattle.packet_rules.specs.declared.readings.Reading.TheVariants.{Arp, Advert, Packet, Error, Asked}
use Rattle.packet_rules.specs.declared.reasons.Reason.{Reason}
use Rattle.packet_rules.specs.declared.reasons.Reason.TheVariants as why
use Rattle.packet_rules.specs.Asked.{asked_of, is_asked}
use Rattle.packet_rules.specs.Errors as errors
use Rattle.packet_rules.specs.Networks as networks
use Rattle.packet_rules.specs.Queries.{kind_entering, kind_leaving}
use Rattle.packet_rules.specs.Steps as steps
use Rattle.packet_rules.specs.Steps.{and_then, reading_of, reason_of, reason_of_icmp, unless}

-- whether a reason is one that only a plan has: no port is free, the host has all the pairs that it may have, or the packet
-- is too long
abbrev pub is_of_plan : Reason → Bool
is_of_plan why.ShortFrame = false
is_of_plan why.NotMine = false
is_of_plan why.BadHeader = false
is_of_plan why.BadLength = false
is_of_plan why.BadHeaderSum = false
is_of_plan why.Fragment = false
is_of_plan why.TtlOver = false
is_of_plan why.NotUdpTcp = false
is_of_plan why.BadTransport = false
is_of_plan why.BadArp = false
is_of_plan why.BadAdvert = false
is_of_plan why.NotUp = false
is_of_plan why.NoBinding = false
is_of_plan why.NoPort = true
is_of_plan why.CannotWait = false
is_of_plan why.BadDatagram = false
is_of_plan why.OldWord = false
is_of_plan why.HostLimit = true
is_of_plan why.TooLong = true
is_of_plan why.TooMany = false
is_of_plan why.SourceRoute = false

-- the result isn't refused for one of these three reasons
abbrev pub IsEarly : {X : Type 0} → Result X Reason → Type 0
IsEarly (Ok x) = Unit {0}
IsEarly (Err reason) = is_of_plan reason ≡ false

abbrev IsEarlyOption : Option Reason → Type 0
IsEarlyOption None = Unit {0}
IsEarlyOption (Some reason) = is_of_plan reason ≡ false

unless-early : {X : Type 0} (o : Option Reason) (step : Result X Reason) → IsEarlyOption o → IsEarly step → IsEarly (unless o step)
unless-early None step none fine = fine
unless-early (Some reason) step some fine = some

cond-early : {X : Type 0} (b : Bool) (one two : Result X Reason) → IsEarly one → IsEarly two → IsEarly (let r : Result X Reason = cond b one two in r)
cond-early true one two first second = first
cond-early false one two first second = second

refusal-early : (b : Bool) (reason : Reason) → is_of_plan reason ≡ false → IsEarlyOption (let o : Option Reason = cond b None (Some reason) in o)
refusal-early true reason fine = tt
refusal-early false reason fine = fine

ipv4-early : (o : Option Ipv4Fault) → IsEarlyOption (option_map reason_of o)
ipv4-early None = tt
ipv4-early (Some fault.TheVariants.TooShort) = refl
ipv4-early (Some fault.TheVariants.BadVersion) = refl
ipv4-early (Some fault.TheVariants.BadLength) = refl
ipv4-early (Some fault.TheVariants.BadHeaderSum) = refl
ipv4-early (Some fault.TheVariants.Fragment) = refl
ipv4-early (Some fault.TheVariants.NotUdpTcp) = refl
ipv4-early (Some fault.TheVariants.BadTransport) = refl
ipv4-early (Some fault.TheVariants.SourceRoute) = refl

icmp-early : (o : Option IcmpFault) → IsEarlyOption (option_map reason_of_icmp o)
icmp-early None = tt
icmp-early (Some NotError) = refl
icmp-early (Some BadError) = refl
icmp-early (Some NotQuery) = refl
icmp-early (Some BadQuery) = refl
icmp-early (Some NotAsked) = refl

-- ---- the steps of a reading

size-early : (bytes : List ℕ) → IsEarlyOption (steps.size_refusal bytes)
unfolding steps.size_refusal
size-early bytes = refusal-early (nat_le 14 (length bytes) && nat_le (length bytes) LONGEST_WHOLE) why.ShortFrame refl

up-early : (up : Bool) → IsEarlyOption (steps.up_refusal up)
unfolding steps.up_refusal
up-early up = refusal-early up why.NotUp refl

destination-early : (network : Network) (active : Bool) (frame : Frame) → IsEarlyOption (steps.destination_refusal network active frame)
unfolding steps.destination_refusal
destination-early network active frame = refusal-early (networks.is_addressed network active frame.dst && ((frame.ethertype == 2048) || (frame.ethertype == 2054))) why.NotMine refl

arp-early : (body : List ℕ) → IsEarly (steps.arp_reading body)
unfolding steps.arp_reading
arp-early body = cond-early (is_none (arp_refusal body)) (Ok (Arp (packet_of body))) (Err why.BadArp) tt refl

header-early : (packet : List ℕ) → IsEarlyOption (steps.header_refusal packet)
unfolding steps.header_refusal
header-early packet = ipv4-early (ipv4_refusal packet)

advert-early : (network : Network) (packet : List ℕ) → IsEarly (steps.advert_reading network packet)
unfolding steps.advert_reading
advert-early network packet = cond-early _ (Ok (Advert _ _)) (Err why.BadAdvert) tt refl

virtual-early : (network : Network) (frame : Frame) → IsEarlyOption (steps.virtual_refusal network frame)
unfolding steps.virtual_refusal
virtual-early network frame = refusal-early (networks.is_virtual network frame.dst) why.NotMine refl

transport-refusal-early : (packet : List ℕ) → IsEarlyOption (steps.transport_refusal packet)
unfolding steps.transport_refusal
transport-refusal-early packet = ipv4-early (carried_refusal packet)

query-refusal-early : (side : Side) (packet : List ℕ) → IsEarlyOption (steps.query_refusal side packet)
unfolding steps.query_refusal
query-refusal-early side packet = icmp-early (query_packet_refusal (kind_entering side) packet)

error-refusal-early : (packet : List ℕ) → IsEarlyOption (steps.error_refusal packet)
unfolding steps.error_refusal
error-refusal-early packet = icmp-early (packet_refusal packet)

ttl-early : (packet : List ℕ) → IsEarlyOption (steps.ttl_refusal packet)
unfolding steps.ttl_refusal
ttl-early packet = refusal-early (nat_le 2 (header_of packet).ttl) why.TtlOver refl

about-early : (side : Side) (packet : List ℕ) → IsEarlyOption (steps.about_refusal side packet)
unfolding steps.about_refusal
about-early side packet = refusal-early (is_about (kind_leaving side) packet) why.NoBinding refl

transport-early : (packet : List ℕ) → IsEarly (steps.transport_reading packet)
unfolding steps.transport_reading
transport-early packet =
    unless-early (steps.transport_refusal packet) _ (transport-refusal-early packet)
    (unless-early (steps.ttl_refusal packet) (Ok (Packet (packet_read packet))) (ttl-early packet) tt)

query-early : (side : Side) (packet : List ℕ) → IsEarly (steps.query_reading side packet)
unfolding steps.query_reading
query-early side packet =
    unless-early (steps.query_refusal side packet) _ (query-refusal-early side packet)
    (unless-early (steps.ttl_refusal packet) (Ok (Packet (packet_read packet))) (ttl-early packet) tt)

error-early : (side : Side) (packet : List ℕ) → IsEarly (steps.error_reading side packet)
unfolding steps.error_reading
error-early side packet =
    unless-early (steps.error_refusal packet) _ (error-refusal-early packet)
    (unless-early (steps.ttl_refusal packet) _ (ttl-early packet)
    (unless-early (steps.about_refusal side packet) (Ok (Error (error_packet_of packet))) (about-early side packet) tt))

icmp-reading-early : (side : Side) (packet : List ℕ) → IsEarly (steps.icmp_reading side packet)
unfolding steps.icmp_reading
icmp-reading-early side packet = cond-early (has_error_kind (payload_of packet)) (steps.error_reading side packet) (steps.query_reading side packet) (error-early side packet) (query-early side packet)

packet-early : (side : Side) (network : Network) (frame : Frame) → IsEarly (steps.packet_reading side network frame)
unfolding steps.packet_reading
packet-early side network frame =
    unless-early (steps.virtual_refusal network frame) _ (virtual-early network frame)
    (cond-early ((header_of frame.body).protocol == PROTOCOL) (steps.icmp_reading side frame.body) (steps.transport_reading frame.body) (icmp-reading-early side frame.body) (transport-early frame.body))

other-early : (side : Side) (network : Network) (frame : Frame) → IsEarly (steps.other_reading side network frame)
unfolding steps.other_reading
other-early side network frame = cond-early (steps.is_vrrp frame.body) (steps.advert_reading network frame.body) (steps.packet_reading side network frame) (advert-early network frame.body) (packet-early side network frame)

ipv4-reading-early : (side : Side) (network : Network) (active : Bool) (frame : Frame) → IsEarly (steps.ipv4_reading side network active frame)
unfolding steps.ipv4_reading
ipv4-reading-early side network active frame =
    unless-early (steps.header_refusal frame.body) _ (header-early frame.body)
    (cond-early (is_asked network active frame) (Ok (Asked (asked_of frame.body))) (steps.other_reading side network frame) tt (other-early side network frame))

body-early : (side : Side) (network : Network) (active : Bool) (frame : Frame) → IsEarly (steps.body_reading side network active frame)
unfolding steps.body_reading
body-early side network active frame = cond-early (frame.ethertype == 2054) (steps.arp_reading frame.body) (steps.ipv4_reading side network active frame) (arp-early frame.body) (ipv4-reading-early side network active frame)

pub reading-early : (side : Side) (network : Network) (active up : Bool) (bytes : List ℕ) → IsEarly (reading_of side network active up bytes)
reading-early side network active up bytes =
    let frame = frame_of bytes in
    unless-early (steps.size_refusal bytes) _ (size-early bytes)
    (unless-early (steps.up_refusal up) _ (up-early up)
    (unless-early (steps.destination_refusal network active frame) (steps.body_reading side network active frame) (destination-early network active frame) (body-early side network active frame)))

-- ---- only a gateway that is up reads

up-passes : {X : Type 0} (up : Bool) (step : Result X Reason) (x : X) → unless (steps.up_refusal up) step ≡ Ok x → up ≡ true
unfolding steps.up_refusal
up-passes true step x is = refl
up-passes false step x is = absurd (cc)

pub reads-up : (side : Side) (network : Network) (active up : Bool) (bytes : List ℕ) (reading : Reading) → reading_of side network active up bytes ≡ Ok reading → up ≡ true
reads-up side network active up bytes reading = at (steps.size_refusal bytes)
  where
    at : (o : Option Reason) → (let frame = frame_of bytes in unless o (unless (steps.up_refusal up) (unless (steps.destination_refusal network active frame) (steps.body_reading side network active frame)))) ≡ Ok reading → up ≡ true
    at None is = up-passes up _ reading is
    at (Some reason) is = absurd (cc)

-- ---- the way of a packet and of an error

hairpin-early : (protocol : Protocol) → IsEarly (networks.hairpin_direction protocol)
unfolding networks.hairpin_direction
hairpin-early protocol = cond-early (same_protocol protocol Icmp) (Err why.NoBinding) (Ok Hairpin) refl tt

inside-early : (n : Networks) (protocol : Protocol) (source destination : ℕ) → IsEarly (networks.inside_direction n protocol source destination)
unfolding networks.inside_direction
inside-early n protocol source destination =
    cond-early _ (Err why.NoBinding) _ refl
    (cond-early (destination == n.outside.interface.virtual_ip.0) (networks.hairpin_direction protocol) _ (hairpin-early protocol)
    (cond-early _ (Err why.NoBinding) (Ok Outward) refl tt))

outside-early : (n : Networks) (source destination : ℕ) → IsEarly (networks.outside_direction n source destination)
unfolding networks.outside_direction
outside-early n source destination =
    let martian = networks.lies_in source n.inside.interface || (source == n.outside.interface.virtual_ip.0) || networks.is_martian source in
    cond-early {X = Direction} (not (destination == n.outside.interface.virtual_ip.0)) (Err why.NoBinding) (cond martian (Err why.NoBinding) (Ok Inward)) refl
    (cond-early {X = Direction} martian (Err why.NoBinding) (Ok Inward) refl tt)

pub direction-early : (n : Networks) (side : Side) (protocol : Protocol) (source destination : ℕ) → IsEarly (networks.direction_of n side protocol source destination)
direction-early n Inside protocol source destination = inside-early n protocol source destination
direction-early n Outside protocol source destination = outside-early n source destination

-- the next step of an early result is early, where it is early from each value
then-early : {X Y : Type 0} (r : Result X Reason) (next : X → Result Y Reason) → IsEarly r → ((x : X) → IsEarly (next x)) → IsEarly (and_then r next)
then-early (Ok x) next fine each = each x
then-early (Err reason) next fine each = fine

pub error-direction-early : (n : Networks) (side : Side) (flow : ErrorFlow) → IsEarly (errors.error_direction n side flow)
unfolding errors.error_direction
error-direction-early n side flow =
    then-early (networks.direction_of n side flow.inside.protocol flow.source.0 flow.destination.0) _
    (direction-early n side flow.inside.protocol flow.source.0 flow.destination.0)
    (λ way. cond-early (flow.inside.source.0 == flow.destination.0) (Ok way) (Err why.NoBinding) tt refl)
