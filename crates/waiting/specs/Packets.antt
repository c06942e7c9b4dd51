-- The packets that wait.
use Rattle.std.specs.Prelude.{◌≡◌, ℕ, ◌-◌, ◌≤◌, Bool, true, false, not, ◌&&◌, nat_lt, nat_le, Option, None, Some, List, [], ◌∷◌, length, map, if◌then◌else◌}
use Rattle.std.specs.List.{filter, count_by, list_any, sum_by, AllPairs}
use Rattle.nat_types.specs.declared.gateways.Side.{Side}
use Rattle.waiting.specs.declared.waits.WaitsFor.{WaitsFor}
use Rattle.waiting.specs.declared.waits.WaitsFor.TheVariants.{Pair, Hop}
use Rattle.waiting.specs.declared.waits.Ended.{Ended}
use Rattle.waiting.specs.Waits.{is_for_host, is_for_pair, same_wait, ends}

-- a packet that waits: the side on which it came in, its bytes, since when it waits, for what, and when its next hop was
-- last asked for (of a packet that waits for a pair: since when it waits)
pub record HeldPacket : Type 0 where
  pub side : Side
  pub bytes : List ℕ
  pub since : ℕ
  pub wait : WaitsFor
  pub asked : ℕ

-- whether a packet has waited for less than 300 centiseconds
abbrev pub is_young : ℕ → HeldPacket → Bool
is_young now packet = nat_lt (now - packet.since) 300

-- how many bytes a frame of so many has beyond 1,514, which is the most of a frame that comes in
abbrev pub beyond : ℕ → ℕ
beyond count = count - 1514

-- the octets of packets: how many bytes their frames have beyond 1,514 each
abbrev pub octets_in : List HeldPacket → ℕ
octets_in kept = sum_by (λ packet. beyond (length packet.bytes)) kept

-- how many packets wait for pairs, and how many for next hops
abbrev pub pair_count : List HeldPacket → ℕ
pair_count kept = count_by (λ packet. is_for_pair packet.wait) kept

abbrev pub hop_count : List HeldPacket → ℕ
hop_count kept = count_by (λ packet. not (is_for_pair packet.wait)) kept

-- how many packets of an inside address wait for pairs
abbrev pub host_count : ℕ → List HeldPacket → ℕ
host_count address kept = count_by (λ packet. is_for_host address packet.wait) kept

-- whether one more packet may wait for this: for a pair where fewer than 64 do, and fewer than 16 of its inside address; for
-- a next hop always
abbrev pub has_room : WaitsFor → List HeldPacket → Bool
has_room (Pair endpoint) kept =
    nat_lt (pair_count kept) 64 && nat_lt (host_count endpoint.address.0 kept) 16
has_room (Hop side host) kept = true

-- whether a packet that waits for this can be kept: it may wait, and none waits for the same
abbrev pub has_place : List HeldPacket → WaitsFor → Bool
has_place kept wait =
    has_room wait kept && not (list_any (λ packet. same_wait packet.wait wait) kept)

-- the packets without the first that waits for a next hop
abbrev pub without_first_hop : List HeldPacket → List HeldPacket
without_first_hop [] = []
without_first_hop (packet ∷ kept) =
    if is_for_pair packet.wait then packet ∷ without_first_hop kept else kept

-- the packets before one more is kept: where it waits for a next hop and 64 do, without the first of these
abbrev pub with_room : WaitsFor → List HeldPacket → List HeldPacket
with_room (Pair endpoint) kept = kept
with_room (Hop side host) kept =
    if nat_lt (hop_count kept) 64 then kept else without_first_hop kept

-- whether a packet waits for this, and its next hop was last asked for 100 centiseconds ago or more
abbrev pub asks_again : ℕ → WaitsFor → List HeldPacket → Bool
asks_again now wait kept =
    list_any (λ packet. same_wait wait packet.wait && nat_le 100 (now - packet.asked)) kept

-- a packet, and all packets, once the next hop of the one that waits for this was asked for at now
abbrev pub asked_packet : ℕ → WaitsFor → HeldPacket → HeldPacket
asked_packet now wait packet =
    if same_wait wait packet.wait then record packet { asked = now } else packet

abbrev pub with_asked : ℕ → WaitsFor → List HeldPacket → List HeldPacket
with_asked now wait kept = map (asked_packet now wait) kept

-- the packets whose wait is over, and the others, both in the order in which they were kept
abbrev pub ended_by : Ended → List HeldPacket → List HeldPacket
ended_by ended kept = filter (λ packet. ends ended packet.wait) kept

abbrev pub left_by : Ended → List HeldPacket → List HeldPacket
left_by ended kept = filter (λ packet. not (ends ended packet.wait)) kept

-- the packet that was taken off, or none, as a list
abbrev pub listed : Option HeldPacket → List HeldPacket
listed None = []
listed (Some packet) = packet ∷ []

-- no two packets wait for the same
abbrev pub AreApart : List HeldPacket → Type 0
AreApart kept = AllPairs (λ a b. same_wait a.wait b.wait ≡ false) kept

-- the invariant of a list: at most 64 wait for pairs, 16 of one inside address, and 64 for next hops, and no two for the
-- same
pub record IsKept (kept : List HeldPacket) : Type 0 where
  pub pairs : pair_count kept ≤ 64
  pub shares : (address : ℕ) → host_count address kept ≤ 16
  pub hops : hop_count kept ≤ 64
  pub once : AllPairs (λ a b. same_wait a.wait b.wait ≡ false) kept
