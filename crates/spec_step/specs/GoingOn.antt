-- Going on: where a packet or an error is sent, where no port is free for a packet, where its host has all the pairs that
-- it may have, and where it waits for its pair.
use Rattle.std.specs.Prelude.{◌≡◌, ◌<◌, ℕ, true, false, Option, Some, None, Ok, List}
use Rattle.std.specs.List.{AllByRecursion}
use Rattle.addresses.specs.declared.ethernet.Mac.{Mac}
use Rattle.addresses.specs.declared.transport.Port.{Port}
use Rattle.nat_types.specs.declared.gateways.Side.{Side}
use Rattle.nat_types.specs.declared.pairs.Endpoint.{Endpoint}
use Rattle.nat_types.specs.declared.pairs.Pair.{Pair}
use Rattle.icmp.specs.declared.packets.ErrorFlow.{ErrorFlow}
use Rattle.icmp.specs.declared.packets.ErrorPacket.{ErrorPacket}
use Rattle.ipv4.specs.declared.flows.Flow.{Flow}
use Rattle.ipv4.specs.declared.packets.Packet.{Packet as Datagram}
use Rattle.bindings.specs.declared.entries.Entry.{Entry}
use Rattle.bindings.specs.Entries.{entry_of, own_entry_of, slot_of, translates}
use Rattle.bindings.specs.Ports.{is_free_in}
use Rattle.spec_binding.specs.declared.changes.Want.TheVariants as want
use Rattle.spec_binding.specs.Books.{owns}
use Rattle.spec_binding.specs.Rows.{is_at_limit, new_pair, port_for}
use Rattle.packet_rules.specs.declared.networks.Direction.{Direction}
use Rattle.packet_rules.specs.declared.networks.Direction.TheVariants as way
use Rattle.packet_rules.specs.declared.readings.Reading.TheVariants.{Packet, Error}
use Rattle.packet_rules.specs.declared.translations.Translation.{Translation}
use Rattle.packet_rules.specs.declared.translations.Translation.TheVariants.{Outward, Inward, Hairpin}
use Rattle.packet_rules.specs.Errors.{endpoint_about, error_direction, key_about}
use Rattle.packet_rules.specs.Flows.{source_of, target_of}
use Rattle.packet_rules.specs.Frames.{way_of}
use Rattle.packet_rules.specs.Networks.{direction_of, exit_of}
use Rattle.waiting.specs.declared.waits.WaitsFor.TheVariants as wait
use Rattle.waiting.specs.Packets.{host_count, pair_count}
use Rattle.waiting.specs.Waits.{same_wait}
use Rattle.spec_step.specs.Shown.{Shown}
use Rattle.spec_step.specs.Verdict.{exit_by, fits_at, look_for, next_by, next_to, reading_on, target_pair}

-- the entry that was found is of this pair, and translates
pub record Translates (found : Option Entry) (p : Pair) : Type 0 where
  pub entry : Entry
  pub is : found ≡ Some entry
  pub pair : entry.pair ≡ p
  pub translating : translates entry.state ≡ true

-- ---- a packet

-- The pairs of a packet translate: outward the pair of its source, inward the pair of the port that it goes to, for a
-- hairpin both.
abbrev pub HavePairs : Shown → Flow → Translation → Type 0
HavePairs g flow (Outward p) = Translates (entry_of g.ledger.book.entries (source_of flow)) p
HavePairs g flow (Inward p) = Translates (slot_of g.ledger.book.entries (target_of flow)) p
HavePairs g flow (Hairpin own other) =
    Translates (entry_of g.ledger.book.entries (source_of flow)) own
    × Translates (slot_of g.ledger.book.entries (target_of flow)) other

-- The frame has a packet that goes on: it is valid, its time to live is above one, it may go this way, its pairs
-- translate, its next hop's hardware address is known, and it is no longer than what is sent there, or may be cut.
pub record MayGoOn (g : Shown) (side : Side) (bytes : List ℕ) (by : Translation) : Type 0 where
  pub packet : Datagram
  pub reads : reading_on g side bytes ≡ Ok (Packet packet)
  pub way : let flow = packet.flow in
      direction_of g.networks side flow.protocol flow.source.0 flow.destination.0 ≡ Ok (way_of by)
  pub pairs : HavePairs g packet.flow by
  pub hop : Mac
  pub next : next_by g by packet.flow ≡ Some hop
  pub fits : fits_at g (exit_by by) packet.size ≡ true

-- the pair is the one on a port that the gateway owns, where the endpoint has two
abbrev pub IsOwnWhereTwo : Shown → Endpoint → Pair → Type 0
IsOwnWhereTwo g e p = (x : Entry) → own_entry_of g.ledger.book.entries e ≡ Some x → x.pair ≡ p

-- outward, and for a hairpin's sender, a packet goes by that pair of its source
abbrev pub GoesByOwn : Shown → Flow → Translation → Type 0
GoesByOwn g flow (Outward p) = IsOwnWhereTwo g (source_of flow) p
GoesByOwn g flow (Inward p) = Unit {0}
GoesByOwn g flow (Hairpin own other) = IsOwnWhereTwo g (source_of flow) own

-- ---- an error

-- The pairs of an error translate: outward the pair of the endpoint to which the packet inside came in, inward the pair
-- of the port by which it went out, for a hairpin both.
abbrev pub HaveErrorPairs : Shown → ErrorFlow → Translation → Type 0
HaveErrorPairs g flow (Outward p) =
    Translates (entry_of g.ledger.book.entries (endpoint_about flow)) p
HaveErrorPairs g flow (Inward p) =
    Translates (slot_of g.ledger.book.entries (key_about flow)) p
HaveErrorPairs g flow (Hairpin own other) =
    Translates (entry_of g.ledger.book.entries (endpoint_about flow)) own
    × Translates (slot_of g.ledger.book.entries (key_about flow)) other

-- the frame has an error that goes on, under the conditions of MayGoOn
pub record MayPassOn (g : Shown) (side : Side) (bytes : List ℕ) (by : Translation) : Type 0 where
  pub packet : ErrorPacket
  pub reads : reading_on g side bytes ≡ Ok (Error packet)
  pub way : error_direction g.networks side packet.flow ≡ Ok (way_of by)
  pub pairs : HaveErrorPairs g packet.flow by
  pub hop : Mac
  pub next : next_to g by packet.flow.destination ≡ Some hop
  pub fits : fits_at g (exit_by by) packet.size ≡ true

-- ---- a packet for which a port has to be chosen

-- the way of a packet needs a pair of the packet's source: outward, and back in to a pair that translates
abbrev pub NeedsPair : Shown → Flow → Direction → Type 0
NeedsPair g flow way.Outward = Unit {0}
NeedsPair g flow way.Inward = ⊥
NeedsPair g flow way.Hairpin = (p : Pair) × (target_pair g flow ≡ Ok p)

-- A port has to be chosen for the packet of a frame: its way needs a pair of its source, which has none. A proposal that
-- was given up counts as none.
pub record NeedsPort (g : Shown) (side : Side) (bytes : List ℕ) : Type 0 where
  pub packet : Datagram
  pub reads : reading_on g side bytes ≡ Ok (Packet packet)
  pub way : Direction
  pub goes : let flow = packet.flow in
      direction_of g.networks side flow.protocol flow.source.0 flow.destination.0 ≡ Ok way
  pub needs : NeedsPair g packet.flow way
  pub none : entry_of g.ledger.book.entries (source_of packet.flow) ≡ None

-- A port has to be chosen and none is free: the host is below its limit, and each port that the gateway owns has an
-- entry of the packet's protocol.
pub record HasNoPort (g : Shown) (side : Side) (bytes : List ℕ) : Type 0 where
  pub chooses : NeedsPort g side bytes
  pub below : is_at_limit g.ledger.book chooses.packet.flow.source ≡ false
  pub busy : (port : ℕ) → owns g.ledger.book port ≡ true
      → is_free_in g.ledger.book.entries chooses.packet.flow.protocol port ≡ false

-- A port has to be chosen, and the host has as many pairs as it may have, or more.
pub record HasAllPairs (g : Shown) (side : Side) (bytes : List ℕ) : Type 0 where
  pub chooses : NeedsPort g side bytes
  pub reached : is_at_limit g.ledger.book chooses.packet.flow.source ≡ true

-- ---- a packet that begins a pair

-- the translation of a packet whose source gets a pair on this port
abbrev pub BeginsBy : Shown → Flow → Port → Translation → Type 0
BeginsBy g flow port (Outward p) = p ≡ new_pair (source_of flow) port
BeginsBy g flow port (Inward p) = ⊥
BeginsBy g flow port (Hairpin own other) =
    (own ≡ new_pair (source_of flow) port) × (target_pair g flow ≡ Ok other)

-- A packet may begin a pair: it is valid and its time to live is above one, its source has no pair, the host is below its
-- limit, a port is free, the next hop's hardware address is known, and the packet is no longer than what is sent there,
-- or may be cut.
pub record MayBegin (g : Shown) (side : Side) (bytes : List ℕ) : Type 0 where
  pub packet : Datagram
  pub reads : reading_on g side bytes ≡ Ok (Packet packet)
  pub none : entry_of g.ledger.book.entries (source_of packet.flow) ≡ None
  pub below : is_at_limit g.ledger.book packet.flow.source ≡ false
  pub port : Port
  pub free : port_for g.ledger.book (source_of packet.flow) ≡ Some port
  pub by : Translation
  pub begins : BeginsBy g packet.flow port by
  pub way : let flow = packet.flow in
      direction_of g.networks side flow.protocol flow.source.0 flow.destination.0 ≡ Ok (way_of by)
  pub hop : Mac
  pub next : next_by g by packet.flow ≡ Some hop
  pub fits : fits_at g (exit_by by) packet.size ≡ true

-- ---- a packet that waits for its pair

-- There is a place for a packet that waits for the pair of its source: fewer than 64 packets wait for pairs, fewer than 16
-- of its inside address, and none for this pair.
pub record HasPlace (g : Shown) (e : Endpoint) : Type 0 where
  pub places : pair_count g.kept < 64
  pub share : host_count e.address.0 g.kept < 16
  pub none : AllByRecursion (λ w. same_wait w.wait (wait.Pair e) ≡ false) g.kept

-- A packet may wait for its pair: it is valid and its time to live is above one, its way needs a pair of its source, which
-- is or would be proposed to the peer, there is a place for it, and it is no longer than what is sent there, or may be cut.
pub record MayWait (g : Shown) (side : Side) (bytes : List ℕ) : Type 0 where
  pub packet : Datagram
  pub reads : reading_on g side bytes ≡ Ok (Packet packet)
  pub way : Direction
  pub goes : let flow = packet.flow in
      direction_of g.networks side flow.protocol flow.source.0 flow.destination.0 ≡ Ok way
  pub needs : NeedsPair g packet.flow way
  pub waits : look_for g packet.flow ≡ want.Wait
  pub place : HasPlace g (source_of packet.flow)
  pub fits : fits_at g (exit_of way) packet.size ≡ true
