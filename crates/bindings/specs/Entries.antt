-- Entries of a table: distinct keys, and distinct endpoints among the own pairs and among the Held ones.
use Rattle.std.specs.Prelude.{◌≡◌, ℕ, ◌+◌, ◌*◌, ◌==◌, Bool, true, false, not, ◌&&◌, Option, Some, None, is_some, nat_le, List, [], ◌∷◌, length, map, if◌then◌else◌}
use Rattle.std.specs.List.{find, filter, count_by}
use Rattle.std.specs.Option.{option_or}
use Rattle.nat_types.specs.declared.pairs.EntryState.{EntryState}
use Rattle.nat_types.specs.declared.pairs.EntryState.TheVariants.{Pending, Doomed, Live, Closing, Alone, Held}
use Rattle.nat_types.specs.declared.pairs.Endpoint.{Endpoint}
use Rattle.nat_types.specs.declared.pairs.Key.{Key}
use Rattle.nat_types.specs.declared.pairs.Pair.{Pair}
use Rattle.addresses.specs.declared.internet.Ip.{Ip}
use Rattle.addresses.specs.Transport.{protocol_number}
use Rattle.nat_types.specs.Same.{same_key, same_endpoint}
use Rattle.slots.specs.declared.ranks.Rank.{Rank}
use Rattle.slots.specs.declared.ranks.Rank.TheVariants.{First, Second}
use Rattle.slots.specs.Ranks.{same_rank}
use Rattle.bindings.specs.declared.entries.Entry.{Entry}
use Rattle.bindings.specs.declared.tallies.Sought.{Sought}
use Rattle.bindings.specs.declared.tallies.Sought.TheVariants.{ToMark, ToTell}
use Rattle.bindings.specs.declared.entries.TableFault.{TableFault}
use Rattle.bindings.specs.declared.entries.TableFault.TheVariants.{Full, PortTaken, EndpointTaken}

-- An endpoint may have two pairs: an own one, on a port that the gateway owns, which has the first rank, and a Held
-- one, which has the second. A Doomed entry is a proposal given up, and has none.
abbrev pub rank_of : EntryState → Option Rank
rank_of (Pending marked) = Some First
rank_of Doomed = None
rank_of Live = Some First
rank_of (Closing marked) = Some First
rank_of Alone = Some First
rank_of Held = Some Second

abbrev pub has_rank : Option Rank → Rank → Bool
has_rank None rank = false
has_rank (Some r) rank = same_rank r rank

-- an entry of that state is a pair of this rank
abbrev pub is_of_rank : Rank → EntryState → Bool
is_of_rank rank state = has_rank (rank_of state) rank

-- an entry is a pair of the table, unless it is Doomed
abbrev pub is_pair : EntryState → Bool
is_pair (Pending marked) = true
is_pair Doomed = false
is_pair Live = true
is_pair (Closing marked) = true
is_pair Alone = true
is_pair Held = true

-- packets are translated by the pair
abbrev pub translates : EntryState → Bool
translates (Pending marked) = marked
translates Doomed = false
translates Live = true
translates (Closing marked) = marked
translates Alone = true
translates Held = true

-- an answer is awaited of the peer, and the pair doesn't translate until it comes
abbrev pub waits : EntryState → Bool
waits (Pending marked) = not marked
waits Doomed = false
waits Live = false
waits (Closing marked) = not marked
waits Alone = false
waits Held = false

-- the pair goes on though an answer is awaited
abbrev pub is_marked : EntryState → Bool
is_marked (Pending marked) = marked
is_marked Doomed = false
is_marked Live = false
is_marked (Closing marked) = marked
is_marked Alone = false
is_marked Held = false

abbrev pub is_alone : EntryState → Bool
is_alone (Pending marked) = false
is_alone Doomed = false
is_alone Live = false
is_alone (Closing marked) = false
is_alone Alone = true
is_alone Held = false

abbrev pub is_alone_by : Option Entry → Bool
is_alone_by None = false
is_alone_by (Some e) = is_alone e.state

-- a tick looks for entries to mark, or for entries to tell the peer of
abbrev pub is_sought : Sought → EntryState → Bool
is_sought ToMark state = waits state
is_sought ToTell state = is_alone state

-- a pair in this state may be marked
abbrev pub is_markable : EntryState → Bool
is_markable (Pending marked) = true
is_markable Doomed = false
is_markable Live = false
is_markable (Closing marked) = true
is_markable Alone = false
is_markable Held = false

-- the state with a mark, where it may have one
abbrev pub with_mark : EntryState → EntryState
with_mark (Pending marked) = Pending true
with_mark Doomed = Doomed
with_mark Live = Live
with_mark (Closing marked) = Closing true
with_mark Alone = Alone
with_mark Held = Held

-- the pairs that are listed: those that translate, or all but Doomed ones
abbrev pub is_listed : Bool → EntryState → Bool
is_listed translating state = (if translating then translates state else is_pair state)

-- the entry has the key
abbrev pub has_key : Key → Entry → Bool
has_key key e = same_key e.pair.key key

-- the entry is a pair of that rank that serves the endpoint
abbrev pub serves : Rank → Endpoint → Entry → Bool
serves rank x e = is_of_rank rank e.state && same_endpoint e.pair.endpoint x

-- the entry of a key
abbrev pub slot_of : List Entry → Key → Option Entry
slot_of entries key = find (has_key key) entries

-- the pair of that rank of an endpoint
abbrev pub entry_on : Rank → List Entry → Endpoint → Option Entry
entry_on rank entries x = find (serves rank x) entries

abbrev pub own_entry_of : List Entry → Endpoint → Option Entry
own_entry_of entries x = entry_on First entries x

abbrev pub held_entry_of : List Entry → Endpoint → Option Entry
held_entry_of entries x = entry_on Second entries x

-- the pair of an endpoint: its own pair, whatever the state, else its Held one
abbrev pub entry_of : List Entry → Endpoint → Option Entry
entry_of entries x = option_or (own_entry_of entries x) (held_entry_of entries x)

-- the entry is a pair of that inside address
abbrev pub is_pair_of : Ip → Entry → Bool
is_pair_of address e = is_pair e.state && e.pair.endpoint.address.0 == address.0

-- how many pairs that inside address has, Doomed ones aside
abbrev pub pairs_of : Ip → List Entry → ℕ
pairs_of address entries = count_by (is_pair_of address) entries

-- the slots with that of this key replaced
abbrev pub set_at : (Key → Option Entry) → Key → Option Entry → Key → Option Entry
set_at slots key slot q = (if same_key key q then slot else slots q)

-- no key has two entries
abbrev pub HasDistinctKeys : List Entry → Type 0
HasDistinctKeys [] = Unit {0}
HasDistinctKeys (e ∷ es) = (slot_of es e.pair.key ≡ None) × HasDistinctKeys es

-- no endpoint has two pairs of one rank
abbrev pub HasDistinctEndpoints : List Entry → Type 0
HasDistinctEndpoints [] = Unit {0}
HasDistinctEndpoints (e ∷ es) =
    ((rank : Rank) → is_of_rank rank e.state ≡ true → entry_on rank es e.pair.endpoint ≡ None) × HasDistinctEndpoints es

-- a pair of that rank, if there is one, serves the endpoint
abbrev pub is_taken : Option Rank → List Entry → Endpoint → Bool
is_taken None entries x = false
is_taken (Some rank) entries x = is_some (entry_on rank entries x)

-- the first reason that holds for which an entry can't come into a table of that capacity
abbrev pub refusal_of : ℕ → List Entry → Entry → Option TableFault
refusal_of capacity entries e =
    (if nat_le capacity (length entries) then Some Full
    else (if is_some (slot_of entries e.pair.key) then Some PortTaken
    else (if is_taken (rank_of e.state) entries e.pair.endpoint then Some EndpointTaken
    else None)))

-- a pair's entry in that state
abbrev pub entry_in : EntryState → Pair → Entry
entry_in state pair = record { pair = pair; state = state }

-- the pairs of those entries whose state passes a test
abbrev pub pairs_in : (EntryState → Bool) → List Entry → List Pair
pairs_in test entries = map (λ e. e.pair) (filter (λ e. test e.state) entries)

-- how many entries have a state that passes
abbrev pub state_count : (EntryState → Bool) → List Entry → ℕ
state_count test entries = count_by (λ e. test e.state) entries

-- a pair's place in the order by protocol (icmp first) and port
abbrev pub place_of : Pair → ℕ
place_of p = 65536 * protocol_number p.key.protocol + p.key.port.0
