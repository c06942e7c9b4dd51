-- A whole table as records: what a gateway pushes for a peer that begins anew.
use Rattle.std.specs.Prelude.{◌≡◌, ℕ, true, false, Bool, ◌&&◌, not, nat_lt, Some, List, [], ◌∷◌, ◌++◌, map, if◌then◌else◌}
use Rattle.std.specs.List.{list_any}
use Rattle.nat_types.specs.declared.pairs.EntryState.{EntryState}
use Rattle.nat_types.specs.declared.pairs.EntryState.TheVariants.{Pending, Doomed, Live, Closing, Alone, Held}
use Rattle.nat_types.specs.declared.pairs.Key.{Key}
use Rattle.nat_types.specs.declared.pairs.Pair.{Pair}
use Rattle.nat_types.specs.declared.records.Record.{Record}
use Rattle.nat_types.specs.declared.records.Record.TheVariants.{Begin, Put, Done, Owner, Tell}
use Rattle.nat_types.specs.Same.{same_endpoint}
use Rattle.slots.specs.declared.ranks.Rank.TheVariants.{Second}
use Rattle.port_range.specs.Ports.{is_listed}
use Rattle.bindings.specs.declared.entries.Entry.{Entry}
use Rattle.bindings.specs.declared.entries.PortBounds.{PortBounds}
use Rattle.bindings.specs.Entries.{is_pair, is_of_rank, slot_of, pairs_in, place_of}
use Rattle.bindings.specs.Runs.{runs_of}
use Rattle.bindings.specs.Table.{Table}
use Rattle.link.specs.Grammar.{IsWellFormedPair}
use Rattle.nat_types.specs.Granted.{IsPort}

-- whether the pair was agreed: a proposal that waits for its answer, or was given up, is no part of a batch, nor is a
-- pair of which the peer has nothing
abbrev pub is_settled : EntryState → Bool
is_settled (Pending marked) = false
is_settled Doomed = false
is_settled Live = true
is_settled (Closing marked) = true
is_settled Alone = false
is_settled Held = true

-- an Owner for each unbroken run of owned ports, rising
abbrev pub owners_of : List PortBounds → List Record
owners_of runs = map (λ run. Owner run.lowest run.highest) runs

-- whether the second pair has the endpoint of the first, and is before it
abbrev pub is_ahead : Pair → Pair → Bool
is_ahead p q = same_endpoint q.endpoint p.endpoint && nat_lt (place_of q) (place_of p)

-- whether a pair's endpoint has a pair before it, of these pairs
abbrev pub is_second : List Pair → Pair → Bool
is_second pairs p = list_any (is_ahead p) pairs

-- a pair whose endpoint has a pair before it goes as Tell, each other one as Put
abbrev pub record_for : List Pair → Pair → Record
record_for pairs p = (if is_second pairs p then Tell p else Put p)

abbrev pub records_for : List Pair → List Record
records_for pairs = map (record_for pairs) pairs

-- a Put, or a Tell, for each settled pair, by protocol (icmp first) and port
abbrev pub puts_of : List Entry → List Record
puts_of entries = records_for (pairs_in is_settled entries)

-- Begin, the Owners, the Puts, Done
abbrev pub batch_of : List ℕ → List Entry → List Record
batch_of owned entries = Begin ∷ owners_of (runs_of owned) ++ (puts_of entries ++ Done ∷ [])

-- no entry is a proposal given up, as none is once the peer has begun anew
abbrev pub HasNoDoomed : List Entry → Type 0
HasNoDoomed entries = (key : Key) (x : Entry) → slot_of entries key ≡ Some x → is_pair x.state ≡ true

-- each entry's pair is agreed, as it is once the peer has begun anew
abbrev pub HasNoPending : List Entry → Type 0
HasNoPending entries = (key : Key) (x : Entry) → slot_of entries key ≡ Some x → is_settled x.state ≡ true

-- an entry is Held exactly where the gateway doesn't own its port
abbrev pub AreHeldElsewhere : List ℕ → List Entry → Type 0
AreHeldElsewhere owned entries =
    (key : Key) (x : Entry) → slot_of entries key ≡ Some x → is_of_rank Second x.state ≡ not (is_listed key.port.0 owned)

-- The records of a table's batch have a spelling on the link: the highest ports of both ranges are ports, and each
-- entry's pair has one.
pub record CanBeSent (t : Table) : Type 0 where
  pub highest : IsPort t.zero.highest.0 × IsPort t.one.highest.0
  pub pairs : (key : Key) (x : Entry) → slot_of t.entries key ≡ Some x → IsWellFormedPair x.pair
