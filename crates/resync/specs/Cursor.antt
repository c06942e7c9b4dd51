-- Which records of a batch are still to be drawn.
use Rattle.std.specs.Prelude.{ℕ, ◌-◌, Bool, true, false, ◌&&◌, nat_lt, Option, Some, None, List, [], ◌∷◌, ◌++◌, map}
use Rattle.std.specs.List.{filter}
use Rattle.addresses.specs.declared.transport.Port.{Port}
use Rattle.nat_types.specs.declared.pairs.Key.{Key}
use Rattle.nat_types.specs.declared.pairs.Pair.{Pair}
use Rattle.nat_types.specs.declared.records.Record.{Record}
use Rattle.nat_types.specs.declared.records.Record.TheVariants.{Done}
use Rattle.bindings.specs.declared.entries.Entry.{Entry}
use Rattle.bindings.specs.declared.entries.PortBounds.{PortBounds}
use Rattle.bindings.specs.Entries.{pairs_in, place_of}
use Rattle.bindings.specs.Lists.{key_place}
use Rattle.bindings.specs.Runs.{runs_of, ports_from_on}
use Rattle.bindings.specs.Table.{Table}
use Rattle.resync.specs.Batch.{is_settled, owners_of, record_for, puts_of, batch_of}
use Rattle.resync.specs.declared.cursor.Cursor.{Cursor}
use Rattle.resync.specs.declared.cursor.Cursor.TheVariants as at

-- the runs of the owned ports from one on, if there is such a port
abbrev pub runs_from : Option Port → List ℕ → List PortBounds
runs_from None owned = []
runs_from (Some from) owned = runs_of (ports_from_on from.0 owned)

-- whether a pair comes after a key in the order of a table; each does where there is no key
abbrev pub is_behind : Option Key → Pair → Bool
is_behind None p = true
is_behind (Some key) p = nat_lt (key_place key) (place_of p)

-- the settled pairs after a key
abbrev pub pairs_behind : Option Key → List Entry → List Pair
pairs_behind last entries = filter (is_behind last) (pairs_in is_settled entries)

-- the Puts and Tells of these pairs
abbrev pub puts_behind : Option Key → List Entry → List Record
puts_behind last entries = map (record_for (pairs_in is_settled entries)) (pairs_behind last entries)

-- whether there is an entry, it is settled, and it is before this key
abbrev pub is_settled_below : Key → Option Entry → Bool
is_settled_below key None = false
is_settled_below key (Some e) = is_settled e.state && nat_lt (place_of e.pair) (key_place key)

-- the records of the batch that are still to be drawn, of a table's owned ports and entries
abbrev pub to_come : Cursor → List ℕ → List Entry → List Record
to_come at.Begin owned entries = batch_of owned entries
to_come (at.Owners from) owned entries = owners_of (runs_from from owned) ++ (puts_of entries ++ Done ∷ [])
to_come (at.Puts last) owned entries = puts_behind last entries ++ Done ∷ []
to_come at.Over owned entries = []

abbrev pub coming : Cursor → Table → List Record
coming cursor t = to_come cursor t.owned t.entries

-- ---- how far a walk over ports or over keys is from its end

abbrev pub ports_ahead : Option Port → ℕ
ports_ahead None = 0
ports_ahead (Some from) = 65536 - from.0

abbrev pub place_after : Option Key → ℕ
place_after None = 0
place_after (Some key) = key_place key
