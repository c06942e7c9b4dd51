-- A batch that is drawn in parts, and what a gateway has loaded once it took Done.
use Rattle.std.specs.Prelude.{ℕ, Bool, true, false, ◌&&◌, not, is_some, Option, Some, None, List, [], ◌∷◌, ◌++◌, take, drop, map, if◌then◌else◌}
use Rattle.std.specs.List.{filter}
use Rattle.nat_types.specs.declared.pairs.EntryState.TheVariants.{Live, Held}
use Rattle.nat_types.specs.declared.pairs.Pair.{Pair}
use Rattle.nat_types.specs.declared.records.Record.{Record}
use Rattle.nat_types.specs.declared.records.Record.TheVariants.{Install, Accept, Refuse, Ask, Yes, No, Begin, Put, Done, Want, Grant, Owner, Tell}
use Rattle.bindings.specs.declared.entries.Entry.{Entry}
use Rattle.bindings.specs.declared.entries.PortBounds.{PortBounds}
use Rattle.bindings.specs.Entries.{pairs_in, entry_in}
use Rattle.bindings.specs.Runs.{all_ports}
use Rattle.bindings.specs.Table.{Table}
use Rattle.port_range.specs.Ports.{is_listed}
use Rattle.resync.specs.Batch.{is_settled}
use Rattle.resync.specs.Loading.{Load, loaded}

-- ---- draws

-- the records that draws of these sizes give, in order
abbrev pub drawn : List ℕ → List Record → List Record
drawn [] batch = []
drawn (n ∷ sizes) batch = take n batch ++ drawn sizes (drop n batch)

-- the records that these draws leave
abbrev pub undrawn : List ℕ → List Record → List Record
undrawn [] batch = batch
undrawn (n ∷ sizes) batch = undrawn sizes (drop n batch)

-- ---- the loading gateway, record by record

abbrev pub is_done : Record → Bool
is_done (Install p) = false
is_done (Accept k) = false
is_done (Refuse k) = false
is_done (Ask k) = false
is_done (Yes k) = false
is_done (No k) = false
is_done Begin = false
is_done (Put p) = false
is_done Done = true
is_done Want = false
is_done (Grant g) = false
is_done (Owner first last) = false
is_done (Tell p) = false

abbrev pub or_as_before : Load → Option Load → Load
or_as_before l None = l
or_as_before l (Some after) = after

-- a record out of its place changes nothing
abbrev pub after_record : Load → Record → Load
after_record l r = or_as_before l (loaded l r)

-- whether the record is Done, in its place
abbrev pub ends : Load → Record → Bool
ends l r = is_done r && is_some (loaded l r)

-- a load that is whole, and the records that came after its Done
pub record Ended : Type 0 where
  pub load : Load
  pub behind : List Record

-- the load once Done was taken in its place
abbrev pub until_done : Load → List Record → Option Ended
until_done l [] = None
until_done l (r ∷ rs) =
    if ends l r
    then Some (record { load = after_record l r; behind = rs })
    else until_done (after_record l r) rs

-- ---- what is loaded of a table

-- the ports of the ranges that the sender doesn't own
abbrev pub ports_left : PortBounds → PortBounds → List ℕ → List ℕ
ports_left zero one owned = filter (λ p. not (is_listed p owned)) (all_ports zero one)

-- the entry of a loaded pair: Held on a port that the sender owns, else Live
abbrev pub entry_loaded : List ℕ → Pair → Entry
entry_loaded owned p = entry_in (if is_listed p.key.port.0 owned then Held else Live) p

-- the entries of the settled pairs, each once, in order
abbrev pub entries_loaded : List ℕ → List Entry → List Entry
entries_loaded owned entries = map (entry_loaded owned) (pairs_in is_settled entries)

abbrev pub last_of : ℕ → List ℕ → ℕ
last_of n [] = n
last_of n (p ∷ ps) = last_of p ps

-- the load of a whole table
abbrev pub load_of_table : Table → Load
load_of_table t = record {
  zero = t.zero;
  one = t.one;
  begun = false;
  named = last_of 0 t.owned;
  entries = entries_loaded t.owned t.entries;
  owned = ports_left t.zero t.one t.owned;
}
