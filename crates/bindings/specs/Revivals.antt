-- The entries of a table after the peer begins anew.
use Rattle.std.specs.Prelude.{Bool, true, false, Option, Some, None, List, [], ◌∷◌, map, if◌then◌else◌}
use Rattle.std.specs.List.{filter}
use Rattle.nat_types.specs.declared.pairs.EntryState.{EntryState}
use Rattle.nat_types.specs.declared.pairs.EntryState.TheVariants.{Pending, Doomed, Live, Closing, Alone, Held}
use Rattle.activity.specs.Lives.{Activity}
use Rattle.bindings.specs.declared.entries.Entry.{Entry}
use Rattle.bindings.specs.Entries.{is_pair, entry_in}

-- the state of a pair after that: a pair of which the peer hadn't agreed, or that it was asked to close, becomes Live
abbrev pub woken : EntryState → EntryState
woken (Pending marked) = Live
woken Doomed = Doomed
woken Live = Live
woken (Closing marked) = Live
woken Alone = Live
woken Held = Held

-- the state is one of which a pair becomes Live by that
abbrev pub comes_back : EntryState → Bool
comes_back (Pending marked) = true
comes_back Doomed = false
comes_back Live = false
comes_back (Closing marked) = true
comes_back Alone = true
comes_back Held = false

abbrev pub woken_entry : Entry → Entry
woken_entry e = entry_in (woken e.state) e.pair

-- the entries after that: Doomed ones are removed
abbrev pub revived_entries : List Entry → List Entry
revived_entries es = map woken_entry (filter (λ e. is_pair e.state) es)

-- the slot of a key after that
abbrev pub revived_slot : Option Entry → Option Entry
revived_slot None = None
revived_slot (Some e) = (if is_pair e.state then Some (woken_entry e) else None)

-- the lives of the entries that are pairs
abbrev pub lives_of_pairs : List Entry → List Activity → List Activity
lives_of_pairs [] ls = []
lives_of_pairs (e ∷ es) [] = []
lives_of_pairs (e ∷ es) (l ∷ ls) = (if is_pair e.state then l ∷ lives_of_pairs es ls else lives_of_pairs es ls)
