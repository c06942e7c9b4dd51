-- The pair by which an endpoint's packets are translated.
use Rattle.std.specs.Prelude.{◌≡◌, ◌⊎◌, Option, Some, None, if◌then◌else◌}
use Rattle.nat_types.specs.declared.notes.NoteKind.{NoteKind}
use Rattle.nat_types.specs.declared.notes.NoteKind.TheVariants.{Released}
use Rattle.nat_types.specs.declared.pairs.Endpoint.{Endpoint}
use Rattle.nat_types.specs.declared.pairs.Pair.{Pair}
use Rattle.bindings.specs.declared.entries.Entry.{Entry}
use Rattle.bindings.specs.Entries.{entry_of, translates}
use Rattle.spec_binding.specs.Books.{Book}

-- the pair of an entry, if there is one and it translates
abbrev pub serving_by : Option Entry → Option Pair
serving_by None = None
serving_by (Some x) = (if translates x.state then Some x.pair else None)

-- the endpoint's pair, where it translates
abbrev pub serving : Book → Endpoint → Option Pair
serving b e = serving_by (entry_of b.entries e)

-- the endpoint's pair still is the endpoint's pair and translates, or this note says that it is released
abbrev pub Stays : Book → Endpoint → Pair → Option NoteKind → Type 0
Stays b e p what = (serving b e ≡ Some p) ⊎ (what ≡ Some (Released p))
