-- The endpoints whose packets wait for the peer's answer.
use Rattle.std.specs.Prelude.{Bool, false, not, Option, Some, None}
use Rattle.nat_types.specs.declared.pairs.EntryState.{EntryState}
use Rattle.nat_types.specs.declared.pairs.EntryState.TheVariants.{Pending, Doomed, Live, Closing, Alone, Held}
use Rattle.nat_types.specs.declared.pairs.Endpoint.{Endpoint}
use Rattle.bindings.specs.declared.entries.Entry.{Entry}
use Rattle.bindings.specs.Entries.{entry_of}
use Rattle.spec_binding.specs.Books.{Book}

-- whether an entry in this state is an own proposal that the peer hasn't answered, and that isn't marked
abbrev pub is_pending : EntryState → Bool
is_pending (Pending marked) = not marked
is_pending Doomed = false
is_pending Live = false
is_pending (Closing marked) = false
is_pending Alone = false
is_pending Held = false

-- whether the entry, if any, is such a proposal
abbrev pub waits_by : Option Entry → Bool
waits_by None = false
waits_by (Some x) = is_pending x.state

-- whether the endpoint's pair is proposed, not answered yet and not marked, so that its packets wait
abbrev pub is_waiting : Book → Endpoint → Bool
is_waiting b e = waits_by (entry_of b.entries e)
