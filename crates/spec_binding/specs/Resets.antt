-- What a greater boot of the peer, and the operator's word that the peer is off, make of a book.
use Rattle.std.specs.Prelude.{ℕ, true, false, List, [], length, map, if◌then◌else◌}
use Rattle.nat_types.specs.declared.gateways.GatewayId.{GatewayId}
use Rattle.nat_types.specs.declared.notes.NoteKind.TheVariants.{Retaken}
use Rattle.nat_types.specs.declared.notes.Note.{Note}
use Rattle.nat_types.specs.declared.pairs.Pair.{Pair}
use Rattle.nat_types.specs.declared.records.Record.{Record}
use Rattle.bindings.specs.declared.entries.Entry.{Entry}
use Rattle.bindings.specs.Entries.{pairs_in}
use Rattle.bindings.specs.Revivals.{revived_entries, comes_back}
use Rattle.link.specs.Link.{Link, with_promised}
use Rattle.resync.specs.Batch.{batch_of}
use Rattle.spec_binding.specs.declared.setups.Stage.TheVariants.{Paired, Lone}
use Rattle.spec_binding.specs.Books.{Book, emptied, is_synced}

-- the pairs that become Live by a reset: those that waited for an answer, marked or not, and those made alone
abbrev pub back_in : List Entry → List Pair
back_in es = pairs_in comes_back es

-- the notes Retaken of these pairs, at time `now`
abbrev pub retaken : GatewayId → ℕ → List Pair → List Note
retaken i now ps = map (λ p. record { by = i; at = now; what = Retaken p; counts = true }) ps

-- the book after a reset: pairs that were proposed, asked to be closed or made alone are Live, proposals given up are
-- removed, and no Want is open
abbrev pub revived : Book → Book
revived b = record b { entries = revived_entries b.entries; wants = false; coming = [] }

-- the batch that a synced gateway has for a greater boot of the peer
abbrev pub restart_batch : Book → List Record
restart_batch b = batch_of b.owned (revived_entries b.entries)

-- the book of a synced gateway after it heard a greater boot: it isn't lone, and its batch is promised
abbrev pub begun_anew : Book → Book
begun_anew b = record (revived b) { stage = Paired; coming = restart_batch b }

-- the book after a greater boot of the peer was heard
abbrev pub restarted : Book → Book
restarted b =
    if is_synced b.stage
    then begun_anew b
    else emptied b

-- the notes made when a greater boot of the peer is heard
abbrev pub restart_notes : Book → ℕ → List Note
restart_notes b now = (if is_synced b.stage then retaken b.id now (back_in b.entries) else [])

-- the end of the link after a greater boot of the peer was heard: a synced gateway's batch is promised
abbrev pub restart_link : Book → Link → Link
restart_link b e = (if is_synced b.stage then with_promised e (length (restart_batch b)) else e)

-- the book after the operator said that the peer is off
abbrev pub put_lone : Book → Book
put_lone b = record (revived b) { stage = Lone }
