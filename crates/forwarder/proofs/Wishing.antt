-- A wish for a port leaves 64 places of the link free, where so many were; and a wish that changes nothing.
use Rattle.std.proofs.Common.{◌≡◌, ◌≤◌, ◌+◌, ◌&&◌, Bool, true, false, cond, not, Option, Some, None, [], ◌∷◌, List, min, refl, ap, ◌∙◌, arith, length-append}
use Rattle.std.proofs.lemmas.Bool.{ltb-false}
use Rattle.std.proofs.lemmas.List.{append-nil}
use Rattle.addresses.specs.declared.transport.Port.{Port}
use Rattle.nat_types.specs.declared.notes.Note.{Note}
use Rattle.nat_types.specs.declared.notes.NoteKind.TheVariants.{Retaken}
use Rattle.nat_types.specs.declared.pairs.Endpoint.{Endpoint}
use Rattle.nat_types.specs.declared.pairs.EntryState.{EntryState}
use Rattle.nat_types.specs.declared.pairs.EntryState.TheVariants as state
use Rattle.nat_types.specs.declared.pairs.Pair.{Pair}
use Rattle.nat_types.specs.declared.records.Record.{Record}
use Rattle.nat_types.specs.declared.records.Record.TheVariants as record_of
use Rattle.bindings.specs.declared.entries.Entry.{Entry}
use Rattle.bindings.specs.Entries.{entry_in, entry_of}
use Rattle.link.specs.Link.{Link, free_places, with_pushed}
use Rattle.spec_binding.specs.declared.changes.Change.{Change}
use Rattle.spec_binding.specs.declared.changes.Change.TheVariants as change_of
use Rattle.spec_binding.specs.declared.changes.PortRequest.{PortRequest}
use Rattle.spec_binding.specs.declared.changes.Transition.{Transition}
use Rattle.spec_binding.specs.declared.changes.Want.TheVariants as want
use Rattle.spec_binding.specs.Books.{Book, is_lone, is_paired, is_synced}
use Rattle.spec_binding.specs.Rows.{ahead_row, answered, behind, changed, is_at_limit, is_cause, is_full, is_short_after, known_wish, new_pair, new_wish, wanting_row, paired_wish, port_for, quiet, row, wish, wish_by, wish_of}
use Rattle.spec_step.specs.Parts.{by_row, by_row_and_behind, wanted_by}
use Rattle.spec_step.specs.Shown.{GatewayAndOutput, is_apart, scene}

-- ---- nothing is pushed where the link is full

known-mute : (p : Pair) (s : EntryState) → (known_wish p s).row.answer ≡ None
known-mute p (state.Pending true) = refl
known-mute p (state.Pending false) = refl
known-mute p state.Doomed = refl
known-mute p state.Live = refl
known-mute p (state.Closing true) = refl
known-mute p (state.Closing false) = refl
known-mute p state.Alone = refl
known-mute p state.Held = refl

none-mute : (b : Book) → (wanting_row b true).answer ≡ None
none-mute b = at (is_paired b.stage) b.wants
  where
    at : (paired wants : Bool) → (let r : Transition = cond (paired && (not wants && false)) (row change_of.Want (Some record_of.Want) None) quiet in r).answer ≡ None
    at false wants = refl
    at true true = refl
    at true false = refl

paired-mute : (apart : Bool) (p : Pair) → (paired_wish apart true p).row.answer ≡ None
paired-mute true p = refl
paired-mute false p = refl

new-mute : (b : Book) (apart : Bool) (e : Endpoint) (o : Option Port) → (new_wish b apart true e o).row.answer ≡ None
new-mute b apart e None = none-mute b
new-mute b apart e (Some port) = at (is_lone b.stage)
  where
    at : (lone : Bool) → (let w : PortRequest = cond lone (wish (want.Port port) (row (change_of.Add (entry_in state.Live (new_pair e port))) None (Some (Retaken (new_pair e port))))) (paired_wish apart true (new_pair e port)) in w.row).answer ≡ None
    at true = refl
    at false = paired-mute apart (new_pair e port)

by-mute : (b : Book) (apart : Bool) (e : Endpoint) (o : Option Entry) → (wish_by b apart true e o).row.answer ≡ None
by-mute b apart e (Some x) = known-mute x.pair x.state
by-mute b apart e None = at (is_at_limit b e.address)
  where
    at : (limited : Bool) → (let w : PortRequest = cond limited (wish want.HostLimit quiet) (new_wish b apart true e (port_for b e)) in w.row).answer ≡ None
    at true = refl
    at false = new-mute b apart e (port_for b e)

wish-mute : (b : Book) (apart : Bool) (e : Endpoint) → (wish_of b apart true e).row.answer ≡ None
wish-mute b apart e = at (is_synced b.stage)
  where
    at : (synced : Bool) → (let w : PortRequest = cond synced (wish_by b apart true e (entry_of b.entries e)) (wish want.NotNow quiet) in w.row).answer ≡ None
    at true = by-mute b apart e (entry_of b.entries e)
    at false = refl

-- ---- elsewhere a push takes one of 65 places or more

free-pushed : (e : Link) (r : Record) → free_places e ≤ free_places (with_pushed e r) + 1
free-pushed e r = let longer = length-append e.waiting (r ∷ []) in omega (arith, longer)

answered-leaves : (e : Link) (a : Option Record) → is_full e ≡ false → min 64 (free_places e) ≤ free_places (answered e a)
answered-leaves e None room = omega arith
answered-leaves e (Some r) room =
    let places = ltb-false (free_places e) 65 room in
    let one = free-pushed e r in
    omega (arith, places, one)

mute-leaves : (e : Link) (a : Option Record) → a ≡ None → min 64 (free_places e) ≤ free_places (answered e a)
mute-leaves e None mute = omega arith
mute-leaves e (Some r) mute = cc

-- what is asked for behind a change leaves 64 places of the link free, where so many were
pub ahead-leaves : (b : Book) (l : Link) (ch : Change) → min 64 (free_places l) ≤ free_places (answered l (ahead_row b (is_full l) ch).answer)
ahead-leaves b l ch = at (is_full l) refl
  where
    mute : (t : Bool) → (let r : Transition = cond t (wanting_row (changed ch b) true) quiet in r).answer ≡ None
    mute true = none-mute (changed ch b)
    mute false = refl

    at : (full : Bool) → is_full l ≡ full → min 64 (free_places l) ≤ free_places (answered l (ahead_row b full ch).answer)
    at true is = mute-leaves l (ahead_row b true ch).answer (mute (is_cause b ch && is_short_after (changed ch b) ch))
    at false is = answered-leaves l (ahead_row b false ch).answer is

wish-leaves-first : (b : Book) (apart : Bool) (l : Link) (e : Endpoint) → min 64 (free_places l) ≤ free_places (answered l (wish_of b apart (is_full l) e).row.answer)
wish-leaves-first b apart l e = at (is_full l) refl
  where
    at : (full : Bool) → is_full l ≡ full → min 64 (free_places l) ≤ free_places (answered l (wish_of b apart full e).row.answer)
    at true is = mute-leaves l (wish_of b apart true e).row.answer (wish-mute b apart e)
    at false is = answered-leaves l (wish_of b apart false e).row.answer is

pub wish-leaves : (b : Book) (apart : Bool) (l : Link) (e : Endpoint) → let r = (wish_of b apart (is_full l) e).row in
    min 64 (free_places l) ≤ free_places (answered (answered l r.answer) (behind b l r).answer)
wish-leaves b apart l e =
    let r : Transition = (wish_of b apart (is_full l) e).row in
    let first = wish-leaves-first b apart l e in
    let second = ahead-leaves b (answered l r.answer) r.change in
    omega (arith, first, second)

-- ---- a wish that changes nothing

quiet-done : (s : GatewayAndOutput) → by_row s quiet ≡ s
quiet-done s = ap (λ (notes : List Note). scene s.shown (record s.told { notes = notes })) (append-nil s.told.notes)

pub still : (s : GatewayAndOutput) (e : Endpoint) → (wish_of s.shown.ledger.book (is_apart s.shown) (is_full s.shown.link) e).row ≡ quiet → wanted_by s e ≡ s
still s e is = ap (by_row_and_behind s) is ∙ quiet-done s
