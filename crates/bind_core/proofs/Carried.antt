-- A pair that carries is the one that its endpoint has, and a wish for it changes nothing. What is noted of a packet.
use Rattle.std.proofs.Common.{◌≡◌, ℕ, Bool, true, false, is_some, Option, Some, None, refl, ap, ◌∙◌}
use Rattle.std.proofs.lemmas.Bool.{and_parts}
use Rattle.nat_types.specs.declared.gateways.GatewayId.{GatewayId}
use Rattle.nat_types.specs.declared.notes.NoteKind.{NoteKind}
use Rattle.nat_types.specs.declared.pairs.EntryState.{EntryState}
use Rattle.nat_types.specs.declared.pairs.EntryState.TheVariants.{Pending, Doomed, Live, Closing, Alone, Held}
use Rattle.nat_types.specs.declared.pairs.Key.{Key}
use Rattle.nat_types.specs.declared.pairs.Pair.{Pair}
use Rattle.nat_types.specs.Same.{same_pair}
use Rattle.nat_types.proofs.Offered.{pair-eq}
use Rattle.activity.specs.declared.packets.Packet.{Packet}
use Rattle.bindings.specs.declared.entries.Entry.{Entry}
use Rattle.bindings.specs.Entries.{is_pair, translates, slot_of, entry_of}
use Rattle.bindings.specs.Lives.{use_counts_at}
use Rattle.bindings.proofs.Offered.{none-ranked, pair-rank}
use Rattle.spec_binding.proofs.Offered.{unranked}
use Rattle.spec_binding.specs.declared.changes.Want.TheVariants.{Port}
use Rattle.spec_binding.specs.declared.changes.Transition.{Transition}
use Rattle.spec_binding.specs.Books.{Book, is_synced}
use Rattle.spec_binding.specs.Rows.{carry_row, known_wish, noted_with, quiet, wish, wish_by, wish_of}
use Rattle.spec_binding.specs.Uses.{carried_notes, use_counts}
use Rattle.bind_core.specs.Cores.{Core, book_of, ledger_of, is_carried, carries_pair}

is-pair : (s : EntryState) → translates s ≡ true → is_pair s ≡ true
is-pair (Pending true) h = refl
is-pair (Pending false) h = cc
is-pair Doomed h = cc
is-pair Live h = refl
is-pair (Closing true) h = refl
is-pair (Closing false) h = cc
is-pair Alone h = refl
is-pair Held h = refl

known-port : (p : Pair) (s : EntryState) → translates s ≡ true → known_wish p s ≡ wish (Port p.key.port) quiet
known-port p (Pending true) h = refl
known-port p (Pending false) h = cc
known-port p Doomed h = cc
known-port p Live h = refl
known-port p (Closing true) h = refl
known-port p (Closing false) h = cc
known-port p Alone h = refl
known-port p Held h = refl

known-quiet : (p : Pair) (s : EntryState) → (known_wish p s).row ≡ quiet
known-quiet p (Pending true) = refl
known-quiet p (Pending false) = refl
known-quiet p Doomed = refl
known-quiet p Live = refl
known-quiet p (Closing true) = refl
known-quiet p (Closing false) = refl
known-quiet p Alone = refl
known-quiet p Held = refl

-- the wish of a pair that carries, where it is its endpoint's pair
by-entry : (b : Book) (apart full : Bool) (p : Pair) (o : Option Entry) → entry_of b.entries p.endpoint ≡ o → is_carried o p ≡ true → wish_by b apart full p.endpoint (entry_of b.entries p.endpoint) ≡ wish (Port p.key.port) quiet
by-entry b apart full p None found is = cc
by-entry b apart full p (Some x) found is =
    let parts = and_parts (translates x.state) (same_pair x.pair p) is in
    ap (wish_by b apart full p.endpoint) found ∙ known-port x.pair x.state parts.0 ∙ ap (λ q. wish (Port q.key.port) quiet) (pair-eq x.pair p parts.1)

pub wish-port : (b : Book) (apart full : Bool) (p : Pair) → entry_of b.entries p.endpoint ≡ slot_of b.entries p.key → carries_pair b p ≡ true → is_synced b.stage ≡ true → wish_of b apart full p.endpoint ≡ wish (Port p.key.port) quiet
wish-port b apart full p own is synced = rw (synced) (by-entry b apart full p (slot_of b.entries p.key) own is)

-- the endpoint of a pair that carries has a pair, so a wish of it changes nothing
by-quiet : (b : Book) (apart full : Bool) (p : Pair) (o : Option Entry) → slot_of b.entries p.key ≡ o → is_carried o p ≡ true → (wish_by b apart full p.endpoint (entry_of b.entries p.endpoint)).row ≡ quiet
by-quiet b apart full p None found is = cc
by-quiet b apart full p (Some x) found is = at (entry_of b.entries p.endpoint) refl
  where
    at : (o : Option Entry) → entry_of b.entries p.endpoint ≡ o → (wish_by b apart full p.endpoint o).row ≡ quiet
    at (Some y) there = known-quiet y.pair y.state
    at None none =
        let parts = and_parts (translates x.state) (same_pair x.pair p) is in
        let rank = pair-rank x.state (is-pair x.state parts.0) in
        let one : x.pair.endpoint ≡ p.endpoint = ap (λ (q : Pair). q.endpoint) (pair-eq x.pair p parts.1) in
        absurd (unranked b.entries rank.0 p.endpoint p.key x (none-ranked b.entries p.endpoint none rank.0) found rank.1 one)

pub wish-quiet : (b : Book) (apart full : Bool) (p : Pair) → carries_pair b p ≡ true → (wish_of b apart full p.endpoint).row ≡ quiet
wish-quiet b apart full p is = at (is_synced b.stage) refl
  where
    at : (t : Bool) → is_synced b.stage ≡ t → (wish_of b apart full p.endpoint).row ≡ quiet
    at true synced = rw (synced) (by-quiet b apart full p (slot_of b.entries p.key) refl is)
    at false loads = rw (loads) refl

-- ---- the note of a packet

-- where there is no note, its mark says nothing
noted-as : (a b : Bool) (i : GatewayId) (now : ℕ) (what : Option NoteKind) → (is_some what ≡ true → a ≡ b) → noted_with a i now what ≡ noted_with b i now what
noted-as a b i now None same = refl
noted-as a b i now (Some what) same = ap (λ (c : Bool). noted_with c i now (Some what)) (same refl)

-- a row with the mark that the table gave notes what is to be noted of the packet
pub noted-is : (k : Core) (key : Key) (p : Packet) (r : Transition) (counts used : Bool) → r ≡ carry_row (book_of k) key → used ≡ is_some r.what → (used ≡ true → counts ≡ use_counts_at k.table.entries k.table.lives key p)
    → noted_with counts k.id p.at r.what ≡ carried_notes (ledger_of k) key p
noted-is k key p r counts used row is mark =
    ap (λ (x : Transition). noted_with counts k.id p.at x.what) row
    ∙ noted-as counts (use_counts (ledger_of k) key p) k.id p.at (carry_row (book_of k) key).what (λ some. mark (is ∙ ap (λ (x : Transition). is_some x.what) row ∙ some))
