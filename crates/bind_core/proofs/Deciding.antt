-- The conditions of the rows of wishes and of idle pairs on a core.
use Rattle.std.proofs.Common.{◌≡◌, ℕ, ◌<◌, Bool, true, false, cond, not, ◌&&◌, is_some, Option, Some, None, refl, sym, ap, subst, ◌∙◌, arith}
use Rattle.std.proofs.lemmas.Bool.{and_parts, ltb-false}
use Rattle.addresses.specs.declared.transport.Port.{Port}
use Rattle.nat_types.specs.declared.pairs.Endpoint.{Endpoint}
use Rattle.nat_types.specs.declared.pairs.EntryState.{EntryState}
use Rattle.nat_types.specs.declared.pairs.EntryState.TheVariants as state
use Rattle.nat_types.specs.declared.pairs.Key.{Key}
use Rattle.nat_types.specs.declared.pairs.Pair.{Pair}
use Rattle.nat_types.specs.declared.notes.NoteKind.TheVariants as happens
use Rattle.nat_types.specs.declared.records.Record.{Record}
use Rattle.nat_types.specs.declared.records.Record.TheVariants as rec
use Rattle.bindings.specs.declared.entries.Entry.{Entry}
use Rattle.bindings.specs.Entries.{slot_of, entry_of, entry_in}
use Rattle.bindings.proofs.Offered.{slot-key}
use Rattle.link.specs.Link.{Link, free_places, needs_answer}
use Rattle.resync.specs.Batch.{is_settled}
use Rattle.spec_binding.specs.declared.setups.Stage.{Stage}
use Rattle.spec_binding.specs.declared.setups.Stage.TheVariants.{Paired}
use Rattle.spec_binding.specs.declared.changes.Change.TheVariants as change
use Rattle.spec_binding.specs.declared.changes.Transition.{Transition}
use Rattle.spec_binding.specs.declared.changes.PortRequest.{PortRequest}
use Rattle.spec_binding.specs.declared.changes.Want.TheVariants as want
use Rattle.spec_binding.specs.Books.{Book, IsBook, is_apart, is_synced, is_lone, is_paired, is_promised}
use Rattle.spec_binding.specs.Rows.{alone_row, marked_row, paired_wish, sought_row, telling_row, row, quiet, wish, wish_of, wish_by, known_wish, new_wish, new_pair, wanting_row, may_want, port_for, is_at_limit, idle_row, release_row, released_row, row_of, synced_row, taken_answer, is_full}
use Rattle.bind_core.specs.Changes.{IsSteady, adds}
use Rattle.spec_binding.specs.Ledgers.{may_ask, is_heard, is_reached}
use Rattle.bind_core.proofs.Performing.{taken-answer}

known-steady : (b : Book) (p : Pair) (s : EntryState) → IsSteady b (known_wish p s).row.change
known-steady b p (state.Pending true) = tt
known-steady b p (state.Pending false) = tt
known-steady b p state.Doomed = tt
known-steady b p state.Live = tt
known-steady b p (state.Closing true) = tt
known-steady b p (state.Closing false) = tt
known-steady b p state.Alone = tt
known-steady b p state.Held = tt

none-steady : (b : Book) (full : Bool) → IsSteady b (wanting_row b full).change
none-steady b full = at (may_want b full)
  where
    at : (t : Bool) → IsSteady b (let r : Transition = cond t (row change.Want (Some rec.Want) None) quiet in r).change
    at true = tt
    at false = tt

paired-steady : (b : Book) (apart full : Bool) (p : Pair) → IsSteady b (paired_wish apart full p).row.change
paired-steady b true full p = refl
paired-steady b false true p = tt
paired-steady b false false p = refl

new-steady : (b : Book) (apart full : Bool) (e : Endpoint) (o : Option Port) → is_lone b.stage ≡ false → IsSteady b (new_wish b apart full e o).row.change
new-steady b apart full e None h = none-steady b full
new-steady b apart full e (Some port) h = at (is_lone b.stage) h
  where
    at : (lone : Bool) → lone ≡ false → IsSteady b (let w : PortRequest = cond lone (wish (want.Port port) (row (change.Add (entry_in state.Live (new_pair e port))) None (Some (happens.Retaken (new_pair e port))))) (paired_wish apart full (new_pair e port)) in w).row.change
    at true h = cc
    at false h = paired-steady b apart full (new_pair e port)

lone-paired : (s : Stage) → s ≡ Paired → is_lone s ≡ false
lone-paired s is = ap is_lone is

pub wish-steady : (b : Book) (apart full : Bool) (e : Endpoint) → IsBook b → is_promised b ≡ true → IsSteady b (wish_of b apart full e).row.change
wish-steady b apart full e is promised = at (is_synced b.stage) (entry_of b.entries e)
  where
    unknown : (t : Bool) → IsSteady b (let w : PortRequest = cond t (wish want.HostLimit quiet) (new_wish b apart full e (port_for b e)) in w).row.change
    unknown true = tt
    unknown false = new-steady b apart full e (port_for b e) (lone-paired b.stage (is.promised promised))

    at : (t : Bool) (o : Option Entry) → IsSteady b (let w : PortRequest = cond t (wish_by b apart full e o) (wish want.NotNow quiet) in w).row.change
    at true (Some x) = known-steady b x.pair x.state
    at true None = unknown (is_at_limit b e.address)
    at false o = tt

-- ---- nothing is pushed where the link is full

known-mute : (p : Pair) (s : EntryState) → (known_wish p s).row.answer ≡ None
known-mute p (state.Pending true) = refl
known-mute p (state.Pending false) = refl
known-mute p state.Doomed = refl
known-mute p state.Live = refl
known-mute p (state.Closing true) = refl
known-mute p (state.Closing false) = refl
known-mute p state.Alone = refl
known-mute p state.Held = refl

none-mute : (b : Book) → (wanting_row b true).answer ≡ None
none-mute b = at (is_paired b.stage) b.wants
  where
    at : (paired wants : Bool) → (let r : Transition = cond (paired && (not wants && false)) (row change.Want (Some rec.Want) None) quiet in r).answer ≡ None
    at false wants = refl
    at true true = refl
    at true false = refl

paired-mute : (apart : Bool) (p : Pair) → (paired_wish apart true p).row.answer ≡ None
paired-mute true p = refl
paired-mute false p = refl

new-mute : (b : Book) (apart : Bool) (e : Endpoint) (o : Option Port) → (new_wish b apart true e o).row.answer ≡ None
new-mute b apart e None = none-mute b
new-mute b apart e (Some port) = at (is_lone b.stage)
  where
    at : (lone : Bool) → (let w : PortRequest = cond lone (wish (want.Port port) (row (change.Add (entry_in state.Live (new_pair e port))) None (Some (happens.Retaken (new_pair e port))))) (paired_wish apart true (new_pair e port)) in w.row).answer ≡ None
    at true = refl
    at false = paired-mute apart (new_pair e port)

by-mute : (b : Book) (apart : Bool) (e : Endpoint) (o : Option Entry) → (wish_by b apart true e o).row.answer ≡ None
by-mute b apart e (Some x) = known-mute x.pair x.state
by-mute b apart e None = at (is_at_limit b e.address)
  where
    at : (limited : Bool) → (let w : PortRequest = cond limited (wish want.HostLimit quiet) (new_wish b apart true e (port_for b e)) in w.row).answer ≡ None
    at true = refl
    at false = new-mute b apart e (port_for b e)

pub wish-mute : (b : Book) (apart : Bool) (e : Endpoint) → (wish_of b apart true e).row.answer ≡ None
wish-mute b apart e = at (is_synced b.stage)
  where
    at : (synced : Bool) → (let w : PortRequest = cond synced (wish_by b apart true e (entry_of b.entries e)) (wish want.NotNow quiet) in w.row).answer ≡ None
    at true = by-mute b apart e (entry_of b.entries e)
    at false = refl

-- a wish that is answered has a place on the link
pub wish-places : (b : Book) (l : Link) (apart : Bool) (e : Endpoint) → is_some (wish_of b apart (is_full l) e).row.answer ≡ true → 0 < free_places l
wish-places b l apart e = at (is_full l) refl
  where
    at : (full : Bool) → is_full l ≡ full → is_some (wish_of b apart full e).row.answer ≡ true → 0 < free_places l
    at true is answers = let silent : is_some (wish_of b apart true e).row.answer ≡ false = ap is_some (wish-mute b apart e) in cc
    at false is answers = let room = ltb-false (free_places l) 65 is in omega (arith, room)

-- ---- idle pairs

-- at a gateway that isn't lone, the row of an idle pair is steady
released-steady : (b : Book) (ask : Bool) (x : Entry) (s : EntryState) → x.state ≡ s → slot_of b.entries x.pair.key ≡ Some x → IsSteady b (released_row false ask x.pair s).change
released-steady b ask x (state.Pending m) at found = tt
released-steady b ask x state.Doomed at found = tt
released-steady b true x state.Live at found = λ y there. let one : Some x ≡ Some y = sym found ∙ there in let same : x ≡ y = cc in ap (λ (z : Entry). is_settled z.state) (sym same) ∙ ap is_settled at
released-steady b false x state.Live at found = tt
released-steady b ask x (state.Closing m) at found = tt
released-steady b ask x state.Alone at found = λ y there. let one : Some x ≡ Some y = sym found ∙ there in let same : x ≡ y = cc in ap (λ (z : Entry). is_settled z.state) (sym same) ∙ ap is_settled at
released-steady b ask x state.Held at found = tt

pub idle-steady : (b : Book) (ask : Bool) (k : Key) → IsBook b → is_promised b ≡ true → IsSteady b (idle_row b ask k).change
idle-steady b ask k is promised = at (is_synced b.stage) (is_lone b.stage) (lone-paired b.stage (is.promised promised)) (slot_of b.entries k) refl
  where
    at : (t lone : Bool) → lone ≡ false → (o : Option Entry) → slot_of b.entries k ≡ o → IsSteady b (let r : Transition = cond t (release_row lone ask o) quiet in r).change
    at false lone h o there = tt
    at true lone h None there = tt
    at true true h (Some x) there = cc
    at true false h (Some x) there = released-steady b ask x x.state refl (ap (slot_of b.entries) (slot-key b.entries k x there) ∙ there)

released-adds : (lone ask : Bool) (p : Pair) (s : EntryState) → adds (released_row lone ask p s).change ≡ false
released-adds lone ask p (state.Pending m) = refl
released-adds lone ask p state.Doomed = refl
released-adds true ask p state.Live = refl
released-adds false true p state.Live = refl
released-adds false false p state.Live = refl
released-adds lone ask p (state.Closing m) = refl
released-adds lone ask p state.Alone = refl
released-adds true ask p state.Held = refl
released-adds false ask p state.Held = refl

pub idle-adds : (b : Book) (ask : Bool) (k : Key) → adds (idle_row b ask k).change ≡ false
idle-adds b ask k = at (is_synced b.stage) (slot_of b.entries k)
  where
    at : (t : Bool) (o : Option Entry) → adds (let r : Transition = cond t (release_row (is_lone b.stage) ask o) quiet in r).change ≡ false
    at false o = refl
    at true None = refl
    at true (Some x) = released-adds (is_lone b.stage) ask x.pair x.state

-- the row of an idle key needs no place in the table
pub idle-ready : (b : Book) (ask : Bool) (k : Key) (ready : ℕ) → adds (idle_row b ask k).change ≡ true → 0 < ready
idle-ready b ask k ready h = let no = idle-adds b ask k in cc

released-asks : (lone ask : Bool) (p : Pair) (s : EntryState) → is_some (released_row lone ask p s).answer ≡ true → ask ≡ true
released-asks lone ask p (state.Pending m) h = cc
released-asks lone ask p state.Doomed h = cc
released-asks true ask p state.Live h = cc
released-asks false true p state.Live h = refl
released-asks false false p state.Live h = cc
released-asks lone ask p (state.Closing m) h = cc
released-asks lone ask p state.Alone h = cc
released-asks true ask p state.Held h = cc
released-asks false ask p state.Held h = cc

idle-asks : (b : Book) (ask : Bool) (k : Key) → is_some (idle_row b ask k).answer ≡ true → ask ≡ true
idle-asks b ask k = at (is_synced b.stage) (slot_of b.entries k)
  where
    at : (t : Bool) (o : Option Entry) → is_some (let r : Transition = cond t (release_row (is_lone b.stage) ask o) quiet in r).answer ≡ true → ask ≡ true
    at false o h = cc
    at true None h = cc
    at true (Some x) h = released-asks (is_lone b.stage) ask x.pair x.state h

not-true : (t : Bool) → not t ≡ true → t ≡ false
not-true true h = cc
not-true false h = refl

pub idle-places : (b : Book) (now : ℕ) (e : Link) (k : Key) → is_some (idle_row b (may_ask now b e) k).answer ≡ true → 0 < free_places e
idle-places b now e k h =
    let asks = idle-asks b (may_ask now b e) k h in
    let reaches = (and_parts (not (is_apart b e now)) (is_reached now e) asks).1 in
    let parts = and_parts (is_heard e.heard now) (not (is_full e)) reaches in
    let room = ltb-false (free_places e) 65 (not-true (is_full e) parts.1) in
    omega (arith, room)

-- ---- going on alone

marked-steady : (b : Book) (x : Entry) (s : EntryState) → x.state ≡ s → slot_of b.entries x.pair.key ≡ Some x → IsSteady b (marked_row x.pair s).change
marked-steady b x (state.Pending true) at found = tt
marked-steady b x (state.Pending false) at found = λ y there. let one : Some x ≡ Some y = sym found ∙ there in let same : x ≡ y = cc in ap (λ (z : Entry). is_settled z.state) (sym same) ∙ ap is_settled at
marked-steady b x state.Doomed at found = tt
marked-steady b x state.Live at found = tt
marked-steady b x (state.Closing true) at found = tt
marked-steady b x (state.Closing false) at found = λ y there. let one : Some x ≡ Some y = sym found ∙ there in let same : x ≡ y = cc in ap (λ (z : Entry). is_settled z.state) (sym same) ∙ ap is_settled at
marked-steady b x state.Alone at found = tt
marked-steady b x state.Held at found = tt

telling-steady : (b : Book) (full : Bool) (x : Entry) (s : EntryState) → x.state ≡ s → slot_of b.entries x.pair.key ≡ Some x → IsSteady b (telling_row full x.pair s).change
telling-steady b full x (state.Pending m) at found = tt
telling-steady b full x state.Doomed at found = tt
telling-steady b full x state.Live at found = tt
telling-steady b full x (state.Closing m) at found = tt
telling-steady b true x state.Alone at found = tt
telling-steady b false x state.Alone at found = λ y there. let one : Some x ≡ Some y = sym found ∙ there in let same : x ≡ y = cc in ap (λ (z : Entry). is_settled z.state) (sym same) ∙ ap is_settled at
telling-steady b full x state.Held at found = tt

pub alone-steady : (b : Book) (apart full : Bool) (k : Key) → IsSteady b (alone_row b apart full k).change
alone-steady b apart full k = at (is_paired b.stage) apart (slot_of b.entries k) refl
  where
    at : (t apart : Bool) (o : Option Entry) → slot_of b.entries k ≡ o → IsSteady b (let r : Transition = cond t (sought_row apart full o) quiet in r).change
    at false apart o there = tt
    at true apart None there = tt
    at true true (Some x) there = marked-steady b x x.state refl (ap (slot_of b.entries) (slot-key b.entries k x there) ∙ there)
    at true false (Some x) there = telling-steady b full x x.state refl (ap (slot_of b.entries) (slot-key b.entries k x there) ∙ there)

-- What is said of the row of a mark or a Tell: it adds no entry; one that is full or apart answers nothing, and only one that is apart notes.
record IsModest (apart full : Bool) (r : Transition) : Type 0 where
  bare : adds r.change ≡ false
  mute : full ≡ true → is_some r.answer ≡ false
  still : apart ≡ false → r.what ≡ None

quiet-modest : (apart full : Bool) → IsModest apart full quiet
quiet-modest apart full = record { bare = refl; mute = λ h. refl; still = λ h. refl }

marked-modest : (full : Bool) (p : Pair) (s : EntryState) → IsModest true full (marked_row p s)
marked-modest full p (state.Pending true) = quiet-modest true full
marked-modest full p (state.Pending false) = record { bare = refl; mute = λ h. refl; still = λ h. cc }
marked-modest full p state.Doomed = quiet-modest true full
marked-modest full p state.Live = quiet-modest true full
marked-modest full p (state.Closing true) = quiet-modest true full
marked-modest full p (state.Closing false) = record { bare = refl; mute = λ h. refl; still = λ h. cc }
marked-modest full p state.Alone = quiet-modest true full
marked-modest full p state.Held = quiet-modest true full

telling-modest : (full : Bool) (p : Pair) (s : EntryState) → IsModest false full (telling_row full p s)
telling-modest full p (state.Pending m) = quiet-modest false full
telling-modest full p state.Doomed = quiet-modest false full
telling-modest full p state.Live = quiet-modest false full
telling-modest full p (state.Closing m) = quiet-modest false full
telling-modest true p state.Alone = quiet-modest false true
telling-modest false p state.Alone = record { bare = refl; mute = λ h. cc; still = λ h. refl }
telling-modest full p state.Held = quiet-modest false full

alone-modest : (b : Book) (apart full : Bool) (k : Key) → IsModest apart full (alone_row b apart full k)
alone-modest b apart full k = at (is_paired b.stage) apart (slot_of b.entries k)
  where
    at : (t apart : Bool) (o : Option Entry) → IsModest apart full (let r : Transition = cond t (sought_row apart full o) quiet in r)
    at false apart o = quiet-modest apart full
    at true apart None = quiet-modest apart full
    at true true (Some x) = marked-modest full x.pair x.state
    at true false (Some x) = telling-modest full x.pair x.state

pub alone-adds : (b : Book) (apart full : Bool) (k : Key) → adds (alone_row b apart full k).change ≡ false
alone-adds b apart full k = (alone-modest b apart full k).bare

pub alone-still : (b : Book) (full : Bool) (k : Key) → (alone_row b false full k).what ≡ None
alone-still b full k = (alone-modest b false full k).still refl

pub alone-places : (b : Book) (e : Link) (apart : Bool) (k : Key) → is_some (alone_row b apart (is_full e) k).answer ≡ true → 0 < free_places e
alone-places b e apart k h = at (is_full e) refl ((alone-modest b apart (is_full e) k).mute)
  where
    at : (full : Bool) → is_full e ≡ full → (is_full e ≡ true → is_some (alone_row b apart (is_full e) k).answer ≡ false) → 0 < free_places e
    at true is mute = let silent = mute is in cc
    at false is mute = let room = ltb-false (free_places e) 65 is in omega (arith, room)

-- ---- a record at a synced gateway

-- while a batch is promised, the row of a record is steady
pub row-steady : (b : Book) (rests : Bool) (r : Record) → is_promised b ≡ true → IsSteady b (row_of b rests r).change
row-steady b rests r promised = subst (λ (t : Bool). IsSteady b (let x : Transition = cond t quiet (synced_row b rests r) in x).change) (sym promised) tt

-- a record's answer has a place, where there is one for each record that needs an answer
pub row-places : (b : Book) (rests : Bool) (r : Record) (places : ℕ) → (needs_answer r ≡ false → taken_answer b rests r ≡ None) → is_synced b.stage ≡ true → (needs_answer r ≡ true → 0 < places)
    → is_some (row_of b rests r).answer ≡ true → 0 < places
row-places b rests r places mute synced room answers = at (needs_answer r) refl
  where
    at : (t : Bool) → needs_answer r ≡ t → 0 < places
    at true needs = room needs
    at false none = let silent : is_some (row_of b rests r).answer ≡ false = ap is_some (sym (taken-answer b rests r synced) ∙ mute none) in cc
