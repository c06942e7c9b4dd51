-- The notes of a record, an idle pair, a greater boot and the operator's word: none is a use of a
-- pair.
use Rattle.std.proofs.Common.{◌≡◌, ℕ, Bool, true, false, cond, Option, Some, None, List, [], ◌∷◌, refl}
use Rattle.nat_types.specs.declared.gateways.GatewayId.{GatewayId}
use Rattle.nat_types.specs.declared.notes.NoteKind.{NoteKind}
use Rattle.nat_types.specs.declared.notes.NoteKind.TheVariants.{Retaken}
use Rattle.nat_types.specs.declared.notes.Note.{Note}
use Rattle.nat_types.specs.declared.pairs.EntryState.{EntryState}
use Rattle.nat_types.specs.declared.pairs.EntryState.TheVariants as state
use Rattle.nat_types.specs.declared.pairs.Key.{Key}
use Rattle.nat_types.specs.declared.pairs.Pair.{Pair}
use Rattle.nat_types.specs.declared.records.Granted.{Granted}
use Rattle.nat_types.specs.declared.records.Record.{Record}
use Rattle.nat_types.specs.declared.records.Record.TheVariants as rec
use Rattle.bindings.specs.declared.entries.Entry.{Entry}
use Rattle.bindings.specs.Entries.{entry_of, slot_of}
use Rattle.spec_binding.specs.declared.changes.Change.TheVariants as change_of
use Rattle.spec_binding.specs.declared.changes.Transition.{Transition}
use Rattle.spec_binding.specs.Books.{Book, is_lone, is_paired, is_promised, is_synced, load_of}
use Rattle.spec_binding.specs.Resets.{restart_notes, retaken, back_in}
use Rattle.spec_binding.specs.Rows.{accept_row, accepted_row, answering, ask_row, asked_row, ending, gives_way, grant_row, alone_row, idle_row, install_row, is_takeable, left_row, load_what, no_row, marked_row, noted_by, proposed_row, quiet, refuse_row, refused_row, release_row, released_row, row, row_of, sought_row, stayed_row, synced_row, taken_what, taking, telling_row, told_row, unsynced_what, yes_row}
use Rattle.resync.specs.Loading.{Load, loaded}
use Rattle.spec_step.specs.Truly.{used_pairs}
use Rattle.spec_step.proofs.Takings.{IsUseless, either-row}

-- ---- the rows of records

proposed-useless : (b : Book) (p : Pair) (o : Option Entry) → IsUseless (proposed_row b p o)
proposed-useless b p None = λ i now. refl
proposed-useless b p (Some x) = either-row (gives_way b.id x.state) (ending p.endpoint (row (change_of.Yield x.pair.key p) (Some (rec.Accept p.key)) (Some (Retaken p)))) (answering (rec.Refuse p.key)) (λ i now. refl) (λ i now. refl)

install-useless : (b : Book) (p : Pair) → IsUseless (install_row b p)
install-useless b p =
    either-row (is_takeable b p) (proposed_row b p (entry_of b.entries p.endpoint)) (answering (rec.Refuse p.key))
    (proposed-useless b p (entry_of b.entries p.endpoint)) (λ i now. refl)

told-useless : (b : Book) (p : Pair) → IsUseless (told_row b p)
told-useless b p = either-row (is_takeable b p) (taking p) (answering (rec.Refuse p.key)) (λ i now. refl) (λ i now. refl)

accepted-useless : (p : Pair) (s : EntryState) → IsUseless (accepted_row p s)
accepted-useless p (state.Pending true) = λ i now. refl
accepted-useless p (state.Pending false) = λ i now. refl
accepted-useless p state.Doomed = λ i now. refl
accepted-useless p state.Live = λ i now. refl
accepted-useless p (state.Closing m) = λ i now. refl
accepted-useless p state.Alone = λ i now. refl
accepted-useless p state.Held = λ i now. refl

accept-useless : (o : Option Entry) → IsUseless (accept_row o)
accept-useless None = λ i now. refl
accept-useless (Some x) = accepted-useless x.pair x.state

refused-useless : (p : Pair) (s : EntryState) → IsUseless (refused_row p s)
refused-useless p (state.Pending true) = λ i now. refl
refused-useless p (state.Pending false) = λ i now. refl
refused-useless p state.Doomed = λ i now. refl
refused-useless p state.Live = λ i now. refl
refused-useless p (state.Closing m) = λ i now. refl
refused-useless p state.Alone = λ i now. refl
refused-useless p state.Held = λ i now. refl

refuse-useless : (o : Option Entry) → IsUseless (refuse_row o)
refuse-useless None = λ i now. refl
refuse-useless (Some x) = refused-useless x.pair x.state

asked-useless : (p : Pair) (rests : Bool) (s : EntryState) → IsUseless (asked_row p rests s)
asked-useless p rests (state.Pending m) = λ i now. refl
asked-useless p rests state.Doomed = λ i now. refl
asked-useless p rests state.Live = λ i now. refl
asked-useless p rests (state.Closing m) = λ i now. refl
asked-useless p rests state.Alone = λ i now. refl
asked-useless p true state.Held = λ i now. refl
asked-useless p false state.Held = λ i now. refl

ask-useless : (k : Key) (rests : Bool) (o : Option Entry) → IsUseless (ask_row k rests o)
ask-useless k rests None = λ i now. refl
ask-useless k rests (Some x) = asked-useless x.pair rests x.state

left-useless : (p : Pair) (s : EntryState) → IsUseless (left_row p s)
left-useless p (state.Pending m) = λ i now. refl
left-useless p state.Doomed = λ i now. refl
left-useless p state.Live = λ i now. refl
left-useless p (state.Closing true) = λ i now. refl
left-useless p (state.Closing false) = λ i now. refl
left-useless p state.Alone = λ i now. refl
left-useless p state.Held = λ i now. refl

yes-useless : (o : Option Entry) → IsUseless (yes_row o)
yes-useless None = λ i now. refl
yes-useless (Some x) = left-useless x.pair x.state

stayed-useless : (p : Pair) (s : EntryState) → IsUseless (stayed_row p s)
stayed-useless p (state.Pending m) = λ i now. refl
stayed-useless p state.Doomed = λ i now. refl
stayed-useless p state.Live = λ i now. refl
stayed-useless p (state.Closing m) = λ i now. refl
stayed-useless p state.Alone = λ i now. refl
stayed-useless p state.Held = λ i now. refl

no-useless : (o : Option Entry) → IsUseless (no_row o)
no-useless None = λ i now. refl
no-useless (Some x) = stayed-useless x.pair x.state

grant-useless : (b : Book) (g : Granted) → IsUseless (grant_row b g)
grant-useless b g = either-row b.wants (row (change_of.Gain g) None None) quiet (λ i now. refl) (λ i now. refl)

synced-useless : (b : Book) (rests : Bool) (r : Record) → IsUseless (synced_row b rests r)
synced-useless b rests (rec.Install p) = install-useless b p
synced-useless b rests (rec.Accept k) = accept-useless (slot_of b.entries k)
synced-useless b rests (rec.Refuse k) = refuse-useless (slot_of b.entries k)
synced-useless b rests (rec.Ask k) = ask-useless k rests (slot_of b.entries k)
synced-useless b rests (rec.Yes k) = yes-useless (slot_of b.entries k)
synced-useless b rests (rec.No k) = no-useless (slot_of b.entries k)
synced-useless b rests rec.Begin = λ i now. refl
synced-useless b rests (rec.Put p) = λ i now. refl
synced-useless b rests rec.Done = λ i now. refl
synced-useless b rests rec.Want = λ i now. refl
synced-useless b rests (rec.Grant g) = grant-useless b g
synced-useless b rests (rec.Owner first last) = λ i now. refl
synced-useless b rests (rec.Tell p) = told-useless b p

-- ---- a record at any gateway

load-useless : (r : Record) (o : Option Load) (i : GatewayId) (now : ℕ) → used_pairs (noted_by i now (load_what r o)) ≡ []
load-useless (rec.Install p) None i now = refl
load-useless (rec.Accept k) None i now = refl
load-useless (rec.Refuse k) None i now = refl
load-useless (rec.Ask k) None i now = refl
load-useless (rec.Yes k) None i now = refl
load-useless (rec.No k) None i now = refl
load-useless rec.Begin None i now = refl
load-useless (rec.Put p) None i now = refl
load-useless rec.Done None i now = refl
load-useless rec.Want None i now = refl
load-useless (rec.Grant g) None i now = refl
load-useless (rec.Owner first last) None i now = refl
load-useless (rec.Tell p) None i now = refl
load-useless (rec.Install p) (Some l) i now = refl
load-useless (rec.Accept k) (Some l) i now = refl
load-useless (rec.Refuse k) (Some l) i now = refl
load-useless (rec.Ask k) (Some l) i now = refl
load-useless (rec.Yes k) (Some l) i now = refl
load-useless (rec.No k) (Some l) i now = refl
load-useless rec.Begin (Some l) i now = refl
load-useless (rec.Put p) (Some l) i now = refl
load-useless rec.Done (Some l) i now = refl
load-useless rec.Want (Some l) i now = refl
load-useless (rec.Grant g) (Some l) i now = refl
load-useless (rec.Owner first last) (Some l) i now = refl
load-useless (rec.Tell p) (Some l) i now = refl

pub taken-useless : (b : Book) (rests : Bool) (r : Record) (i : GatewayId) (now : ℕ) → used_pairs (noted_by i now (taken_what b rests r)) ≡ []
taken-useless b rests r i now = at (is_synced b.stage)
  where
    by : (t : Bool) → IsUseless (let x : Transition = cond t quiet (synced_row b rests r) in x)
    by true = λ j m. refl
    by false = synced-useless b rests r

    at : (t : Bool) → used_pairs (noted_by i now (let o : Option NoteKind = cond t (row_of b rests r).what (unsynced_what b r) in o)) ≡ []
    at true = by (is_promised b) i now
    at false = load-useless r (loaded (load_of b) r) i now

-- ---- an idle pair

released-useless : (lone ask : Bool) (p : Pair) (s : EntryState) → IsUseless (released_row lone ask p s)
released-useless lone ask p (state.Pending m) = λ i now. refl
released-useless lone ask p state.Doomed = λ i now. refl
released-useless true ask p state.Live = λ i now. refl
released-useless false true p state.Live = λ i now. refl
released-useless false false p state.Live = λ i now. refl
released-useless lone ask p (state.Closing m) = λ i now. refl
released-useless lone ask p state.Alone = λ i now. refl
released-useless true ask p state.Held = λ i now. refl
released-useless false ask p state.Held = λ i now. refl

release-useless : (lone ask : Bool) (o : Option Entry) → IsUseless (release_row lone ask o)
release-useless lone ask None = λ i now. refl
release-useless lone ask (Some x) = released-useless lone ask x.pair x.state

pub idle-useless : (b : Book) (ask : Bool) (k : Key) → IsUseless (idle_row b ask k)
idle-useless b ask k = either-row (is_synced b.stage) (release_row (is_lone b.stage) ask (slot_of b.entries k)) quiet (release-useless (is_lone b.stage) ask (slot_of b.entries k)) (λ i now. refl)

-- ---- going on alone, at a tick

marked-useless : (p : Pair) (s : EntryState) → IsUseless (marked_row p s)
marked-useless p (state.Pending true) = λ i now. refl
marked-useless p (state.Pending false) = λ i now. refl
marked-useless p state.Doomed = λ i now. refl
marked-useless p state.Live = λ i now. refl
marked-useless p (state.Closing true) = λ i now. refl
marked-useless p (state.Closing false) = λ i now. refl
marked-useless p state.Alone = λ i now. refl
marked-useless p state.Held = λ i now. refl

telling-useless : (full : Bool) (p : Pair) (s : EntryState) → IsUseless (telling_row full p s)
telling-useless full p (state.Pending m) = λ i now. refl
telling-useless full p state.Doomed = λ i now. refl
telling-useless full p state.Live = λ i now. refl
telling-useless full p (state.Closing m) = λ i now. refl
telling-useless true p state.Alone = λ i now. refl
telling-useless false p state.Alone = λ i now. refl
telling-useless full p state.Held = λ i now. refl

sought-useless : (apart full : Bool) (o : Option Entry) → IsUseless (sought_row apart full o)
sought-useless apart full None = λ i now. refl
sought-useless true full (Some x) = marked-useless x.pair x.state
sought-useless false full (Some x) = telling-useless full x.pair x.state

pub alone-useless : (b : Book) (apart full : Bool) (k : Key) → IsUseless (alone_row b apart full k)
alone-useless b apart full k = either-row (is_paired b.stage) (sought_row apart full (slot_of b.entries k)) quiet (sought-useless apart full (slot_of b.entries k)) (λ i now. refl)

-- ---- a greater boot, and the operator's word

pub retaken-useless : (i : GatewayId) (now : ℕ) (ps : List Pair) → used_pairs (retaken i now ps) ≡ []
retaken-useless i now [] = refl
retaken-useless i now (p ∷ ps) = retaken-useless i now ps

pub restart-useless : (b : Book) (now : ℕ) → used_pairs (restart_notes b now) ≡ []
restart-useless b now = at (is_synced b.stage)
  where
    at : (t : Bool) → used_pairs (let ns : List Note = cond t (retaken b.id now (back_in b.entries)) [] in ns) ≡ []
    at true = retaken-useless b.id now (back_in b.entries)
    at false = refl
