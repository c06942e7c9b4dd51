-- A tick lets go the pairs that have rested and may be let go: at a lone gateway, and where the peer may be asked for
-- all of them.
use Rattle.std.proofs.Common.{◌≡◌, ◌≤◌, ◌+◌, ◌-◌, ◌==◌, nat_le, append_assoc, ℕ, suc, Bool, true, false, cond, ◌&&◌, ◌||◌, not, List, [], ◌∷◌, ◌++◌, length, Option, Some, None, inl, inr, refl, sym, ap, subst, ◌∙◌, arith}
use Rattle.std.specs.List.{Contains}
use Rattle.std.proofs.lemmas.Bool.{cases_Bool, cond-true, cond-false, le-ltb}
use Rattle.std.proofs.lemmas.List.{append-nil, length-append}
use Rattle.std.proofs.lemmas.List.Elements.{Contains-append_left, Contains-append_right}
use Rattle.nat_types.specs.declared.gateways.GatewayId.{GatewayId}
use Rattle.nat_types.specs.declared.notes.Note.{Note}
use Rattle.nat_types.specs.declared.notes.NoteKind.{NoteKind}
use Rattle.nat_types.specs.declared.notes.NoteKind.TheVariants.{Released}
use Rattle.nat_types.specs.declared.pairs.EntryState.{EntryState}
use Rattle.nat_types.specs.declared.pairs.EntryState.TheVariants.{Pending, Doomed, Live, Closing, Alone, Held}
use Rattle.nat_types.specs.declared.pairs.Key.{Key}
use Rattle.nat_types.specs.declared.pairs.Pair.{Pair}
use Rattle.nat_types.specs.declared.records.Record.{Record}
use Rattle.nat_types.specs.Same.{same_key}
use Rattle.nat_types.proofs.Offered.{key-eq, key-self}
use Rattle.activity.specs.Lives.{Activity, looks_idle}
use Rattle.bindings.specs.declared.entries.Entry.{Entry}
use Rattle.bindings.specs.Entries.{entry_in, has_key, is_alone, slot_of}
use Rattle.bindings.specs.Lists.{with_state, without}
use Rattle.bindings.specs.Lives.{idle_keys_in, is_among, is_idle_row, life_in, may_go, rests_at, rests_by}
use Rattle.bindings.proofs.Offered.{restated, slot-key, slot-with_state, slot-without}
use Rattle.link.specs.Link.{Link, free_places, is_due_on_tick, sent_on_tick}
use Rattle.output.specs.Output.{with_datagram}
use Rattle.spec_binding.specs.declared.changes.Transition.{Transition}
use Rattle.spec_binding.specs.declared.setups.Stage.{Stage}
use Rattle.spec_binding.specs.declared.setups.Stage.TheVariants.{Unsynced, Paired, Lone}
use Rattle.spec_binding.specs.Books.{Book, IsBook, is_apart, is_lone, is_paired, is_synced}
use Rattle.spec_binding.specs.Ledgers.{Ledger, is_heard, is_reached, ledger_after, release_all, may_ask, sought_keys}
use Rattle.spec_binding.specs.Rows.{alone_row, answered, asking, changed, dropping, idle_row, is_full, noted_by, quiet, release_row, released_row, sought_row, telling_row}
use Rattle.spec_binding.proofs.Offered.{change-leaves}
use Rattle.spec_pair.specs.Talk.{note}
use Rattle.spec_step.specs.declared.events.Event.TheVariants.{Tick}
use Rattle.spec_step.specs.LettingGo.{CanAskForAll, HasRested, IsLetGo, NotesRelease, left_of}
use Rattle.spec_step.specs.Machine.{KeepsBytes}
use Rattle.spec_step.specs.Parts.{all_sought_done, alone_taken, datagram_in, gone_alone, handed_in, idle_taken, link_ticked, old_dropped, peer_told, sought_done}
use Rattle.spec_step.specs.Shown.{GatewayAndOutput, Shown, id_of, is_apart as is_shown_apart, scene}
use Rattle.spec_step.specs.Steps.{IsStepOn, ticked}
use Rattle.spec_step.proofs.Accounting.{alone-rests, idle-rests-from}
use Rattle.spec_step.proofs.Before.{apart-then, young-leaves}
use Rattle.spec_step.proofs.Giving.{tick-ticks}
use Rattle.spec_step.proofs.Idle.{idle-at-once}
use Rattle.spec_step.proofs.Packets.{Reads}
use Rattle.spec_step.proofs.WhileApart.{answered-as, apart-book, tell-silent}

-- ---- the row of one key, at the others

drop-leaves : (es : List Entry) (key k : Key) → same_key key k ≡ false → slot_of (without key es) k ≡ slot_of es k
drop-leaves es key k other = slot-without key es k ∙ cond-false (same_key key k) None (slot_of es k) other

turn-leaves : (es : List Entry) (y : Entry) (s : EntryState) (key k : Key) → slot_of es key ≡ Some y → same_key key k ≡ false → slot_of (with_state key s es) k ≡ slot_of es k
turn-leaves es y s key k held other = slot-with_state key s es y k held ∙ cond-false (same_key key k) (Some (restated s y)) (slot_of es k) other

released-leaves : (b : Book) (lone ask : Bool) (y : Entry) (state : EntryState) (k : Key) → slot_of b.entries y.pair.key ≡ Some y → same_key y.pair.key k ≡ false
    → slot_of (changed (released_row lone ask y.pair state).change b).entries k ≡ slot_of b.entries k
released-leaves b lone ask y (Pending m) k held other = refl
released-leaves b lone ask y Doomed k held other = refl
released-leaves b true ask y Live k held other = drop-leaves b.entries y.pair.key k other
released-leaves b false true y Live k held other = turn-leaves b.entries y (Closing false) y.pair.key k held other
released-leaves b false false y Live k held other = refl
released-leaves b lone ask y (Closing m) k held other = refl
released-leaves b lone ask y Alone k held other = drop-leaves b.entries y.pair.key k other
released-leaves b true ask y Held k held other = drop-leaves b.entries y.pair.key k other
released-leaves b false ask y Held k held other = refl

row-leaves : (b : Book) (ask : Bool) (q k : Key) → same_key q k ≡ false → slot_of (changed (idle_row b ask q).change b).entries k ≡ slot_of b.entries k
row-leaves b ask q k other = at (is_synced b.stage) (slot_of b.entries q) refl
  where
    at : (t : Bool) (o : Option Entry) → slot_of b.entries q ≡ o → slot_of (changed (let r : Transition = cond t (release_row (is_lone b.stage) ask o) quiet in r).change b).entries k ≡ slot_of b.entries k
    at true None is = refl
    at true (Some y) is =
        let same : y.pair.key ≡ q = slot-key b.entries q y is in
        released-leaves b (is_lone b.stage) ask y y.state k (ap (slot_of b.entries) same ∙ is) (ap (λ (z : Key). same_key z k) same ∙ other)
    at false o is = refl

-- an entry that no row lets go stays as it is
row-quiet : (b : Book) (ask : Bool) (k : Key) (o : Option Entry) → slot_of b.entries k ≡ o → ((lone ask : Bool) → release_row lone ask o ≡ quiet) → idle_row b ask k ≡ quiet
row-quiet b ask k o held stays = at (is_synced b.stage)
  where
    at : (t : Bool) → (let r : Transition = cond t (release_row (is_lone b.stage) ask (slot_of b.entries k)) quiet in r) ≡ quiet
    at true = ap (λ (x : Option Entry). release_row (is_lone b.stage) ask x) held ∙ stays (is_lone b.stage) ask
    at false = refl

row-stays : (b : Book) (ask : Bool) (q k : Key) (o : Option Entry) → slot_of b.entries k ≡ o → ((lone ask : Bool) → release_row lone ask o ≡ quiet) → slot_of (changed (idle_row b ask q).change b).entries k ≡ o
row-stays b ask q k o held stays = elim (cases_Bool (same_key q k)) [
  | inl same ↦
      (ap (λ (z : Key). slot_of (changed (idle_row b ask z).change b).entries k) (key-eq q k same)
      ∙ ap (λ (r : Transition). slot_of (changed r.change b).entries k) (row-quiet b ask k o held stays) ∙ held)
  | inr other ↦ row-leaves b ask q k other ∙ held
]

all-stay : (now : ℕ) (ks : List Key) (l : Ledger) (e : Link) (k : Key) (o : Option Entry) → slot_of l.book.entries k ≡ o → ((lone ask : Bool) → release_row lone ask o ≡ quiet)
    → slot_of (release_all now ks l e).ledger.book.entries k ≡ o
all-stay now [] l e k o held stays = held
all-stay now (q ∷ ks) l e k o held stays =
    let r = idle_row l.book (may_ask now l.book e) q in
    all-stay now ks (ledger_after now r.change l) (answered e r.answer) k o (row-stays l.book (may_ask now l.book e) q k o held stays) stays

-- whether an entry that is let go is dropped, and not asked for
abbrev drops : Bool → Entry → Bool
drops lone x = lone || is_alone x.state

left-stays : (lone : Bool) (x : Entry) (l ask : Bool) → release_row l ask (left_of lone x) ≡ quiet
left-stays lone x l ask = at (drops lone x)
  where
    at : (t : Bool) → release_row l ask (let o : Option Entry = cond t None (Some (entry_in (Closing false) x.pair)) in o) ≡ quiet
    at true = refl
    at false = refl

-- ---- the row of an entry that may be let go

-- the row of an entry that may be let go: it is dropped, or asked for
abbrev going : Bool → Pair → Transition
going dropped p = cond dropped (dropping p) (asking p)

own-row : (lone ask : Bool) (p : Pair) (state : EntryState) → may_go lone state ≡ true → ((lone || is_alone state) ≡ false → ask ≡ true) → released_row lone ask p state ≡ going (lone || is_alone state) p
own-row lone ask p (Pending m) may asks = absurd (cc)
own-row lone ask p Doomed may asks = absurd (cc)
own-row true ask p Live may asks = refl
own-row false ask p Live may asks = ap (λ (b : Bool). let r : Transition = cond b (asking p) quiet in r) (asks refl)
own-row lone ask p (Closing m) may asks = absurd (cc)
own-row true ask p Alone may asks = refl
own-row false ask p Alone may asks = refl
own-row true ask p Held may asks = refl
own-row false ask p Held may asks = absurd (cc)

going-leaves : (b : Book) (dropped : Bool) (x : Entry) → slot_of b.entries x.pair.key ≡ Some x
    → slot_of (changed (going dropped x.pair).change b).entries x.pair.key ≡ (let o : Option Entry = cond dropped None (Some (entry_in (Closing false) x.pair)) in o)
going-leaves b true x held =
    let k = x.pair.key in
    slot-without k b.entries k ∙ cond-true (same_key k k) None (slot_of b.entries k) (key-self k)
going-leaves b false x held =
    let k = x.pair.key in
    slot-with_state k (Closing false) b.entries x k held ∙ cond-true (same_key k k) (Some (restated (Closing false) x)) (slot_of b.entries k) (key-self k)

going-notes : (dropped : Bool) (p : Pair) → (going dropped p).what ≡ Some (Released p)
going-notes true p = refl
going-notes false p = refl

-- ---- places for Asks

room-left : (n : ℕ) (e : Link) (o : Option Record) → 64 + suc n ≤ free_places e → 64 + n ≤ free_places (answered e o)
room-left n e None room = omega (arith, room)
room-left n e (Some r) room = omega (arith, room, length-append e.waiting (r ∷ []))

heard-left : (e : Link) (o : Option Record) → (answered e o).heard ≡ e.heard
heard-left e None = refl
heard-left e (Some r) = refl

asks-now : (now : ℕ) (b : Book) (e : Link) (n : ℕ) → is_apart b e now ≡ false → is_heard e.heard now ≡ true → 64 + suc n ≤ free_places e → may_ask now b e ≡ true
asks-now now b e n together heard room =
    let enough : 65 ≤ free_places e = omega (arith, room) in
    ap (λ (t : Bool). not t && is_reached now e) together ∙ ap (λ (t : Bool). t && not (is_full e)) heard ∙ ap not (le-ltb (free_places e) 65 enough)

-- ---- one after another

-- what holds of an entry before the rows of `n` keys, if it is to be let go
record Goes (now : ℕ) (lone : Bool) (id : GatewayId) (n : ℕ) (l : Ledger) (e : Link) (x : Entry) : Type 0 where
  synced : is_synced l.book.stage ≡ true
  alone : is_lone l.book.stage ≡ lone
  who : l.book.id ≡ id
  held : slot_of l.book.entries x.pair.key ≡ Some x
  together : drops lone x ≡ false → is_apart l.book e now ≡ false
  heard : drops lone x ≡ false → is_heard e.heard now ≡ true
  places : drops lone x ≡ false → 64 + n ≤ free_places e

-- the entry is let go by the rows of these keys
record Gone (now : ℕ) (lone : Bool) (id : GatewayId) (ks : List Key) (l : Ledger) (e : Link) (x : Entry) : Type 0 where
  left : slot_of (release_all now ks l e).ledger.book.entries x.pair.key ≡ left_of lone x
  noted : Contains (release_all now ks l e).notes (note id now (Released x.pair))

own-is : (now : ℕ) (lone : Bool) (id : GatewayId) (n : ℕ) (l : Ledger) (e : Link) (x : Entry) → Goes now lone id (suc n) l e x → may_go lone x.state ≡ true → idle_row l.book (may_ask now l.book e) x.pair.key ≡ going (drops lone x) x.pair
own-is now lone id n l e x is may =
    let ask = may_ask now l.book e in let b = l.book in
    ap (λ (t : Bool). let r : Transition = cond t (release_row (is_lone b.stage) ask (slot_of b.entries x.pair.key)) quiet in r) is.synced
    ∙ ap (λ (t : Bool). release_row t ask (slot_of b.entries x.pair.key)) is.alone
    ∙ ap (λ (o : Option Entry). release_row lone ask o) is.held
    ∙ own-row lone ask x.pair x.state may (λ asked. asks-now now b e n (is.together asked) (is.heard asked) (is.places asked))

first-goes : (now : ℕ) (lone : Bool) (id : GatewayId) (k : Key) (ks : List Key) (l : Ledger) (e : Link) (x : Entry) → Goes now lone id (suc (length ks)) l e x → may_go lone x.state ≡ true → k ≡ x.pair.key
    → Gone now lone id (k ∷ ks) l e x
first-goes now lone id k ks l e x is may here =
    let r = idle_row l.book (may_ask now l.book e) k in
    let rest = release_all now ks (ledger_after now r.change l) (answered e r.answer) in
    let going-is : r ≡ going (drops lone x) x.pair = ap (λ (z : Key). idle_row l.book (may_ask now l.book e) z) here ∙ own-is now lone id (length ks) l e x is may in
    let gone : slot_of (changed r.change l.book).entries x.pair.key ≡ left_of lone x = ap (λ (z : Transition). slot_of (changed z.change l.book).entries x.pair.key) going-is ∙ going-leaves l.book (drops lone x) x is.held in
    let what : noted_by l.book.id now r.what ≡ note id now (Released x.pair) ∷ [] =
    ap (λ (z : Transition). noted_by l.book.id now z.what) going-is
    ∙ ap (λ (z : Option NoteKind). noted_by l.book.id now z) (going-notes (drops lone x) x.pair)
    ∙ ap (λ (z : GatewayId). note z now (Released x.pair) ∷ []) is.who in
    record {
      left = all-stay now ks (ledger_after now r.change l) (answered e r.answer) x.pair.key (left_of lone x) gone (left-stays lone x);
      noted = Contains-append_left (noted_by l.book.id now r.what) rest.notes (note id now (Released x.pair))
          (subst (λ (ns : List Note). Contains ns (note id now (Released x.pair))) (sym what) (0, omega arith, refl));
    }

rest-goes : (now : ℕ) (lone : Bool) (id : GatewayId) (k : Key) (n : ℕ) (l : Ledger) (e : Link) (x : Entry) → Goes now lone id (suc n) l e x → same_key k x.pair.key ≡ false
    → (let r = idle_row l.book (may_ask now l.book e) k in Goes now lone id n (ledger_after now r.change l) (answered e r.answer) x)
rest-goes now lone id k n l e x is other =
    let r = idle_row l.book (may_ask now l.book e) k in
    let beside = change-leaves l.book r.change in
    record {
      synced = ap is_synced beside.stage ∙ is.synced;
      alone = ap is_lone beside.stage ∙ is.alone;
      who = beside.id ∙ is.who;
      held = row-leaves l.book (may_ask now l.book e) k x.pair.key other ∙ is.held;
      together = λ asked. apart-book l.book (changed r.change l.book) e (answered e r.answer) now beside.stage beside.alone (answered-as e r.answer) ∙ is.together asked;
      heard = λ asked. ap (λ (o : Option ℕ). is_heard o now) (heard-left e r.answer) ∙ is.heard asked;
      places = λ asked. room-left n e r.answer (is.places asked);
    }

all-go : (now : ℕ) (lone : Bool) (id : GatewayId) (ks : List Key) (l : Ledger) (e : Link) (x : Entry) → Goes now lone id (length ks) l e x → may_go lone x.state ≡ true → is_among x.pair.key ks ≡ true
    → Gone now lone id ks l e x
all-go now lone id [] l e x is may among = absurd (cc)
all-go now lone id (k ∷ ks) l e x is may among =
    let r = idle_row l.book (may_ask now l.book e) k in
    at (same_key k x.pair.key) refl among (λ other there. all-go now lone id ks (ledger_after now r.change l) (answered e r.answer) x (rest-goes now lone id k (length ks) l e x is other) may there)
  where
    at : (b : Bool) → same_key k x.pair.key ≡ b → (b || is_among x.pair.key ks) ≡ true
        → (same_key k x.pair.key ≡ false → is_among x.pair.key ks ≡ true → (let r = idle_row l.book (may_ask now l.book e) k in Gone now lone id ks (ledger_after now r.change l) (answered e r.answer) x))
        → Gone now lone id (k ∷ ks) l e x
    at true here there rest = first-goes now lone id k ks l e x is may (key-eq k x.pair.key here)
    at false other there rest =
        let r = idle_row l.book (may_ask now l.book e) k in
        let gone = rest other there in
        record { left = gone.left; noted = Contains-append_right (noted_by l.book.id now r.what) (release_all now ks (ledger_after now r.change l) (answered e r.answer)).notes (note id now (Released x.pair)) gone.noted }

-- ---- what has rested is among the keys of the tick

listed : (lone : Bool) (now : ℕ) (es : List Entry) (ls : List Activity) (k : Key) (x : Entry) → slot_of es k ≡ Some x → x.pair.key ≡ k → may_go lone x.state ≡ true → rests_at es ls k now ≡ true
    → is_among k (idle_keys_in lone now es ls) ≡ true
listed lone now [] ls k x held key may rests = absurd (cc)
listed lone now (y ∷ ys) [] k x held key may rests = absurd (cc)
listed lone now (y ∷ ys) (m ∷ ms) k x held key may rests = at (has_key k y) refl held rests (λ is idle. listed lone now ys ms k x is key may idle)
  where
    or-true : (b : Bool) → (b || true) ≡ true
    or-true true = refl
    or-true false = refl

    later : (b : Bool) → is_among k (idle_keys_in lone now ys ms) ≡ true → is_among k (let zs : List Key = cond b (y.pair.key ∷ idle_keys_in lone now ys ms) (idle_keys_in lone now ys ms) in zs) ≡ true
    later true there = ap (λ (b : Bool). same_key y.pair.key k || b) there ∙ or-true (same_key y.pair.key k)
    later false there = there

    here : (b : Bool) → b ≡ true → same_key y.pair.key k ≡ true → is_among k (let zs : List Key = cond b (y.pair.key ∷ idle_keys_in lone now ys ms) (idle_keys_in lone now ys ms) in zs) ≡ true
    here true idle own = ap (λ (b : Bool). b || is_among k (idle_keys_in lone now ys ms)) own
    here false idle own = absurd (cc)

    at : (b : Bool) → has_key k y ≡ b → (let o : Option Entry = cond b (Some y) (slot_of ys k) in o) ≡ Some x → rests_by k now (let o : Option Activity = cond b (Some m) (life_in ys ms k) in o) ≡ true
        → (slot_of ys k ≡ Some x → rests_at ys ms k now ≡ true → is_among k (idle_keys_in lone now ys ms) ≡ true)
        → is_among k (let zs : List Key = cond (is_idle_row lone now y m) (y.pair.key ∷ idle_keys_in lone now ys ms) (idle_keys_in lone now ys ms) in zs) ≡ true
    at true own is idle rest =
        let same : y ≡ x = cc in
        let goes : is_idle_row lone now y m ≡ true =
        ap (λ (z : Entry). is_idle_row lone now z m) same
        ∙ ap (λ (b : Bool). b && looks_idle x.pair.key.protocol m now) may
        ∙ ap (λ (z : Key). looks_idle z.protocol m now) key ∙ idle in
        here (is_idle_row lone now y m) goes own
    at false other is idle rest = later (is_idle_row lone now y m) (rest is idle)

-- ---- the end of a tick

ticked-entries : (s : GatewayAndOutput) → ((link_ticked s).shown.ledger.book.entries ≡ s.shown.ledger.book.entries) × ((link_ticked s).told.notes ≡ s.told.notes)
ticked-entries s = at (is_due_on_tick (handed_in s.shown).link s.shown.moment)
  where
    at : (b : Bool) → (let g = handed_in s.shown in let x : GatewayAndOutput = cond b (scene (record g { link = sent_on_tick g.link g.moment }) (with_datagram s.told (datagram_in g))) (scene g s.told) in (x.shown.ledger.book.entries ≡ s.shown.ledger.book.entries) × (x.told.notes ≡ s.told.notes))
    at true = (refl, refl)
    at false = (refl, refl)

-- ---- telling the peer

-- the entry isn't one that was made alone, if there is one
abbrev IsNotAlone : Option Entry → Type 0
IsNotAlone None = Unit {0}
IsNotAlone (Some y) = is_alone y.state ≡ false

-- telling of an entry leaves all others
telling-leaves : (b : Book) (full : Bool) (y : Entry) (state : EntryState) (k : Key) → slot_of b.entries y.pair.key ≡ Some y → same_key y.pair.key k ≡ false
    → slot_of (changed (telling_row full y.pair state).change b).entries k ≡ slot_of b.entries k
telling-leaves b full y (Pending m) k held other = refl
telling-leaves b full y Doomed k held other = refl
telling-leaves b full y Live k held other = refl
telling-leaves b full y (Closing m) k held other = refl
telling-leaves b true y Alone k held other = refl
telling-leaves b false y Alone k held other = turn-leaves b.entries y (Pending true) y.pair.key k held other
telling-leaves b full y Held k held other = refl

-- an entry that wasn't made alone isn't told of
telling-quiet : (full : Bool) (y : Entry) (state : EntryState) → is_alone state ≡ false → telling_row full y.pair state ≡ quiet
telling-quiet full y (Pending m) other = refl
telling-quiet full y Doomed other = refl
telling-quiet full y Live other = refl
telling-quiet full y (Closing m) other = refl
telling-quiet full y Alone other = absurd (cc)
telling-quiet full y Held other = refl

tell-stays : (b : Book) (full : Bool) (q k : Key) (o : Option Entry) → slot_of b.entries k ≡ o → IsNotAlone o → slot_of (changed (alone_row b false full q).change b).entries k ≡ o
tell-stays b full q k o held not_alone = at (is_paired b.stage) (slot_of b.entries q) refl
  where
    same : (o : Option Entry) → IsNotAlone o → (y : Entry) → o ≡ Some y → is_alone y.state ≡ false
    same None spared y is = absurd (cc)
    same (Some z) spared y is = let one : z ≡ y = cc in subst (λ (w : Entry). is_alone w.state ≡ false) one spared

    at : (t : Bool) (p : Option Entry) → slot_of b.entries q ≡ p → slot_of (changed (let r : Transition = cond t (sought_row false full p) quiet in r).change b).entries k ≡ o
    at false p is = held
    at true None is = held
    at true (Some y) is =
        let here : y.pair.key ≡ q = slot-key b.entries q y is in
        elim (cases_Bool (same_key q k)) [
          | inl one ↦
              (let spared = same o not_alone y (sym held ∙ ap (slot_of b.entries) (sym (key-eq q k one)) ∙ is) in
              ap (λ (r : Transition). slot_of (changed r.change b).entries k) (telling-quiet full y y.state spared) ∙ held)
          | inr other ↦ telling-leaves b full y y.state k (ap (slot_of b.entries) here ∙ is) (ap (λ (z : Key). same_key z k) here ∙ other) ∙ held
        ]

-- telling the peer leaves an entry that wasn't made alone, and notes nothing
told-leaves : (s : GatewayAndOutput) (ks : List Key) (k : Key) (o : Option Entry) → slot_of s.shown.ledger.book.entries k ≡ o → IsNotAlone o
    → (slot_of (all_sought_done false s ks).shown.ledger.book.entries k ≡ o) × ((all_sought_done false s ks).told.notes ≡ s.told.notes)
told-leaves s [] k o held spared = (held, refl)
told-leaves s (q ∷ ks) k o held spared =
    let b = s.shown.ledger.book in
    let full = is_full s.shown.link in
    let rest = told-leaves (sought_done false s q) ks k o (tell-stays b full q k o held spared) spared in
    let silent = ap (λ (w : Option NoteKind). s.told.notes ++ noted_by (id_of s.shown) s.shown.moment w) (tell-silent b full q) ∙ append-nil s.told.notes in
    (rest.0, rest.1 ∙ silent)

-- ---- the idle pairs of a tick

idle-go : (y : GatewayAndOutput) (x : Entry) (lone : Bool) → (let l = y.shown.ledger in is_synced l.book.stage ≡ true → is_lone l.book.stage ≡ lone
    → (drops lone x ≡ false → CanAskForAll l y.shown.link y.shown.moment) → HasRested l y.shown.moment x
    → Gone y.shown.moment lone (id_of y.shown) (idle_keys_in (is_lone l.book.stage) y.shown.moment l.book.entries l.lives) l y.shown.link x)
idle-go y x lone synced alone asks rested =
    let l = y.shown.ledger in let now = y.shown.moment in
    let keys = idle_keys_in (is_lone l.book.stage) now l.book.entries l.lives in
    let among = listed (is_lone l.book.stage) now l.book.entries l.lives x.pair.key x rested.held refl rested.may rested.rests in
    let may : may_go lone x.state ≡ true = ap (λ (b : Bool). may_go b x.state) (sym alone) ∙ rested.may in
    all-go now lone (id_of y.shown) keys l y.shown.link x
    (record {
      synced = synced;
      alone = alone;
      who = refl;
      held = rested.held;
      together = λ asked. (asks asked).together;
      heard = λ asked. (asks asked).heard;
      places = λ asked. (asks asked).places;
    })
    may among

-- what the idle pairs of a tick make of an entry that has rested
record IdleGone (s : GatewayAndOutput) (x : Entry) (lone : Bool) (idle s2 : GatewayAndOutput) : Type 0 where
  left : slot_of idle.shown.ledger.book.entries x.pair.key ≡ left_of lone x
  notes : List Note
  notes_are : idle.told.notes ≡ s.told.notes ++ notes
  noted : Contains notes (note (id_of s.shown) s2.shown.moment (Released x.pair))

tick-goes : (s : GatewayAndOutput) (now : ℕ) (s2 : GatewayAndOutput) (x : Entry) (lone : Bool) → (step : IsStepOn s (Tick now) s2)
    → is_synced s.shown.ledger.book.stage ≡ true → is_lone s.shown.ledger.book.stage ≡ lone
    → (drops lone x ≡ false → CanAskForAll s.shown.ledger s.shown.link s2.shown.moment) → HasRested s.shown.ledger s2.shown.moment x
    → IdleGone s x lone (idle_taken (old_dropped step.does.1)) s2
tick-goes s now s2 x lone step synced alone asks rested =
    let does = step.does in
    let young = old_dropped does.1 in
    let was = young-leaves s now does.0 does.1 does.2 does.3 in
    let ledger : young.shown.ledger ≡ s.shown.ledger = was.ledger in
    let link : young.shown.link ≡ s.shown.link = was.link in
    let moment : young.shown.moment ≡ s2.shown.moment = was.moment ∙ sym (tick-ticks s now s2 step).moment in
    let l = young.shown.ledger in
    let keys = idle_keys_in (is_lone l.book.stage) young.shown.moment l.book.entries l.lives in
    let let-go = release_all young.shown.moment keys l young.shown.link in
    let once = idle-at-once young keys in
    let gone = idle-go young x lone
    (ap (λ (z : Ledger). is_synced z.book.stage) ledger ∙ synced)
    (ap (λ (z : Ledger). is_lone z.book.stage) ledger ∙ alone)
    (λ asked. subst (λ (n : ℕ). CanAskForAll l young.shown.link n) (sym moment)
    (subst (λ (z : Ledger). CanAskForAll z young.shown.link s2.shown.moment) (sym ledger)
    (subst (λ (e : Link). CanAskForAll s.shown.ledger e s2.shown.moment) (sym link) (asks asked))))
    (subst (λ (n : ℕ). HasRested l n x) (sym moment) (subst (λ (z : Ledger). HasRested z s2.shown.moment x) (sym ledger) rested)) in
    record {
      left = ap (λ (z : GatewayAndOutput). slot_of z.shown.ledger.book.entries x.pair.key) once ∙ gone.left;
      notes = let-go.notes;
      notes_are = ap (λ (z : GatewayAndOutput). z.told.notes) once ∙ ap (λ (ns : List Note). ns ++ let-go.notes) was.notes;
      noted = subst (λ (n : ℕ). Contains let-go.notes (note (id_of s.shown) n (Released x.pair))) moment
          (subst (λ (z : Ledger). Contains let-go.notes (note z.book.id young.shown.moment (Released x.pair))) ledger gone.noted);
    }

-- what is left of an entry that is let go wasn't made alone
left-not-alone : (lone : Bool) (x : Entry) → IsNotAlone (left_of lone x)
left-not-alone lone x = at (drops lone x)
  where
    at : (t : Bool) → IsNotAlone (let o : Option Entry = cond t None (Some (entry_in (Closing false) x.pair)) in o)
    at true = tt
    at false = refl

-- the entry is let go at a tick at which the gateway isn't apart
let-go-together : (s : GatewayAndOutput) (now : ℕ) (s2 : GatewayAndOutput) (x : Entry) (lone : Bool) → (step : IsStepOn s (Tick now) s2) → is_lone s.shown.ledger.book.stage ≡ lone
    → is_shown_apart (ticked s now).shown ≡ false → IdleGone s x lone (idle_taken (old_dropped step.does.1)) s2 → IsLetGo s x s2
let-go-together s now s2 x lone step alone together gone =
    let does = step.does in
    let idle = idle_taken (old_dropped does.1) in
    let keys = sought_keys false idle.shown.ledger.book.entries in
    let told = told-leaves idle keys x.pair.key (left_of lone x) gone.left (left-not-alone lone x) in
    let here : alone_taken idle ≡ peer_told idle = ap (λ (t : Bool). let z : GatewayAndOutput = cond t (gone_alone idle) (peer_told idle) in z) (apart-then s now does.0 does.1 does.2 does.3 ∙ together) in
    let ended : s2 ≡ link_ticked (peer_told idle) = step.sends ∙ ap (λ (z : GatewayAndOutput). link_ticked z) (does.4 ∙ here) in
    let last = ticked-entries (peer_told idle) in
    record {
      left = ap (λ (z : GatewayAndOutput). slot_of z.shown.ledger.book.entries x.pair.key) ended ∙ ap (λ (es : List Entry). slot_of es x.pair.key) last.0 ∙ told.0 ∙ ap (λ (b : Bool). left_of b x) (sym alone);
      noted = record {
        notes = gone.notes;
        are = ap (λ (z : GatewayAndOutput). z.told.notes) ended ∙ last.1 ∙ told.1 ∙ gone.notes_are;
        released = gone.noted;
      };
    }

-- ---- the law

lone-synced : (stage : Stage) → is_lone stage ≡ true → is_synced stage ≡ true
lone-synced Unsynced lone = absurd (cc)
lone-synced Paired lone = absurd (cc)
lone-synced Lone lone = refl

lone-unpaired : (stage : Stage) → is_lone stage ≡ true → is_paired stage ≡ false
lone-unpaired Unsynced lone = absurd (cc)
lone-unpaired Paired lone = absurd (cc)
lone-unpaired Lone lone = refl

-- a lone gateway isn't apart
lone-together : (g : Shown) → is_lone g.ledger.book.stage ≡ true → is_shown_apart g ≡ false
lone-together g lone =
    ap (λ (t : Bool). t && (not (g.ledger.book.alone == 0) && nat_le g.ledger.book.alone (g.moment - g.link.answered))) (lone-unpaired g.ledger.book.stage lone)

pub lone-goes : (s : GatewayAndOutput) (now : ℕ) (s2 : GatewayAndOutput) (x : Entry) → IsStepOn s (Tick now) s2
    → is_lone s.shown.ledger.book.stage ≡ true
    → HasRested s.shown.ledger s2.shown.moment x → IsLetGo s x s2
lone-goes s now s2 x step lone rested =
    let-go-together s now s2 x true step lone (lone-together (ticked s now).shown lone)
    (tick-goes s now s2 x true step (lone-synced s.shown.ledger.book.stage lone) lone (λ no. absurd (cc)) rested)

pub paired-goes : (s : GatewayAndOutput) (now : ℕ) (s2 : GatewayAndOutput) (x : Entry) → IsStepOn s (Tick now) s2
    → s.shown.ledger.book.stage ≡ Paired → CanAskForAll s.shown.ledger s.shown.link s2.shown.moment
    → HasRested s.shown.ledger s2.shown.moment x → IsLetGo s x s2
paired-goes s now s2 x step paired asks rested =
    let together : is_shown_apart (ticked s now).shown ≡ false =
    ap (λ (n : ℕ). is_apart s.shown.ledger.book s.shown.link n) (sym (tick-ticks s now s2 step).moment) ∙ asks.together in
    let-go-together s now s2 x false step (ap is_lone paired) together
    (tick-goes s now s2 x false step (ap is_synced paired) (ap is_lone paired) (λ no. asks) rested)

-- a pair that was made alone and has rested is released, wherever the gateway isn't lone
pub made-alone-goes : Reads → (s : GatewayAndOutput) (now : ℕ) (s2 : GatewayAndOutput) (x : Entry) → IsStepOn s (Tick now) s2 → IsBook s.shown.ledger.book → KeepsBytes s.shown
    → s.shown.ledger.book.stage ≡ Paired → is_alone x.state ≡ true
    → HasRested s.shown.ledger s2.shown.moment x → NotesRelease s x.pair s2
made-alone-goes reads s now s2 x step book kept paired made rested =
    let does = step.does in
    let idle = idle_taken (old_dropped does.1) in
    let gone = tick-goes s now s2 x false step (ap is_synced paired) (ap is_lone paired) (λ asked. let no : true ≡ false = sym made ∙ asked in absurd (cc)) rested in
    let sound = (idle-rests-from s now does.0 does.1 does.2 does.3 (record { book = book; kept = kept })).sound in
    let more = alone-rests reads idle sound in
    let ended : s2 ≡ link_ticked (alone_taken idle) = step.sends ∙ ap (λ (z : GatewayAndOutput). link_ticked z) does.4 in
    record {
      notes = gone.notes ++ more.notes;
      are = ap (λ (z : GatewayAndOutput). z.told.notes) ended ∙ (ticked-entries (alone_taken idle)).1 ∙ more.notes_are
          ∙ ap (λ (ns : List Note). ns ++ more.notes) gone.notes_are ∙ append_assoc s.told.notes gone.notes more.notes;
      released = Contains-append_left gone.notes more.notes (note (id_of s.shown) s2.shown.moment (Released x.pair)) gone.noted;
    }
