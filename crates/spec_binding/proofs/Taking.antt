-- Each row of the record table, at a synced gateway, is a deed of the machine.
use Rattle.std.proofs.Common.{◌≡◌, ℕ, suc, Bool, true, false, cond, ◌&&◌, not, IsTrue, is_none, Option, Some, None, inl, inr, List, [], ◌∷◌, ◌++◌, reverse, refl, sym, ap, subst, ◌∙◌}
use Rattle.std.specs.List.{find}
use Rattle.std.proofs.lemmas.Bool.{and_parts, and_from, both_ways, cond-false, not-true}
use Rattle.std.proofs.lemmas.List.{map-append}
use Rattle.nat_types.specs.Same.{same, same_key, same_endpoint}
use Rattle.nat_types.proofs.Offered.{same-eq, endpoint-true, key-false}
use Rattle.nat_types.specs.declared.gateways.GatewayId.{GatewayId}
use Rattle.nat_types.specs.declared.gateways.GatewayId.TheVariants.{One}
use Rattle.nat_types.specs.declared.notes.NoteKind.{NoteKind}
use Rattle.nat_types.specs.declared.notes.NoteKind.TheVariants as happens
use Rattle.nat_types.specs.declared.pairs.EntryState.{EntryState}
use Rattle.nat_types.specs.declared.pairs.EntryState.TheVariants as state
use Rattle.nat_types.specs.declared.pairs.Endpoint.{Endpoint}
use Rattle.nat_types.specs.declared.pairs.Key.{Key}
use Rattle.nat_types.specs.declared.pairs.Pair.{Pair}
use Rattle.nat_types.specs.declared.records.Record.{Record}
use Rattle.nat_types.specs.declared.records.Record.TheVariants as rec
use Rattle.slots.specs.declared.ranks.Rank.{Rank}
use Rattle.slots.specs.declared.ranks.Rank.TheVariants.{Second}
use Rattle.bindings.specs.declared.entries.Entry.{Entry}
use Rattle.bindings.specs.Entries.{slot_of, entry_of, entry_on, held_entry_of, entry_in, is_of_rank, serves, has_key, set_at}
use Rattle.bindings.specs.Lists.{with_state}
use Rattle.bindings.proofs.Offered.{find-none, find-some, none_from_is_none, none-ranked, pair-rank, slot-key, entry-serves, entry-slot, slot-with_state}
use Rattle.link.specs.Link.{Link}
use Rattle.spec_pair.specs.Talk as machine
use Rattle.spec_pair.specs.Talk.{MachineRecord, Deed, MayDo, taken_by, table_after, IsLost, IsUnbound, IsUnboundOn}
use Rattle.spec_pair.specs.Acts.{Take}
use Rattle.spec_pair.specs.Ownership.{keyed}
use Rattle.spec_pair.specs.Box.{Letter, In, StandsNext}
use Rattle.spec_pair.specs.Step.{IsStep}
use Rattle.spec_pair.specs.Mapped.{machine_record, slot_in}
use Rattle.spec_binding.specs.declared.changes.Change.{Change}
use Rattle.spec_binding.specs.declared.changes.Change.TheVariants.{Keep, Add, Turn, Renew, Drop, Yield}
use Rattle.spec_binding.specs.declared.changes.Transition.{Transition}
use Rattle.spec_binding.specs.Books.{Book, IsBook, in_ranges, is_synced, is_lone, owns}
use Rattle.spec_binding.specs.Machine.{machine_slot, slots_of, machine_records, box_at, promised_of, ranges_of}
use Rattle.spec_binding.specs.Rows.{row, quiet, answering, ending, is_takeable, is_theirs, gives_way, proposed_row, install_row, taking, told_row, accepted_row, accept_row, refused_row, refuse_row, asked_row, ask_row, left_row, yes_row, stayed_row, no_row, changed, after, pushed_by, answered, noted_by}
use Rattle.spec_binding.proofs.Parts.{act-step}
use Rattle.spec_binding.proofs.Slots.{slots-at, slots-none, slots-put, slots-turn, slots-drop, state-held}

-- a value that fails every match of one test, and is found by another, fails the one
pub fails : {X : Type 0} (p r : X → Bool) (xs : List X) (x : X) → find p xs ≡ None → find r xs ≡ Some x → p x ≡ false
fails p r [] x none h = cc
fails p r (y ∷ ys) x none h =
    let parts = find-none p y ys none in
    elim (find-some (r y) y (find r ys) x h) [ inl w ↦ ap p (sym w.1) ∙ parts.0 | inr w ↦ fails p r ys x parts.1 w.1 ]

pub serves-of : (rank : Rank) (e : Endpoint) (x : Entry) → is_of_rank rank x.state ≡ true → x.pair.endpoint ≡ e → serves rank e x ≡ true
serves-of rank e x pair one = and_from (is_of_rank rank x.state) (same_endpoint x.pair.endpoint e) pair (endpoint-true x.pair.endpoint e one)

-- where no pair of a rank has the endpoint, no entry is one
pub unranked : (es : List Entry) (rank : Rank) (e : Endpoint) (q : Key) (x : Entry) → entry_on rank es e ≡ None → slot_of es q ≡ Some x → is_of_rank rank x.state ≡ true → x.pair.endpoint ≡ e → ⊥
unranked es rank e q x none found pair same =
    both_ways (serves rank e x) (fails (serves rank e) (has_key q) es x none found) (serves-of rank e x pair same)

-- an endpoint without a pair is new to the machine's table
pub is-unbound : (es : List Entry) (e : Endpoint) → entry_of es e ≡ None → IsUnbound (slots_of es) e
is-unbound es e none q h = at (slot_of es q) refl h
  where
    at : (o : Option Entry) → slot_of es q ≡ o → machine.held (machine_slot o) ≡ Some e → ⊥
    at None found h = cc
    at (Some x) found h =
        let parts = state-held x.state x.pair.endpoint e h in
        let ranked = pair-rank x.state parts.0 in
        unranked es ranked.0 e q x (none-ranked es e none ranked.0) found ranked.1 parts.1

-- a slot that holds an endpoint on the other gateway's side is Held
held-other : (s : EntryState) (e x : Endpoint) → machine.held_on false (slot_in s e) ≡ Some x → (is_of_rank Second s ≡ true) × (e ≡ x)
held-other (state.Pending m) e x t = cc
held-other state.Doomed e x t = cc
held-other state.Live e x t = cc
held-other (state.Closing m) e x t = cc
held-other state.Alone e x t = cc
held-other state.Held e x t = (refl, cc)

-- an endpoint without a Held pair is new to that side of the machine's table
pub unbound-held : (es : List Entry) (e : Endpoint) → held_entry_of es e ≡ None → IsUnboundOn false (slots_of es) e
unbound-held es e none q h = at (slot_of es q) refl h
  where
    at : (o : Option Entry) → slot_of es q ≡ o → machine.held_on false (machine_slot o) ≡ Some e → ⊥
    at None found h = cc
    at (Some x) found h = let parts = held-other x.state x.pair.endpoint e h in unranked es Second e q x none found parts.0 parts.1

-- what is known of a pair of the peer's that may be taken
pub record MayTake (c : Book) (p : Pair) : Type 0 where
  pub inside : IsTrue (in_ranges c p.key.port.0)
  pub side : owns c p.key.port.0 ≡ false
  pub free : slot_of c.entries p.key ≡ None
  pub held : held_entry_of c.entries p.endpoint ≡ None

pub takes : (c : Book) (p : Pair) → is_takeable c p ≡ true → MayTake c p
takes c p h =
    let first = and_parts (is_theirs c p.key.port.0) (is_none (slot_of c.entries p.key) && is_none (held_entry_of c.entries p.endpoint)) h in
    let theirs = and_parts (in_ranges c p.key.port.0) (not (owns c p.key.port.0)) first.0 in
    let rest = and_parts (is_none (slot_of c.entries p.key)) (is_none (held_entry_of c.entries p.endpoint)) first.1 in
    record {
      inside = theirs.0;
      side = not-true (owns c p.key.port.0) theirs.1;
      free = none_from_is_none (slot_of c.entries p.key) rest.0;
      held = none_from_is_none (held_entry_of c.entries p.endpoint) rest.1;
    }

-- one of the letters that were given has this record next
pub record IsReading (c : Book) (e : Link) (h : List Record) (n : ℕ) (letters : List Letter) (q : MachineRecord) : Type 0 where
  pub letter : Letter
  pub offset : ℕ
  pub next : StandsNext (box_at c e h n) letter offset q
  pub inside : In letter letters

-- both ends have the same boots, and as many records may be sent
pub record Speaks (e e2 : Link) : Type 0 where
  pub boot : e2.boot ≡ e.boot
  pub known : e2.known ≡ e.known
  pub promised : promised_of e2 ≡ promised_of e

module _ (now : ℕ) (c : Book) (e : Link) (h : List Record) (n : ℕ) (letters : List Letter) (words : List ℕ) where
  -- the change to this book, with this answer and note, is a part of a step that takes one record
  abbrev pub Makes : Book → Option Record → Option NoteKind → Type 0
  Makes c2 o w = IsStep (ranges_of c) c.id now (box_at c e h n) (box_at c2 (answered e o) (h ++ pushed_by o) (suc n)) letters words [] (reverse (noted_by c.id now w)) [] []

  -- the row is a part of a step that takes one record
  abbrev pub RowSteps : Transition → Type 0
  RowSteps r = Makes (after c r) r.answer r.what

  pub reads : (q : MachineRecord) (g : IsReading c e h n letters q) → (m : Letter) → In m (g.letter ∷ []) → In m letters
  reads q g m i = elim i [ inl same ↦ subst (λ (z : Letter). In z letters) (sym same) g.inside | inr none ↦ absurd none ]

  pub kept-of : (o : Option Record) → Speaks e (answered e o)
  kept-of None = record { boot = refl; known = refl; promised = refl }
  kept-of (Some r) = record { boot = refl; known = refl; promised = refl }

  module _ (synced : is_synced c.stage ≡ true) (lone : is_lone c.stage ≡ false) where
    deed-row : (ch : Change) (o : Option Record) (w : Option NoteKind) (q : MachineRecord) (d : Deed)
        → IsReading c e h n letters q → MayDo (keyed (owns c)) c.id (slots_of c.entries) d → taken_by d ≡ q ∷ []
        → ((k : Key) → slots_of (changed ch c).entries k ≡ table_after (slots_of c.entries) d k)
        → machine_records (pushed_by o) ≡ machine.pushed_by d
        → reverse (noted_by c.id now w) ≡ machine.noted_by c.id now d ++ []
        → Makes (record c { entries = (changed ch c).entries }) o w
    deed-row ch o w q d g may takes table pushed noted =
        let same = kept-of o in
        act-step (ranges_of c) c.id now (box_at c e h n) (box_at (record c { entries = (changed ch c).entries }) (answered e o) (h ++ pushed_by o) (suc n)) (Take g.letter g.offset q d) letters words (noted_by c.id now w)
        (synced, lone, may, takes, g.next) (reads q g, tt)
        (record { up = refl; boot = same.boot; synced = refl; lone = refl; peer = same.known; table = table; sent = map-append machine_record h (pushed_by o) ∙ ap (λ (z : List MachineRecord). machine_records h ++ z) pushed; taken = refl; loading = refl; owned = λ p. refl; wants = refl; named = refl; promised = same.promised })
        noted (λ m. refl)

    pub skip-row : (q : MachineRecord) → IsReading c e h n letters q → IsLost (keyed (owns c)) (slots_of c.entries) q → RowSteps (quiet)
    skip-row q reading lost = deed-row Keep None None q (machine.Skip q) reading lost refl (λ k. refl) refl refl

    -- ---- Accept, Refuse, Yes and No of the own pairs

    at-key : (k : Key) (x : Entry) → slot_of c.entries k ≡ Some x → slot_of c.entries x.pair.key ≡ Some x
    at-key k x found = ap (slot_of c.entries) (slot-key c.entries k x found) ∙ found

    reading-at : (say : Key → MachineRecord) (k : Key) (x : Entry) → slot_of c.entries k ≡ Some x → IsReading c e h n letters (say k) → IsReading c e h n letters (say x.pair.key)
    reading-at say k x found reading = subst (λ (z : Key). IsReading c e h n letters (say z)) (sym (slot-key c.entries k x found)) reading

    no-slot : (x : Entry) (s : EntryState) → x.state ≡ s → slot_of c.entries x.pair.key ≡ Some x → slots_of c.entries x.pair.key ≡ slot_in s x.pair.endpoint
    no-slot x s is found = slots-at c.entries x.pair.key x found ∙ ap (λ s. slot_in s x.pair.endpoint) is

    accepted-steps : (x : Entry) (s : EntryState) → x.state ≡ s → slot_of c.entries x.pair.key ≡ Some x → IsReading c e h n letters (machine.Accept x.pair.key) → RowSteps (accepted_row x.pair s)
    accepted-steps x (state.Pending true) is found reading =
        let here = no-slot x (state.Pending true) is found in
        deed-row (Turn x.pair.key state.Live) None (Some (happens.Retaken x.pair)) (machine.Accept x.pair.key) (machine.Agreed x.pair.key x.pair.endpoint) reading (true, here) refl
        (slots-turn x.pair.key state.Live c.entries x found) refl refl
    accepted-steps x (state.Pending false) is found reading =
        let here = no-slot x (state.Pending false) is found in
        deed-row (Turn x.pair.key state.Live) None (Some (happens.Retaken x.pair)) (machine.Accept x.pair.key) (machine.Agreed x.pair.key x.pair.endpoint) reading (false, here) refl
        (slots-turn x.pair.key state.Live c.entries x found) refl refl
    accepted-steps x state.Doomed is found reading = let here = no-slot x state.Doomed is found in skip-row _ reading (λ m e own there. cc)
    accepted-steps x state.Live is found reading = let here = no-slot x state.Live is found in skip-row _ reading (λ m e own there. cc)
    accepted-steps x (state.Closing marked) is found reading = let here = no-slot x (state.Closing marked) is found in skip-row _ reading (λ m e own there. cc)
    accepted-steps x state.Alone is found reading = let here = no-slot x state.Alone is found in skip-row _ reading (λ m e own there. cc)
    accepted-steps x state.Held is found reading = let here = no-slot x state.Held is found in skip-row _ reading (λ m e own there. cc)

    pub accept-steps : (k : Key) (o : Option Entry) → slot_of c.entries k ≡ o → IsReading c e h n letters (machine.Accept k) → RowSteps (accept_row o)
    accept-steps k None found reading = skip-row (machine.Accept k) reading (λ m e own there. let here : slots_of c.entries k ≡ machine.Free = slots-none c.entries k found in cc)
    accept-steps k (Some x) found reading = accepted-steps x x.state refl (at-key k x found) (reading-at machine.Accept k x found reading)

    dropped-row : (x : Entry) (q : MachineRecord) (d : Deed) → IsReading c e h n letters q → MayDo (keyed (owns c)) c.id (slots_of c.entries) d → taken_by d ≡ q ∷ [] → table_after (slots_of c.entries) d ≡ machine.set_at (slots_of c.entries) x.pair.key machine.Free → machine.pushed_by d ≡ [] → machine.noted_by c.id now d ≡ [] → RowSteps (row (Drop x.pair.key) None None)
    dropped-row x q d reading may takes table pushed noted =
        deed-row (Drop x.pair.key) None None q d reading may takes
        (λ k. slots-drop x.pair.key c.entries k ∙ ap (λ (t : Key → machine.Slot). t k) (sym table)) (sym pushed) (ap (λ (z : List _). z ++ []) (sym noted))

    -- a marked pair goes on, and is alone then
    alone-row : (x : Entry) (q : MachineRecord) (d : Deed) → slot_of c.entries x.pair.key ≡ Some x → IsReading c e h n letters q → MayDo (keyed (owns c)) c.id (slots_of c.entries) d → taken_by d ≡ q ∷ [] → table_after (slots_of c.entries) d ≡ machine.set_at (slots_of c.entries) x.pair.key (machine.Alone x.pair.endpoint) → machine.pushed_by d ≡ [] → machine.noted_by c.id now d ≡ [] → RowSteps (row (Turn x.pair.key state.Alone) None None)
    alone-row x q d found reading may takes table pushed noted =
        deed-row (Turn x.pair.key state.Alone) None None q d reading may takes
        (λ k. slots-turn x.pair.key state.Alone c.entries x found k ∙ ap (λ (t : Key → machine.Slot). t k) (sym table)) (sym pushed) (ap (λ (z : List _). z ++ []) (sym noted))

    refused-steps : (x : Entry) (s : EntryState) → x.state ≡ s → slot_of c.entries x.pair.key ≡ Some x → IsReading c e h n letters (machine.Refuse x.pair.key) → RowSteps (refused_row x.pair s)
    refused-steps x (state.Pending true) is found reading =
        alone-row x (machine.Refuse x.pair.key) (machine.Rebuffed x.pair.key x.pair.endpoint) found reading (no-slot x (state.Pending true) is found) refl refl refl refl
    refused-steps x (state.Pending false) is found reading = dropped-row x (machine.Refuse x.pair.key) (machine.Rejected x.pair.key) reading (x.pair.endpoint, inl (no-slot x (state.Pending false) is found)) refl refl refl refl
    refused-steps x state.Doomed is found reading = dropped-row x (machine.Refuse x.pair.key) (machine.Rejected x.pair.key) reading (x.pair.endpoint, inr (no-slot x state.Doomed is found)) refl refl refl refl
    refused-steps x state.Live is found reading = let here = no-slot x state.Live is found in skip-row _ reading (λ m e own there. elim there [ inl a ↦ cc | inr b ↦ cc ])
    refused-steps x (state.Closing marked) is found reading = let here = no-slot x (state.Closing marked) is found in skip-row _ reading (λ m e own there. elim there [ inl a ↦ cc | inr b ↦ cc ])
    refused-steps x state.Alone is found reading = let here = no-slot x state.Alone is found in skip-row _ reading (λ m e own there. elim there [ inl a ↦ cc | inr b ↦ cc ])
    refused-steps x state.Held is found reading = let here = no-slot x state.Held is found in skip-row _ reading (λ m e own there. elim there [ inl a ↦ cc | inr b ↦ cc ])

    pub refuse-steps : (k : Key) (o : Option Entry) → slot_of c.entries k ≡ o → IsReading c e h n letters (machine.Refuse k) → RowSteps (refuse_row o)
    refuse-steps k None found reading = let here = slots-none c.entries k found in skip-row (machine.Refuse k) reading (λ m e own there. elim there [ inl a ↦ cc | inr b ↦ cc ])
    refuse-steps k (Some x) found reading = refused-steps x x.state refl (at-key k x found) (reading-at machine.Refuse k x found reading)

    left-steps : (x : Entry) (s : EntryState) → x.state ≡ s → slot_of c.entries x.pair.key ≡ Some x → IsReading c e h n letters (machine.Yes x.pair.key) → RowSteps (left_row x.pair s)
    left-steps x (state.Pending marked) is found reading = let here = no-slot x (state.Pending marked) is found in skip-row _ reading (λ m e own there. cc)
    left-steps x state.Doomed is found reading = let here = no-slot x state.Doomed is found in skip-row _ reading (λ m e own there. cc)
    left-steps x state.Live is found reading = let here = no-slot x state.Live is found in skip-row _ reading (λ m e own there. cc)
    left-steps x (state.Closing true) is found reading =
        alone-row x (machine.Yes x.pair.key) (machine.Parted x.pair.key x.pair.endpoint) found reading (no-slot x (state.Closing true) is found) refl refl refl refl
    left-steps x (state.Closing false) is found reading = dropped-row x (machine.Yes x.pair.key) (machine.Left x.pair.key x.pair.endpoint) reading (no-slot x (state.Closing false) is found) refl refl refl refl
    left-steps x state.Alone is found reading = let here = no-slot x state.Alone is found in skip-row _ reading (λ m e own there. cc)
    left-steps x state.Held is found reading = let here = no-slot x state.Held is found in skip-row _ reading (λ m e own there. cc)

    pub yes-steps : (k : Key) (o : Option Entry) → slot_of c.entries k ≡ o → IsReading c e h n letters (machine.Yes k) → RowSteps (yes_row o)
    yes-steps k None found reading = let here = slots-none c.entries k found in skip-row (machine.Yes k) reading (λ m e own there. cc)
    yes-steps k (Some x) found reading = left-steps x x.state refl (at-key k x found) (reading-at machine.Yes k x found reading)

    stayed-steps : (x : Entry) (s : EntryState) → x.state ≡ s → slot_of c.entries x.pair.key ≡ Some x → IsReading c e h n letters (machine.No x.pair.key) → RowSteps (stayed_row x.pair s)
    stayed-steps x (state.Pending marked) is found reading = let here = no-slot x (state.Pending marked) is found in skip-row _ reading (λ m e own there. cc)
    stayed-steps x state.Doomed is found reading = let here = no-slot x state.Doomed is found in skip-row _ reading (λ m e own there. cc)
    stayed-steps x state.Live is found reading = let here = no-slot x state.Live is found in skip-row _ reading (λ m e own there. cc)
    stayed-steps x (state.Closing marked) is found reading =
        deed-row (Renew x.pair.key) None (Some (happens.Retaken x.pair)) (machine.No x.pair.key) (machine.Stayed x.pair.key x.pair.endpoint) reading (marked, no-slot x (state.Closing marked) is found) refl
        (slots-turn x.pair.key state.Live c.entries x found) refl refl
    stayed-steps x state.Alone is found reading = let here = no-slot x state.Alone is found in skip-row _ reading (λ m e own there. cc)
    stayed-steps x state.Held is found reading = let here = no-slot x state.Held is found in skip-row _ reading (λ m e own there. cc)

    pub no-steps : (k : Key) (o : Option Entry) → slot_of c.entries k ≡ o → IsReading c e h n letters (machine.No k) → RowSteps (no_row o)
    no-steps k None found reading = let here = slots-none c.entries k found in skip-row (machine.No k) reading (λ m e own there. cc)
    no-steps k (Some x) found reading = stayed-steps x x.state refl (at-key k x found) (reading-at machine.No k x found reading)

    -- ---- Ask of a pair that is held

    pass-row : (k : Key) → IsReading c e h n letters (machine.Ask k) → ((e : Endpoint) → slots_of c.entries k ≡ machine.Held e → ⊥) → RowSteps (answering (rec.Yes k))
    pass-row k reading unheld = deed-row Keep (Some (rec.Yes k)) None (machine.Ask k) (machine.Pass k) reading unheld refl (λ k. refl) refl refl

    asked-steps : (x : Entry) (idle : Bool) (s : EntryState) → x.state ≡ s → slot_of c.entries x.pair.key ≡ Some x → IsReading c e h n letters (machine.Ask x.pair.key) → RowSteps (asked_row x.pair idle s)
    asked-steps x idle (state.Pending m) is found reading = let here = no-slot x (state.Pending m) is found in pass-row x.pair.key reading (λ e there. cc)
    asked-steps x idle state.Doomed is found reading = let here = no-slot x state.Doomed is found in pass-row x.pair.key reading (λ e there. cc)
    asked-steps x idle state.Live is found reading = let here = no-slot x state.Live is found in pass-row x.pair.key reading (λ e there. cc)
    asked-steps x idle (state.Closing m) is found reading = let here = no-slot x (state.Closing m) is found in pass-row x.pair.key reading (λ e there. cc)
    asked-steps x idle state.Alone is found reading = let here = no-slot x state.Alone is found in pass-row x.pair.key reading (λ e there. cc)
    asked-steps x true state.Held is found reading =
        deed-row (Drop x.pair.key) (Some (rec.Yes x.pair.key)) (Some (happens.Released x.pair)) (machine.Ask x.pair.key) (machine.Leave x.pair.key x.pair.endpoint) reading (no-slot x state.Held is found) refl
        (slots-drop x.pair.key c.entries) refl refl
    asked-steps x false state.Held is found reading =
        deed-row Keep (Some (rec.No x.pair.key)) None (machine.Ask x.pair.key) (machine.Stay x.pair.key x.pair.endpoint) reading (no-slot x state.Held is found) refl (λ k. refl) refl refl

    pub ask-steps : (k : Key) (idle : Bool) (o : Option Entry) → slot_of c.entries k ≡ o → IsReading c e h n letters (machine.Ask k) → RowSteps (ask_row k idle o)
    ask-steps k idle None found reading = let here = slots-none c.entries k found in pass-row k reading (λ e there. cc)
    ask-steps k idle (Some x) found reading = asked-steps x idle x.state refl (at-key k x found) (reading-at machine.Ask k x found reading)

    -- ---- Install of a pair of the peer's

    reject-row : (p : Pair) → IsReading c e h n letters (machine.Install p.key p.endpoint) → RowSteps (answering (rec.Refuse p.key))
    reject-row p reading = deed-row Keep (Some (rec.Refuse p.key)) None (machine.Install p.key p.endpoint) (machine.Reject p.key p.endpoint) reading tt refl (λ k. refl) refl refl

    ways : (i : GatewayId) (s : EntryState) → gives_way i s ≡ true → (i ≡ One) × (s ≡ state.Pending false)
    ways i (state.Pending true) g = cc
    ways i (state.Pending false) g = (same-eq i One g, refl)
    ways i state.Doomed g = cc
    ways i state.Live g = cc
    ways i (state.Closing m) g = cc
    ways i state.Alone g = cc
    ways i state.Held g = cc

    yield-table : (p : Pair) (x : Entry) → slot_of c.entries p.key ≡ None → slot_of c.entries x.pair.key ≡ Some x → x.pair.endpoint ≡ p.endpoint → (k : Key) → slots_of (changed (Yield x.pair.key p) c).entries k ≡ table_after (slots_of c.entries) (machine.Yield p.key p.endpoint x.pair.key) k
    yield-table p x free found same k =
        let doomed : (q : Key) → slots_of (with_state x.pair.key state.Doomed c.entries) q ≡ machine.set_at (slots_of c.entries) x.pair.key (machine.Doomed p.endpoint) q =
        λ q. slots-turn x.pair.key state.Doomed c.entries x found q ∙ ap (λ (z : Endpoint). machine.set_at (slots_of c.entries) x.pair.key (machine.Doomed z) q) same in
        let free2 : slot_of (with_state x.pair.key state.Doomed c.entries) p.key ≡ None = slot-with_state x.pair.key state.Doomed c.entries x p.key found ∙ unlike free in
        slots-put (entry_in state.Held p) (with_state x.pair.key state.Doomed c.entries) free2 k
        ∙ ap (λ (z : machine.Slot). cond (same_key p.key k) (machine.Held p.endpoint) z) (doomed k)
      where
        unlike : slot_of c.entries p.key ≡ None → set_at (slot_of c.entries) x.pair.key (Some (entry_in state.Doomed x.pair)) p.key ≡ None
        unlike free = cond-false (same_key x.pair.key p.key) (Some (entry_in state.Doomed x.pair)) (slot_of c.entries p.key)
            (key-false x.pair.key p.key (λ s. let clash : slot_of c.entries x.pair.key ≡ None = ap (slot_of c.entries) s ∙ free in cc)) ∙ free

    proposed-steps : IsBook c → (p : Pair) (o : Option Entry) → entry_of c.entries p.endpoint ≡ o → slot_of c.entries p.key ≡ None → IsReading c e h n letters (machine.Install p.key p.endpoint) → RowSteps (proposed_row c p o)
    proposed-steps is p None found free reading =
        deed-row (Add (entry_in state.Held p)) (Some (rec.Accept p.key)) (Some (happens.Retaken p)) (machine.Install p.key p.endpoint) (machine.Agree p.key p.endpoint) reading
        (slots-none c.entries p.key free, is-unbound c.entries p.endpoint found) refl (slots-put (entry_in state.Held p) c.entries free) refl refl
    proposed-steps is p (Some x) found free reading = at (gives_way c.id x.state) refl
      where
        at : (b : Bool) → gives_way c.id x.state ≡ b → RowSteps (let r : Transition = cond b (ending p.endpoint (row (Yield x.pair.key p) (Some (rec.Accept p.key)) (Some (happens.Retaken p)))) (answering (rec.Refuse p.key)) in r)
        at true g =
            let w = ways c.id x.state g in
            let serving = entry-serves c.entries p.endpoint x found in
            let there : slot_of c.entries x.pair.key ≡ Some x = entry-slot c.entries p.endpoint x is.keys found in
            let mine : slots_of c.entries x.pair.key ≡ machine.Pending false p.endpoint = slots-at c.entries x.pair.key x there ∙ ap (λ s. slot_in s x.pair.endpoint) w.1 ∙ ap (λ z. machine.Pending false z) serving.1 in
            deed-row (Yield x.pair.key p) (Some (rec.Accept p.key)) (Some (happens.Retaken p)) (machine.Install p.key p.endpoint) (machine.Yield p.key p.endpoint x.pair.key) reading
            (w.0, slots-none c.entries p.key free, mine) refl (yield-table p x free there serving.1) refl refl
        at false g = reject-row p reading

    pub install-steps : IsBook c → (p : Pair) → IsReading c e h n letters (machine.Install p.key p.endpoint) → RowSteps (install_row c p)
    install-steps is p reading = at (is_takeable c p) refl
      where
        at : (b : Bool) → is_takeable c p ≡ b → RowSteps (let r : Transition = cond b (proposed_row c p (entry_of c.entries p.endpoint)) (answering (rec.Refuse p.key)) in r)
        at true g = proposed-steps is p (entry_of c.entries p.endpoint) refl (takes c p g).free reading
        at false g = reject-row p reading

    -- ---- Tell of a pair of the peer's

    decline-row : (p : Pair) → IsReading c e h n letters (machine.Tell p.key p.endpoint) → RowSteps (answering (rec.Refuse p.key))
    decline-row p reading = deed-row Keep (Some (rec.Refuse p.key)) None (machine.Tell p.key p.endpoint) (machine.Decline p.key p.endpoint) reading tt refl (λ k. refl) refl refl

    pub tell-steps : IsBook c → (p : Pair) → IsReading c e h n letters (machine.Tell p.key p.endpoint) → RowSteps (told_row c p)
    tell-steps is p reading = at (is_takeable c p) refl
      where
        at : (b : Bool) → is_takeable c p ≡ b → RowSteps (let r : Transition = cond b (taking p) (answering (rec.Refuse p.key)) in r)
        at true g =
            let may = takes c p g in
            deed-row (Add (entry_in state.Held p)) (Some (rec.Accept p.key)) (Some (happens.Retaken p)) (machine.Tell p.key p.endpoint) (machine.Adopt p.key p.endpoint) reading
            (slots-none c.entries p.key may.free, unbound-held c.entries p.endpoint may.held) refl (slots-put (entry_in state.Held p) c.entries may.free) refl refl
        at false g = decline-row p reading
