-- A wish for a port, an idle pair at a tick, and a packet that is translated, as acts of the machine.
use Rattle.std.proofs.Common.{◌≡◌, ℕ, zero, suc, ◌+◌, ◌-◌, ◌*◌, Bool, true, false, cond, not, ◌&&◌, Option, Some, None, option_and_then, inl, inr, ◌⊎◌, List, [], ◌∷◌, ◌++◌, reverse, refl, sym, ap, subst, ◌∙◌}
use Rattle.std.proofs.lemmas.Bool.{and_parts, not-true}
use Rattle.std.proofs.lemmas.List.{map-append, append-nil}
use Rattle.addresses.specs.declared.transport.Parity.{Parity}
use Rattle.addresses.specs.declared.transport.Port.{Port}
use Rattle.addresses.specs.Transport.{parity_of}
use Rattle.nat_types.specs.declared.notes.NoteKind.{NoteKind}
use Rattle.nat_types.specs.declared.notes.NoteKind.TheVariants as happens
use Rattle.nat_types.specs.declared.pairs.EntryState.{EntryState}
use Rattle.nat_types.specs.declared.pairs.EntryState.TheVariants as state
use Rattle.nat_types.specs.declared.pairs.Endpoint.{Endpoint}
use Rattle.nat_types.specs.declared.pairs.Key.{Key}
use Rattle.nat_types.specs.declared.pairs.Pair.{Pair}
use Rattle.nat_types.specs.declared.records.Record.{Record}
use Rattle.nat_types.specs.declared.records.Record.TheVariants as rec
use Rattle.bindings.specs.declared.entries.Entry.{Entry}
use Rattle.bindings.specs.Entries.{slot_of, entry_of, entry_in}
use Rattle.bindings.specs.Numbers.{numbers_of as drawn_numbers}
use Rattle.bindings.specs.Ports.{is_free_in, is_open_in, key_of, lowest_of, highest_of}
use Rattle.bindings.proofs.Offered.{none_from_is_none, slot-key}
use Rattle.port_range.specs.Drawn.{drawn_in, drawn_like, drawn_open, first_from, first_round, open_blocks, owned_in, picked}
use Rattle.port_range.specs.Marks.{other_parity}
use Rattle.port_range.specs.Ports.{chosen_open, first_where, fits, is_listed, is_open, lowest_open, or_else}
use Rattle.link.specs.Link.{Link, with_pushed}
use Rattle.spec_pair.specs.Acts.{Do, LoneNew, LoneUse, LoneDrop, WantPorts}
use Rattle.spec_pair.specs.Box.{Letter}
use Rattle.spec_pair.specs.Mapped.{slot_in, machine_record}
use Rattle.spec_pair.specs.Step.{IsStep}
use Rattle.spec_pair.specs.Talk as machine
use Rattle.spec_binding.specs.declared.changes.Change.{Change}
use Rattle.spec_binding.specs.declared.changes.Change.TheVariants.{Keep, Add, Drop, Turn}
use Rattle.spec_binding.specs.declared.changes.Change.TheVariants as change_of
use Rattle.spec_binding.specs.declared.changes.Transition.{Transition}
use Rattle.spec_binding.specs.declared.changes.PortRequest.{PortRequest}
use Rattle.spec_binding.specs.declared.changes.Want.TheVariants as want
use Rattle.spec_binding.specs.declared.setups.Choice.{Choice}
use Rattle.spec_binding.specs.declared.setups.Choice.TheVariants.{Lowest, Drawn}
use Rattle.spec_binding.specs.declared.setups.Stage.{Stage}
use Rattle.spec_binding.specs.declared.setups.Stage.TheVariants.{Unsynced, Paired, Lone}
use Rattle.spec_binding.specs.Books.{Book, is_synced, is_lone, is_paired, owns}
use Rattle.spec_binding.specs.Machine.{box_at, machine_records, ranges_of, slots_of, Stands, Works}
use Rattle.spec_binding.specs.Rows.{after, ahead_row, alone_row, answered, asking, changed, is_cause, is_short_after, marked_row, paired_wish, sought_row, telling_row, carry_row, idle_row, is_at_limit, known_wish, may_want, new_pair, new_wish, wanting_row, noted_by, noted_with, port_by, port_for, proposal, pushed_by, quiet, release_row, released_row, row, use_row, used_row, wish, wish_by, wish_of}
use Rattle.spec_binding.proofs.Parts.{act-step}
use Rattle.spec_binding.proofs.Slots.{slots-at, slots-drop, slots-none, slots-put, slots-turn}
use Rattle.spec_binding.proofs.Taking.{is-unbound}
use Rattle.spec_binding.proofs.Working.{changed-keeps, stands-answer}

-- ---- a port that is chosen may be given out

first-says : (test : ℕ → Bool) (start count : ℕ) (p : Port) → first_where test start count ≡ Some p → test p.0 ≡ true
first-says test start zero p h = absurd (cc)
first-says test start (suc count) p h = at (test start) refl h (first-says test (start + 1) count p)
  where
    at : (b : Bool) → test start ≡ b → (let o : Option Port = cond b (Some (record { 0 = start })) (first_where test (start + 1) count) in o) ≡ Some p → (first_where test (start + 1) count ≡ Some p → test p.0 ≡ true) → test p.0 ≡ true
    at true is h ih = let one : (let q : Port = record { 0 = start } in q) ≡ p = cc in ap (λ (q : Port). test q.0) (sym one) ∙ is
    at false is h ih = ih h

lowest-says : (test : ℕ → Bool) (low high : ℕ) (wanted : Option Parity) (p : Port) → lowest_open test low high wanted ≡ Some p → test p.0 ≡ true
lowest-says test low high wanted p h = (and_parts (test p.0) (fits wanted p.0) (first-says (is_open test wanted) low (high + 1 - low) p h)).0

open-says : (test : ℕ → Bool) (low high : ℕ) (parity : Parity) (p : Port) → chosen_open test low high parity ≡ Some p → test p.0 ≡ true
open-says test low high parity p h = at (lowest_open test low high (Some parity)) refl h
  where
    at : (o : Option Port) → lowest_open test low high (Some parity) ≡ o → or_else o (lowest_open test low high None) ≡ Some p → test p.0 ≡ true
    at None is h = lowest-says test low high None p h
    at (Some x) is h = lowest-says test low high (Some parity) p (is ∙ h)

-- ---- of a drawn port too

round-says : (test : ℕ → Bool) (parity : Parity) (block place : ℕ) (p : Port) → first_round test parity block place ≡ Some p → test p.0 ≡ true
round-says test parity block place p h = at (first_from test parity block place) refl h
  where
    at : (o : Option Port) → first_from test parity block place ≡ o → or_else o (first_from test parity block (block * 64)) ≡ Some p → test p.0 ≡ true
    at None is h = lowest-says test (block * 64) (block * 64 + 63) (Some parity) p h
    at (Some x) is h = lowest-says test place (block * 64 + 63) (Some parity) p (is ∙ h)

in-says : (test owned : ℕ → Bool) (parity : Parity) (y block : ℕ) (p : Port) → drawn_in test owned parity y block ≡ Some p → test p.0 ≡ true
in-says test owned parity y block p h = at (picked (owned_in owned parity block) y) h
  where
    at : (o : Option ℕ) → option_and_then (first_round test parity block) o ≡ Some p → test p.0 ≡ true
    at None h = absurd (cc)
    at (Some place) h = round-says test parity block place p h

like-says : (test owned : ℕ → Bool) (parity : Parity) (x y : ℕ) (p : Port) → drawn_like test owned parity x y ≡ Some p → test p.0 ≡ true
like-says test owned parity x y p h = at (picked (open_blocks test parity) x) h
  where
    at : (o : Option ℕ) → option_and_then (drawn_in test owned parity y) o ≡ Some p → test p.0 ≡ true
    at None h = absurd (cc)
    at (Some block) h = in-says test owned parity y block p h

drawn-says : (test owned : ℕ → Bool) (parity : Parity) (x y : ℕ) (p : Port) → drawn_open test owned parity x y ≡ Some p → test p.0 ≡ true
drawn-says test owned parity x y p h = at (drawn_like test owned parity x y) refl h
  where
    at : (o : Option Port) → drawn_like test owned parity x y ≡ o → or_else o (drawn_like test owned (other_parity parity) x y) ≡ Some p → test p.0 ≡ true
    at None is h = like-says test owned (other_parity parity) x y p h
    at (Some q) is h = like-says test owned parity x y p (is ∙ h)

-- by each choice
pub port-says : (b : Book) (e : Endpoint) (choice : Choice) (p : Port) → port_by choice b e ≡ Some p → is_open_in b.entries b.owned e.protocol p.0 ≡ true
port-says b e Lowest p h = open-says (is_open_in b.entries b.owned e.protocol) (lowest_of b.zero b.one) (highest_of b.zero b.one) (parity_of e.port.0) p h
port-says b e (Drawn key) p h =
    drawn-says (is_open_in b.entries b.owned e.protocol) (λ q. is_listed q b.owned) (parity_of e.port.0) (drawn_numbers key e).0 (drawn_numbers key e).1 p h

pub record IsOpen (b : Book) (e : Endpoint) (port : Port) : Type 0 where
  pub owned : owns b port.0 ≡ true
  pub free : slot_of b.entries (new_pair e port).key ≡ None

pub chosen-says : (b : Book) (e : Endpoint) (port : Port) → port_for b e ≡ Some port → IsOpen b e port
chosen-says b e port h =
    let parts = and_parts (is_listed port.0 b.owned) (is_free_in b.entries e.protocol port.0) (port-says b e b.choice port h) in
    record { owned = parts.0; free = none_from_is_none (slot_of b.entries (key_of e.protocol port.0)) parts.1 }

pub at-key : (es : List Entry) (k : Key) (x : Entry) → slot_of es k ≡ Some x → slot_of es x.pair.key ≡ Some x
at-key es k x found = ap (slot_of es) (slot-key es k x found) ∙ found

module _ (now : ℕ) (c : Book) (e : Link) (h : List Record) (n : ℕ) (letters : List Letter) (words : List ℕ) where
  -- the row, whose note has this mark, is a part of a step that takes no record
  abbrev pub StepsWith : Bool → Transition → Type 0
  StepsWith counts r = IsStep (ranges_of c) c.id now (box_at c e h n) (box_at (after c r) (answered e r.answer) (h ++ pushed_by r.answer) n) letters words [] (reverse (noted_with counts c.id now r.what)) [] []

  -- the same of a row that notes no use
  abbrev pub WishSteps : Transition → Type 0
  WishSteps = StepsWith true

  sent-none : machine_records (h ++ []) ≡ machine_records h
  sent-none = map-append machine_record h [] ∙ append-nil (machine_records h)

  pub rest-row : WishSteps quiet
  rest-row = record { acts = []; follows = tt; box_is = ap (λ (s : List machine.MachineRecord). record (box_at c e h n) { sent = s }) sent-none; trace_is = refl; mail_is = refl }

  -- a pair may begin on a port that was chosen for it
  record MayBegin (p : Pair) : Type 0 where
    owned : owns c p.key.port.0 ≡ true
    free : slot_of c.entries p.key ≡ None
    new : machine.IsUnbound (slots_of c.entries) p.endpoint

  lone-row : is_synced c.stage ≡ true → is_lone c.stage ≡ true → (p : Pair) → MayBegin p → WishSteps (row (Add (entry_in state.Live p)) None (Some (happens.Retaken p)))
  lone-row synced lone p may =
      let r : Transition = row (Add (entry_in state.Live p)) None (Some (happens.Retaken p)) in
      act-step (ranges_of c) c.id now (box_at c e h n) (box_at (after c r) e (h ++ []) n) (LoneNew p.key p.endpoint) letters words (noted_by c.id now r.what)
      (synced, lone, may.owned, slots-none c.entries p.key may.free, may.new)
      (λ m i. absurd i, tt)
      (record { up = refl; boot = refl; synced = refl; lone = refl; peer = refl; table = slots-put (entry_in state.Live p) c.entries may.free; sent = sent-none; taken = refl; loading = refl; owned = λ p. refl; wants = refl; named = refl; promised = refl })
      refl
      (λ m. refl)

  propose-row : is_synced c.stage ≡ true → is_lone c.stage ≡ false → (p : Pair) → MayBegin p → WishSteps (proposal p)
  propose-row synced lone p may =
      let r : Transition = proposal p in
      act-step (ranges_of c) c.id now (box_at c e h n) (box_at (after c r) (with_pushed e (rec.Install p)) (h ++ rec.Install p ∷ []) n) (Do (machine.Propose p.key p.endpoint)) letters words []
      (synced, lone, (may.owned, slots-none c.entries p.key may.free, may.new), refl)
      (λ m i. absurd i, tt)
      (record { up = refl; boot = refl; synced = refl; lone = refl; peer = refl; table = slots-put (entry_in (state.Pending false) p) c.entries may.free; sent = map-append machine_record h (rec.Install p ∷ []); taken = refl; loading = refl; owned = λ p. refl; wants = refl; named = refl; promised = refl })
      refl
      (λ m. refl)

  -- a pair that is made alone
  alone-new : is_synced c.stage ≡ true → is_lone c.stage ≡ false → (p : Pair) → MayBegin p → WishSteps (row (Add (entry_in state.Alone p)) None (Some (happens.Alone p)))
  alone-new synced lone p may =
      let r : Transition = row (Add (entry_in state.Alone p)) None (Some (happens.Alone p)) in
      act-step (ranges_of c) c.id now (box_at c e h n) (box_at (after c r) e (h ++ []) n) (Do (machine.MakeAlone p.key p.endpoint)) letters words (noted_by c.id now r.what)
      (synced, lone, (may.owned, slots-none c.entries p.key may.free, may.new), refl)
      (λ m i. absurd i, tt)
      (record { up = refl; boot = refl; synced = refl; lone = refl; peer = refl; table = slots-put (entry_in state.Alone p) c.entries may.free; sent = map-append machine_record h []; taken = refl; loading = refl; owned = λ p. refl; wants = refl; named = refl; promised = refl })
      refl
      (λ m. refl)

  paired-steps : is_synced c.stage ≡ true → is_lone c.stage ≡ false → (apart full : Bool) (p : Pair) → MayBegin p → WishSteps (paired_wish apart full p).row
  paired-steps synced lone true full p may = alone-new synced lone p may
  paired-steps synced lone false true p may = rest-row
  paired-steps synced lone false false p may = propose-row synced lone p may

  -- pushing a Want where none is open is an act of the machine
  want-row : is_synced c.stage ≡ true → is_lone c.stage ≡ false → c.wants ≡ false → WishSteps (row change_of.Want (Some rec.Want) None)
  want-row synced lone none =
      let r : Transition = row change_of.Want (Some rec.Want) None in
      act-step (ranges_of c) c.id now (box_at c e h n) (box_at (after c r) (with_pushed e rec.Want) (h ++ rec.Want ∷ []) n) WantPorts letters words []
      (synced, lone, none) (λ m i. absurd i, tt)
      (record { up = refl; boot = refl; synced = refl; lone = refl; peer = refl; table = λ k. refl; sent = map-append machine_record h (rec.Want ∷ []); taken = refl; loading = refl; owned = λ p. refl; wants = refl; named = refl; promised = refl })
      refl (λ m. refl)

  known-steps : (p : Pair) (s : EntryState) → WishSteps (known_wish p s).row
  known-steps p (state.Pending true) = rest-row
  known-steps p (state.Pending false) = rest-row
  known-steps p state.Doomed = rest-row
  known-steps p state.Live = rest-row
  known-steps p (state.Closing true) = rest-row
  known-steps p (state.Closing false) = rest-row
  known-steps p state.Alone = rest-row
  known-steps p state.Held = rest-row

  paired-stage : (s : Stage) → is_paired s ≡ true → (is_synced s ≡ true) × (is_lone s ≡ false)
  paired-stage Unsynced h = cc
  paired-stage Paired h = (refl, refl)
  paired-stage Lone h = cc

  none-steps : (full : Bool) → WishSteps (wanting_row c full)
  none-steps full = at (may_want c full) refl
    where
      at : (t : Bool) → may_want c full ≡ t → WishSteps (let r : Transition = cond t (row change_of.Want (Some rec.Want) None) quiet in r)
      at true may =
          let one = and_parts (is_paired c.stage) (not c.wants && not full) may in
          let stage = paired-stage c.stage one.0 in
          want-row stage.0 stage.1 (not-true c.wants (and_parts (not c.wants) (not full) one.1).0)
      at false may = rest-row

  -- ports asked for ahead
  ahead-steps : (t full : Bool) → WishSteps (let r : Transition = cond t (wanting_row c full) quiet in r)
  ahead-steps true full = none-steps full
  ahead-steps false full = rest-row

  new-steps : is_synced c.stage ≡ true → (apart full : Bool) (x : Endpoint) → entry_of c.entries x ≡ None → (o : Option Port) → port_for c x ≡ o → WishSteps (new_wish c apart full x o).row
  new-steps synced apart full x none None found = none-steps full
  new-steps synced apart full x none (Some port) found = at (is_lone c.stage) refl
    where
      begins : MayBegin (new_pair x port)
      begins = let says = chosen-says c x port found in record { owned = says.owned; free = says.free; new = is-unbound c.entries x none }

      at : (lone : Bool) → is_lone c.stage ≡ lone → WishSteps (let w : PortRequest = cond lone (wish (want.Port port) (row (Add (entry_in state.Live (new_pair x port))) None (Some (happens.Retaken (new_pair x port))))) (paired_wish apart full (new_pair x port)) in w).row
      at true lone = lone-row synced lone (new_pair x port) begins
      at false lone = paired-steps synced lone apart full (new_pair x port) begins

  by-steps : is_synced c.stage ≡ true → (apart full : Bool) (x : Endpoint) (o : Option Entry) → entry_of c.entries x ≡ o → WishSteps (wish_by c apart full x o).row
  by-steps synced apart full x (Some y) found = known-steps y.pair y.state
  by-steps synced apart full x None found = unknown (is_at_limit c x.address)
    where
      unknown : (t : Bool) → WishSteps (let w : PortRequest = cond t (wish want.HostLimit quiet) (new_wish c apart full x (port_for c x)) in w).row
      unknown true = rest-row
      unknown false = new-steps synced apart full x found (port_for c x) refl

  pub wish-steps : (apart full : Bool) (x : Endpoint) → WishSteps (wish_of c apart full x).row
  wish-steps apart full x = at (is_synced c.stage) refl
    where
      at : (b : Bool) → is_synced c.stage ≡ b → WishSteps (let w : PortRequest = cond b (wish_by c apart full x (entry_of c.entries x)) (wish want.NotNow quiet) in w).row
      at true synced = by-steps synced apart full x (entry_of c.entries x) refl
      at false unsynced = rest-row

  -- ---- an idle pair, a pair that is marked or told, and a pair that is used

  drops : (x : Entry) → is_synced c.stage ≡ true → is_lone c.stage ≡ true → machine.translated (slots_of c.entries x.pair.key) ≡ Some x.pair.endpoint → WishSteps (row (Drop x.pair.key) None (Some (happens.Released x.pair)))
  drops x synced lone there =
      let r : Transition = row (Drop x.pair.key) None (Some (happens.Released x.pair)) in
      act-step (ranges_of c) c.id now (box_at c e h n) (box_at (after c r) e (h ++ []) n) (LoneDrop x.pair.key x.pair.endpoint) letters words (noted_by c.id now r.what)
      (synced, lone, there) (λ m i. absurd i, tt)
      (record { up = refl; boot = refl; synced = refl; lone = refl; peer = refl; table = slots-drop x.pair.key c.entries; sent = sent-none; taken = refl; loading = refl; owned = λ p. refl; wants = refl; named = refl; promised = refl })
      refl (λ m. refl)

  asks : (x : Entry) → is_synced c.stage ≡ true → is_lone c.stage ≡ false → slot_of c.entries x.pair.key ≡ Some x → slots_of c.entries x.pair.key ≡ machine.Live x.pair.endpoint → WishSteps (asking x.pair)
  asks x synced lone found live =
      let r : Transition = asking x.pair in
      act-step (ranges_of c) c.id now (box_at c e h n) (box_at (after c r) (with_pushed e (rec.Ask x.pair.key)) (h ++ rec.Ask x.pair.key ∷ []) n) (Do (machine.Close x.pair.key x.pair.endpoint)) letters words (noted_by c.id now r.what)
      (synced, lone, live, refl) (λ m i. absurd i, tt)
      (record { up = refl; boot = refl; synced = refl; lone = refl; peer = refl; table = slots-turn x.pair.key (state.Closing false) c.entries x found; sent = map-append machine_record h (rec.Ask x.pair.key ∷ []); taken = refl; loading = refl; owned = λ p. refl; wants = refl; named = refl; promised = refl })
      refl (λ m. refl)

  uses : (counts : Bool) (x : Entry) → is_synced c.stage ≡ true → machine.translated (slots_of c.entries x.pair.key) ≡ Some x.pair.endpoint → StepsWith counts (row Keep None (Some (happens.Used x.pair)))
  uses counts x synced there = at (is_lone c.stage) refl
    where
      at : (b : Bool) → is_lone c.stage ≡ b → StepsWith counts (row Keep None (Some (happens.Used x.pair)))
      at true lone =
          act-step (ranges_of c) c.id now (box_at c e h n) (box_at c e (h ++ []) n) (LoneUse x.pair.key x.pair.endpoint counts) letters words (noted_with counts c.id now (Some (happens.Used x.pair)))
          (synced, lone, there) (λ m i. absurd i, tt)
          (record { up = refl; boot = refl; synced = refl; lone = refl; peer = refl; table = λ k. refl; sent = sent-none; taken = refl; loading = refl; owned = λ p. refl; wants = refl; named = refl; promised = refl })
          refl (λ m. refl)
      at false lone =
          act-step (ranges_of c) c.id now (box_at c e h n) (box_at c e (h ++ []) n) (Do (machine.Use x.pair.key x.pair.endpoint counts)) letters words (noted_with counts c.id now (Some (happens.Used x.pair)))
          (synced, lone, there, refl) (λ m i. absurd i, tt)
          (record { up = refl; boot = refl; synced = refl; lone = refl; peer = refl; table = λ k. refl; sent = map-append machine_record h []; taken = refl; loading = refl; owned = λ p. refl; wants = refl; named = refl; promised = refl })
          refl (λ m. refl)

  -- a pair of which the peer has nothing is dropped, by a lone gateway or another
  drops-alone : (x : Entry) → is_synced c.stage ≡ true → slot_of c.entries x.pair.key ≡ Some x → slots_of c.entries x.pair.key ≡ machine.Alone x.pair.endpoint → WishSteps (row (Drop x.pair.key) None (Some (happens.Released x.pair)))
  drops-alone x synced found there = at (is_lone c.stage) refl
    where
      at : (b : Bool) → is_lone c.stage ≡ b → WishSteps (row (Drop x.pair.key) None (Some (happens.Released x.pair)))
      at true lone = drops x synced lone (ap machine.translated there)
      at false lone =
          let r : Transition = row (Drop x.pair.key) None (Some (happens.Released x.pair)) in
          act-step (ranges_of c) c.id now (box_at c e h n) (box_at (after c r) e (h ++ []) n) (Do (machine.DropAlone x.pair.key x.pair.endpoint)) letters words (noted_by c.id now r.what)
          (synced, lone, there, refl) (λ m i. absurd i, tt)
          (record { up = refl; boot = refl; synced = refl; lone = refl; peer = refl; table = slots-drop x.pair.key c.entries; sent = map-append machine_record h []; taken = refl; loading = refl; owned = λ p. refl; wants = refl; named = refl; promised = refl })
          refl (λ m. refl)

  slot : (x : Entry) (s : EntryState) → x.state ≡ s → slot_of c.entries x.pair.key ≡ Some x → slots_of c.entries x.pair.key ≡ slot_in s x.pair.endpoint
  slot x s is found = slots-at c.entries x.pair.key x found ∙ ap (λ (z : EntryState). slot_in z x.pair.endpoint) is

  released-steps : (ask : Bool) (x : Entry) (s : EntryState) → is_synced c.stage ≡ true → x.state ≡ s → slot_of c.entries x.pair.key ≡ Some x → WishSteps (released_row (is_lone c.stage) ask x.pair s)
  released-steps ask x (state.Pending m) synced is found = rest-row
  released-steps ask x state.Doomed synced is found = rest-row
  released-steps ask x state.Live synced is found = at (is_lone c.stage) refl ask
    where
      at : (b : Bool) → is_lone c.stage ≡ b → (ask : Bool) → WishSteps (let r : Transition = cond b (row (Drop x.pair.key) None (Some (happens.Released x.pair))) (cond ask (asking x.pair) quiet) in r)
      at true lone ask = drops x synced lone (ap machine.translated (slot x state.Live is found))
      at false lone true = asks x synced lone found (slot x state.Live is found)
      at false lone false = rest-row
  released-steps ask x (state.Closing m) synced is found = rest-row
  released-steps ask x state.Alone synced is found = drops-alone x synced found (slot x state.Alone is found)
  released-steps ask x state.Held synced is found = at (is_lone c.stage) refl
    where
      at : (b : Bool) → is_lone c.stage ≡ b → WishSteps (let r : Transition = cond b (row (Drop x.pair.key) None (Some (happens.Released x.pair))) quiet in r)
      at true lone = drops x synced lone (ap machine.translated (slot x state.Held is found))
      at false lone = rest-row

  idle-steps : (ask : Bool) (k : Key) → WishSteps (idle_row c ask k)
  idle-steps ask k = at (is_synced c.stage) refl (slot_of c.entries k) refl
    where
      at : (b : Bool) → is_synced c.stage ≡ b → (o : Option Entry) → slot_of c.entries k ≡ o → WishSteps (let r : Transition = cond b (release_row (is_lone c.stage) ask o) quiet in r)
      at true synced None found = rest-row
      at true synced (Some x) found = released-steps ask x x.state synced refl (at-key c.entries k x found)
      at false synced o found = rest-row

  used-steps : (counts : Bool) (x : Entry) (s : EntryState) → is_synced c.stage ≡ true → x.state ≡ s → slot_of c.entries x.pair.key ≡ Some x → StepsWith counts (used_row x.pair s)
  used-steps counts x (state.Pending true) synced is found = uses counts x synced (ap machine.translated (slot x (state.Pending true) is found))
  used-steps counts x (state.Pending false) synced is found = rest-row
  used-steps counts x state.Doomed synced is found = rest-row
  used-steps counts x state.Live synced is found = uses counts x synced (ap machine.translated (slot x state.Live is found))
  used-steps counts x (state.Closing true) synced is found = uses counts x synced (ap machine.translated (slot x (state.Closing true) is found))
  used-steps counts x (state.Closing false) synced is found = rest-row
  used-steps counts x state.Alone synced is found = uses counts x synced (ap machine.translated (slot x state.Alone is found))
  used-steps counts x state.Held synced is found = uses counts x synced (ap machine.translated (slot x state.Held is found))

  carry-steps : (counts : Bool) (k : Key) → StepsWith counts (carry_row c k)
  carry-steps counts k = at (is_synced c.stage) refl (slot_of c.entries k) refl
    where
      at : (b : Bool) → is_synced c.stage ≡ b → (o : Option Entry) → slot_of c.entries k ≡ o → StepsWith counts (let r : Transition = cond b (use_row o) quiet in r)
      at true synced None found = rest-row
      at true synced (Some x) found = used-steps counts x x.state synced refl (at-key c.entries k x found)
      at false synced o found = rest-row

  -- a pair is marked: it goes on though an answer is awaited
  marks : (x : Entry) (s : EntryState) → is_synced c.stage ≡ true → is_lone c.stage ≡ false → slot_of c.entries x.pair.key ≡ Some x
      → ((slots_of c.entries x.pair.key ≡ machine.Pending false x.pair.endpoint) ⊎ (slots_of c.entries x.pair.key ≡ machine.Closing false x.pair.endpoint))
      → slot_in s x.pair.endpoint ≡ machine.mark (slots_of c.entries x.pair.key)
      → (ended : Option Endpoint) → WishSteps (record (row (Turn x.pair.key s) None (Some (happens.Alone x.pair))) { ended = ended })
  marks x s synced lone found there marked ended =
      let r : Transition = row (Turn x.pair.key s) None (Some (happens.Alone x.pair)) in
      act-step (ranges_of c) c.id now (box_at c e h n) (box_at (after c r) e (h ++ []) n) (Do (machine.Mark x.pair.key x.pair.endpoint)) letters words (noted_by c.id now r.what)
      (synced, lone, there, refl) (λ m i. absurd i, tt)
      (record { up = refl; boot = refl; synced = refl; lone = refl; peer = refl; table = λ q. slots-turn x.pair.key s c.entries x found q ∙ ap (λ (z : machine.Slot). machine.set_at (slots_of c.entries) x.pair.key z q) marked; sent = map-append machine_record h []; taken = refl; loading = refl; owned = λ p. refl; wants = refl; named = refl; promised = refl })
      refl (λ m. refl)

  -- the peer is told of a pair
  tells : (x : Entry) → is_synced c.stage ≡ true → is_lone c.stage ≡ false → slot_of c.entries x.pair.key ≡ Some x → slots_of c.entries x.pair.key ≡ machine.Alone x.pair.endpoint → WishSteps (row (Turn x.pair.key (state.Pending true)) (Some (rec.Tell x.pair)) None)
  tells x synced lone found there =
      let r : Transition = row (Turn x.pair.key (state.Pending true)) (Some (rec.Tell x.pair)) None in
      act-step (ranges_of c) c.id now (box_at c e h n) (box_at (after c r) (with_pushed e (rec.Tell x.pair)) (h ++ rec.Tell x.pair ∷ []) n) (Do (machine.Report x.pair.key x.pair.endpoint)) letters words []
      (synced, lone, there, refl) (λ m i. absurd i, tt)
      (record { up = refl; boot = refl; synced = refl; lone = refl; peer = refl; table = slots-turn x.pair.key (state.Pending true) c.entries x found; sent = map-append machine_record h (rec.Tell x.pair ∷ []); taken = refl; loading = refl; owned = λ p. refl; wants = refl; named = refl; promised = refl })
      refl (λ m. refl)

  marked-steps : (x : Entry) (s : EntryState) → is_synced c.stage ≡ true → is_lone c.stage ≡ false → x.state ≡ s → slot_of c.entries x.pair.key ≡ Some x → WishSteps (marked_row x.pair s)
  marked-steps x (state.Pending true) synced lone is found = rest-row
  marked-steps x (state.Pending false) synced lone is found =
      let there = slot x (state.Pending false) is found in marks x (state.Pending true) synced lone found (inl there) (sym (ap machine.mark there)) (Some x.pair.endpoint)
  marked-steps x state.Doomed synced lone is found = rest-row
  marked-steps x state.Live synced lone is found = rest-row
  marked-steps x (state.Closing true) synced lone is found = rest-row
  marked-steps x (state.Closing false) synced lone is found =
      let there = slot x (state.Closing false) is found in marks x (state.Closing true) synced lone found (inr there) (sym (ap machine.mark there)) None
  marked-steps x state.Alone synced lone is found = rest-row
  marked-steps x state.Held synced lone is found = rest-row

  telling-steps : (full : Bool) (x : Entry) (s : EntryState) → is_synced c.stage ≡ true → is_lone c.stage ≡ false → x.state ≡ s → slot_of c.entries x.pair.key ≡ Some x → WishSteps (telling_row full x.pair s)
  telling-steps full x (state.Pending m) synced lone is found = rest-row
  telling-steps full x state.Doomed synced lone is found = rest-row
  telling-steps full x state.Live synced lone is found = rest-row
  telling-steps full x (state.Closing m) synced lone is found = rest-row
  telling-steps true x state.Alone synced lone is found = rest-row
  telling-steps false x state.Alone synced lone is found = tells x synced lone found (slot x state.Alone is found)
  telling-steps full x state.Held synced lone is found = rest-row

  alone-steps : (apart full : Bool) (k : Key) → WishSteps (alone_row c apart full k)
  alone-steps apart full k = at (is_paired c.stage) refl apart (slot_of c.entries k) refl
    where
      at : (b : Bool) → is_paired c.stage ≡ b → (apart : Bool) (o : Option Entry) → slot_of c.entries k ≡ o → WishSteps (let r : Transition = cond b (sought_row apart full o) quiet in r)
      at true paired apart None found = rest-row
      at true paired true (Some x) found = let parts = paired-stage c.stage paired in marked-steps x x.state parts.0 parts.1 refl (at-key c.entries k x found)
      at true paired false (Some x) found = let parts = paired-stage c.stage paired in telling-steps full x x.state parts.0 parts.1 refl (at-key c.entries k x found)
      at false paired apart o found = rest-row

row-works : (counts : Bool) (now : ℕ) (b : Book) (e : Link) (n : ℕ) (h : List Record) (r : Transition) → Stands b e h → StepsWith now b e h n [] [] counts r → Works now [] [] b e n (after b r) (answered e r.answer) n (noted_with counts b.id now r.what) h
row-works counts now b e n h r stands step =
    let keeps = changed-keeps r.change b in
    record { house = keeps.house; history = h ++ pushed_by r.answer; agrees = stands-answer b (after b r) e h r.answer keeps stands; step = step }

pub wish-works : (now : ℕ) (b : Book) (e : Link) (n : ℕ) (h : List Record) (apart full : Bool) (x : Endpoint) → Stands b e h → Works now [] [] b e n (after b (wish_of b apart full x).row) (answered e (wish_of b apart full x).row.answer) n (noted_by b.id now (wish_of b apart full x).row.what) h
wish-works now b e n h apart full x stands = row-works true now b e n h (wish_of b apart full x).row stands (wish-steps now b e h n [] [] apart full x)

pub idle-works : (now : ℕ) (b : Book) (e : Link) (n : ℕ) (h : List Record) (ask : Bool) (k : Key) → Stands b e h → Works now [] [] b e n (after b (idle_row b ask k)) (answered e (idle_row b ask k).answer) n (noted_by b.id now (idle_row b ask k).what) h
idle-works now b e n h ask k stands = row-works true now b e n h (idle_row b ask k) stands (idle-steps now b e h n [] [] ask k)

pub carry-works : (now : ℕ) (b : Book) (e : Link) (n : ℕ) (h : List Record) (counts : Bool) (k : Key) → Stands b e h → Works now [] [] b e n (after b (carry_row b k)) (answered e (carry_row b k).answer) n (noted_with counts b.id now (carry_row b k).what) h
carry-works now b e n h counts k stands = row-works counts now b e n h (carry_row b k) stands (carry-steps now b e h n [] [] counts k)

pub alone-works : (now : ℕ) (b : Book) (e : Link) (n : ℕ) (h : List Record) (apart full : Bool) (k : Key) → Stands b e h → Works now [] [] b e n (after b (alone_row b apart full k)) (answered e (alone_row b apart full k).answer) n (noted_by b.id now (alone_row b apart full k).what) h
alone-works now b e n h apart full k stands = row-works true now b e n h (alone_row b apart full k) stands (alone-steps now b e h n [] [] apart full k)

-- ---- ports asked for ahead

wanting-silent : (b : Book) (full : Bool) → ((wanting_row b full).what ≡ None) × ((wanting_row b full).ended ≡ None)
wanting-silent b full = at (may_want b full)
  where
    at : (t : Bool) → let r : Transition = cond t (row change_of.Want (Some rec.Want) None) quiet in (r.what ≡ None) × (r.ended ≡ None)
    at true = (refl, refl)
    at false = (refl, refl)

pub ahead-silent : (b : Book) (full : Bool) (ch : Change) → ((ahead_row b full ch).what ≡ None) × ((ahead_row b full ch).ended ≡ None)
ahead-silent b full ch = at (is_cause b ch && is_short_after (changed ch b) ch)
  where
    at : (t : Bool) → let r : Transition = cond t (wanting_row (changed ch b) full) quiet in (r.what ≡ None) × (r.ended ≡ None)
    at true = wanting-silent (changed ch b) full
    at false = (refl, refl)

pub ahead-works : (now : ℕ) (b : Book) (e : Link) (n : ℕ) (h : List Record) (full : Bool) (ch : Change) → Stands (changed ch b) e h → Works now [] [] (changed ch b) e n (after (changed ch b) (ahead_row b full ch)) (answered e (ahead_row b full ch).answer) n [] h
ahead-works now b e n h full ch stands =
    let c : Book = changed ch b in
    let r : Transition = ahead_row b full ch in
    subst (λ (o : Option NoteKind). Works now [] [] c e n (after c r) (answered e r.answer) n (noted_with true c.id now o) h)
    (ahead-silent b full ch).0
    (row-works true now c e n h r stands (ahead-steps now c e h n [] [] (is_cause b ch && is_short_after c ch) full))
