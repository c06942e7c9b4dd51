-- Each row, and each other change, leaves a ledger that accounts for the trace.
use Rattle.std.proofs.Common.{◌≡◌, ℕ, zero, suc, nat_lt, Bool, true, false, cond, Option, Some, None, inl, inr, List, [], ◌∷◌, ◌++◌, reverse, refl, sym, ap, subst, ◌∙◌}
use Rattle.std.specs.List.{insert}
use Rattle.std.proofs.lemmas.Bool.{both_ways, cond-false, false_from_ne_true, or_cases}
use Rattle.addresses.specs.declared.transport.Port.{Port}
use Rattle.nat_types.specs.Same.{same_key}
use Rattle.nat_types.proofs.Offered.{key-eq}
use Rattle.nat_types.specs.Granted.{Granted}
use Rattle.nat_types.specs.declared.gateways.GatewayId.{GatewayId}
use Rattle.nat_types.specs.declared.notes.NoteKind.TheVariants as happens
use Rattle.nat_types.specs.declared.notes.Note.{Note}
use Rattle.nat_types.specs.declared.pairs.EntryState.{EntryState}
use Rattle.nat_types.specs.declared.pairs.EntryState.TheVariants as state
use Rattle.nat_types.specs.declared.pairs.Endpoint.{Endpoint}
use Rattle.nat_types.specs.declared.pairs.Key.{Key}
use Rattle.nat_types.specs.declared.pairs.Pair.{Pair}
use Rattle.nat_types.specs.declared.records.Record.{Record}
use Rattle.nat_types.specs.declared.records.Record.TheVariants as rec
use Rattle.activity.specs.Lives.{Activity, life_begun, life_renewed}
use Rattle.activity.specs.Rests.{HaveRested}
use Rattle.activity.specs.Lives.{least_rest}
use Rattle.bindings.specs.declared.entries.Entry.{Entry}
use Rattle.bindings.specs.Entries.{has_key, slot_of, entry_of, entry_in, place_of, translates}
use Rattle.bindings.specs.Lists.{place_in, put_in, with_state, without}
use Rattle.bindings.specs.Lives.{is_unused_at, lives_with, rests_at}
use Rattle.bindings.proofs.Offered.{slot-with_state, entry-slot, slot-key}
use Rattle.spec_trace.specs.Past.{Idle}
use Rattle.spec_binding.specs.declared.changes.Change.TheVariants.{Add, Drop, Yield, Gain}
use Rattle.spec_binding.specs.declared.changes.Change.TheVariants as change_of
use Rattle.spec_binding.specs.declared.changes.Transition.{Transition}
use Rattle.spec_binding.specs.declared.changes.PortRequest.{PortRequest}
use Rattle.spec_binding.specs.declared.changes.Want.TheVariants as want
use Rattle.spec_binding.specs.Books.{Book, IsBook, is_lone, is_paired, is_promised, is_synced}
use Rattle.spec_binding.specs.Ledgers.{Ledger, lives_after, rests_for}
use Rattle.spec_binding.specs.Rows.{accept_row, accepted_row, alone_row, answering, is_takeable, marked_row, paired_wish, sought_row, taking, telling_row, told_row, ask_row, asked_row, ending, gives_way, grant_row, idle_row, install_row, is_at_limit, known_wish, left_row, may_want, new_pair, new_wish, no_row, noted_by, numbers_of, port_for, proposed_row, quiet, refuse_row, refused_row, release_row, released_row, row, row_of, stayed_row, synced_row, wish, wish_by, wish_of, yes_row}
use Rattle.spec_binding.specs.Uses.{Accounts, KnowUses, uses_of}
use Rattle.spec_binding.proofs.Accounting.{Stays, idle-by, rested-idle, rested-unused, stays-quiet}
use Rattle.spec_binding.proofs.Knowing.{know-add, know-again, know-as, know-drop, know-turn}
use Rattle.spec_binding.proofs.Members.{gained-is}
use Rattle.spec_binding.proofs.Taking.{takes}
use Rattle.spec_binding.proofs.Wishing.{at-key, chosen-says}

-- the place of a pair in the table doesn't depend on states
pub turned-place : (p : Pair) (q : Key) (s : EntryState) (es : List Entry) → place_in p (with_state q s es) ≡ place_in p es
turned-place p q s [] = refl
turned-place p q s (x ∷ xs) = at (has_key q x) (turned-place p q s xs)
  where
    at : (b : Bool) → place_in p (with_state q s xs) ≡ place_in p xs
        → place_in p ((let y : Entry = cond b (entry_in s x.pair) x in y) ∷ with_state q s xs) ≡ place_in p (x ∷ xs)
    at true rest = ap (λ (n : ℕ). cond (nat_lt (place_of p) (place_of x.pair)) zero (suc n)) rest
    at false rest = ap (λ (n : ℕ). cond (nat_lt (place_of p) (place_of x.pair)) zero (suc n)) rest

module _ (now : ℕ) (l : Ledger) (h : List Note) (is : IsBook l.book) (a : Accounts now l h) where
  noted-retaken : (es : List Entry) (ls : List Activity) (p : Pair) → KnowUses now es ls (uses_of l.book.id h) → KnowUses now es ls (uses_of l.book.id (reverse (noted_by l.book.id now (Some (happens.Retaken p))) ++ h))
  noted-retaken es ls p w = know-as now es ls (uses_of l.book.id h) (uses_of l.book.id (reverse (noted_by l.book.id now (Some (happens.Retaken p))) ++ h)) (λ q. refl) w

  noted-released : (es : List Entry) (ls : List Activity) (p : Pair) → KnowUses now es ls (uses_of l.book.id h) → KnowUses now es ls (uses_of l.book.id (reverse (noted_by l.book.id now (Some (happens.Released p))) ++ h))
  noted-released es ls p w = know-as now es ls (uses_of l.book.id h) (uses_of l.book.id (reverse (noted_by l.book.id now (Some (happens.Released p))) ++ h)) (λ q. refl) w

  noted-alone : (es : List Entry) (ls : List Activity) (p : Pair) → KnowUses now es ls (uses_of l.book.id h) → KnowUses now es ls (uses_of l.book.id (reverse (noted_by l.book.id now (Some (happens.Alone p))) ++ h))
  noted-alone es ls p w = know-as now es ls (uses_of l.book.id h) (uses_of l.book.id (reverse (noted_by l.book.id now (Some (happens.Alone p))) ++ h)) (λ q. refl) w

  -- an entry that goes on to translate in another state
  turned-uses : (x : Entry) (s : EntryState) → slot_of l.book.entries x.pair.key ≡ Some x → translates s ≡ true → KnowUses now (with_state x.pair.key s l.book.entries) l.lives (uses_of l.book.id h)
  turned-uses x s found live = know-turn now l.book.entries l.lives (uses_of l.book.id h) x.pair.key x s found (λ t stops. absurd (both_ways (translates s) stops live)) a.uses

  released-idle : (p : Pair) → HaveRested (least_rest p.key.protocol) now (uses_of l.book.id h p) → Idle (reverse (noted_by l.book.id now (Some (happens.Released p))) ++ h)
  released-idle p rested = (idle-by l.book.id p now h rested, a.idle)

  -- a pair that rests may be removed
  dropped-stays : (x : Entry) → slot_of l.book.entries x.pair.key ≡ Some x → HaveRested (least_rest x.pair.key.protocol) now (uses_of l.book.id h x.pair) → (answer : Option Record) → Stays now l h (row (Drop x.pair.key) answer (Some (happens.Released x.pair)))
  dropped-stays x found rested answer = record {
    uses = noted-released (without x.pair.key l.book.entries) (lives_after now (Drop x.pair.key) l.book.entries l.lives) x.pair (know-drop now l.book.entries l.lives (uses_of l.book.id h) x.pair.key x is.keys found (λ t. rested) a.uses);
    idle = released-idle x.pair rested;
  }

  -- where an entry that doesn't translate is removed, the uses are still known
  gone-uses : (x : Entry) → slot_of l.book.entries x.pair.key ≡ Some x → translates x.state ≡ false → KnowUses now (without x.pair.key l.book.entries) (lives_after now (Drop x.pair.key) l.book.entries l.lives) (uses_of l.book.id h)
  gone-uses x found off = know-drop now l.book.entries l.lives (uses_of l.book.id h) x.pair.key x is.keys found (λ t. absurd (both_ways (translates x.state) off t)) a.uses

  accepted-stays : (x : Entry) (s : EntryState) → x.state ≡ s → slot_of l.book.entries x.pair.key ≡ Some x → Stays now l h (accepted_row x.pair s)
  accepted-stays x (state.Pending true) at found = record {
    uses = noted-retaken (with_state x.pair.key state.Live l.book.entries) l.lives x.pair (know-turn now l.book.entries l.lives (uses_of l.book.id h) x.pair.key x state.Live found (λ t stops. absurd (cc)) a.uses);
    idle = (tt, a.idle);
  }
  accepted-stays x (state.Pending false) at found = record {
    uses = noted-retaken (with_state x.pair.key state.Live l.book.entries) l.lives x.pair (know-turn now l.book.entries l.lives (uses_of l.book.id h) x.pair.key x state.Live found (λ t stops. absurd (cc)) a.uses);
    idle = (tt, a.idle);
  }
  accepted-stays x state.Doomed at found = stays-quiet now l h a
  accepted-stays x state.Live at found = stays-quiet now l h a
  accepted-stays x (state.Closing m) at found = stays-quiet now l h a
  accepted-stays x state.Alone at found = stays-quiet now l h a
  accepted-stays x state.Held at found = stays-quiet now l h a

  refused-stays : (x : Entry) (s : EntryState) → x.state ≡ s → slot_of l.book.entries x.pair.key ≡ Some x → Stays now l h (refused_row x.pair s)
  refused-stays x (state.Pending true) at found = record { uses = turned-uses x state.Alone found refl; idle = a.idle }
  refused-stays x (state.Pending false) at found = record { uses = gone-uses x found (ap translates at); idle = a.idle }
  refused-stays x state.Doomed at found = record { uses = gone-uses x found (ap translates at); idle = a.idle }
  refused-stays x state.Live at found = stays-quiet now l h a
  refused-stays x (state.Closing m) at found = stays-quiet now l h a
  refused-stays x state.Alone at found = stays-quiet now l h a
  refused-stays x state.Held at found = stays-quiet now l h a

  asked-stays : (x : Entry) (rests : Bool) (s : EntryState) → x.state ≡ s → slot_of l.book.entries x.pair.key ≡ Some x → (rests ≡ true → HaveRested (least_rest x.pair.key.protocol) now (uses_of l.book.id h x.pair)) → Stays now l h (asked_row x.pair rests s)
  asked-stays x rests (state.Pending m) at found rested = record { uses = a.uses; idle = a.idle }
  asked-stays x rests state.Doomed at found rested = record { uses = a.uses; idle = a.idle }
  asked-stays x rests state.Live at found rested = record { uses = a.uses; idle = a.idle }
  asked-stays x rests (state.Closing m) at found rested = record { uses = a.uses; idle = a.idle }
  asked-stays x rests state.Alone at found rested = record { uses = a.uses; idle = a.idle }
  asked-stays x true state.Held at found rested = dropped-stays x found (rested refl) (Some (rec.Yes x.pair.key))
  asked-stays x false state.Held at found rested = record { uses = a.uses; idle = a.idle }

  left-stays : (x : Entry) (s : EntryState) → x.state ≡ s → slot_of l.book.entries x.pair.key ≡ Some x → Stays now l h (left_row x.pair s)
  left-stays x (state.Pending m) at found = stays-quiet now l h a
  left-stays x state.Doomed at found = stays-quiet now l h a
  left-stays x state.Live at found = stays-quiet now l h a
  left-stays x (state.Closing true) at found = record { uses = turned-uses x state.Alone found refl; idle = a.idle }
  left-stays x (state.Closing false) at found = record { uses = gone-uses x found (ap translates at); idle = a.idle }
  left-stays x state.Alone at found = stays-quiet now l h a
  left-stays x state.Held at found = stays-quiet now l h a

  stayed-stays : (x : Entry) (s : EntryState) → x.state ≡ s → slot_of l.book.entries x.pair.key ≡ Some x → Stays now l h (stayed_row x.pair s)
  stayed-stays x (state.Pending m) at found = stays-quiet now l h a
  stayed-stays x state.Doomed at found = stays-quiet now l h a
  stayed-stays x state.Live at found = stays-quiet now l h a
  stayed-stays x (state.Closing m) at found =
      let relived = lives_with (life_renewed now) x.pair.key l.book.entries l.lives in
      let anew : KnowUses now l.book.entries relived (uses_of l.book.id h) = know-again now l.book.entries l.lives (uses_of l.book.id h) x.pair.key x found a.uses in
      record {
        uses = noted-retaken (with_state x.pair.key state.Live l.book.entries) relived x.pair (know-turn now l.book.entries relived (uses_of l.book.id h) x.pair.key x state.Live found (λ t stops. absurd (cc)) anew);
        idle = (tt, a.idle);
      }
  stayed-stays x state.Alone at found = stays-quiet now l h a
  stayed-stays x state.Held at found = stays-quiet now l h a

  -- where an entry is added, the uses are still known
  added-uses : (s : EntryState) (p : Pair) (by_install : Bool) → slot_of l.book.entries p.key ≡ None → KnowUses now (put_in (entry_in s p) l.book.entries) (insert l.lives (place_in p l.book.entries) (life_begun by_install now)) (uses_of l.book.id h)
  added-uses s p by_install free = know-add now l.book.entries l.lives (uses_of l.book.id h) (entry_in s p) by_install free a.uses

  yielded-uses : (p : Pair) (x : Entry) → slot_of l.book.entries x.pair.key ≡ Some x → translates x.state ≡ false → slot_of l.book.entries p.key ≡ None
      → KnowUses now (put_in (entry_in state.Held p) (with_state x.pair.key state.Doomed l.book.entries)) (insert l.lives (place_in p l.book.entries) (life_begun true now)) (uses_of l.book.id h)
  yielded-uses p x found off free =
      subst (λ (n : ℕ). KnowUses now (put_in (entry_in state.Held p) (with_state x.pair.key state.Doomed l.book.entries)) (insert l.lives n (life_begun true now)) (uses_of l.book.id h)) (turned-place p x.pair.key state.Doomed l.book.entries)
      (know-add now (with_state x.pair.key state.Doomed l.book.entries) l.lives (uses_of l.book.id h) (entry_in state.Held p) true vacant
      (know-turn now l.book.entries l.lives (uses_of l.book.id h) x.pair.key x state.Doomed found (λ t stops. absurd (both_ways (translates x.state) off t)) a.uses))
    where
      vacant : slot_of (with_state x.pair.key state.Doomed l.book.entries) p.key ≡ None
      vacant =
          slot-with_state x.pair.key state.Doomed l.book.entries x p.key found
          ∙ cond-false (same_key x.pair.key p.key) (Some (entry_in state.Doomed x.pair)) (slot_of l.book.entries p.key)
          (false_from_ne_true (same_key x.pair.key p.key) (λ same. let clash : slot_of l.book.entries p.key ≡ Some x = ap (slot_of l.book.entries) (sym (key-eq x.pair.key p.key same)) ∙ found in cc))
          ∙ free

  ways : (i : GatewayId) (s : EntryState) → gives_way i s ≡ true → translates s ≡ false
  ways i (state.Pending true) g = cc
  ways i (state.Pending false) g = refl
  ways i state.Doomed g = cc
  ways i state.Live g = cc
  ways i (state.Closing m) g = cc
  ways i state.Alone g = cc
  ways i state.Held g = cc

  taking-stays : (p : Pair) → slot_of l.book.entries p.key ≡ None → Stays now l h (taking p)
  taking-stays p free = record {
    uses = noted-retaken (put_in (entry_in state.Held p) l.book.entries) (insert l.lives (place_in p l.book.entries) (life_begun true now)) p (added-uses state.Held p true free);
    idle = (tt, a.idle);
  }

  proposed-stays : (p : Pair) (o : Option Entry) → entry_of l.book.entries p.endpoint ≡ o → slot_of l.book.entries p.key ≡ None → Stays now l h (proposed_row l.book p o)
  proposed-stays p None none free = taking-stays p free
  proposed-stays p (Some x) there free = at (gives_way l.book.id x.state) refl
    where
      at : (t : Bool) → gives_way l.book.id x.state ≡ t → Stays now l h (let r : Transition = cond t (ending p.endpoint (row (Yield x.pair.key p) (Some (rec.Accept p.key)) (Some (happens.Retaken p)))) (answering (rec.Refuse p.key)) in r)
      at true g = record {
        uses = noted-retaken (put_in (entry_in state.Held p) (with_state x.pair.key state.Doomed l.book.entries)) (insert l.lives (place_in p l.book.entries) (life_begun true now)) p
            (yielded-uses p x (entry-slot l.book.entries p.endpoint x is.keys there) (ways l.book.id x.state g) free);
        idle = (tt, a.idle);
      }
      at false g = record { uses = a.uses; idle = a.idle }

  install-stays : (p : Pair) → Stays now l h (install_row l.book p)
  install-stays p = at (is_takeable l.book p) refl
    where
      at : (t : Bool) → is_takeable l.book p ≡ t → Stays now l h (let r : Transition = cond t (proposed_row l.book p (entry_of l.book.entries p.endpoint)) (answering (rec.Refuse p.key)) in r)
      at true g = proposed-stays p (entry_of l.book.entries p.endpoint) refl (takes l.book p g).free
      at false g = record { uses = a.uses; idle = a.idle }

  told-stays : (p : Pair) → Stays now l h (told_row l.book p)
  told-stays p = at (is_takeable l.book p) refl
    where
      at : (t : Bool) → is_takeable l.book p ≡ t → Stays now l h (let r : Transition = cond t (taking p) (answering (rec.Refuse p.key)) in r)
      at true g = taking-stays p (takes l.book p g).free
      at false g = record { uses = a.uses; idle = a.idle }

  grant-stays : (g : Granted) → Stays now l h (grant_row l.book g)
  grant-stays g = at l.book.wants
    where
      at : (t : Bool) → Stays now l h (let r : Transition = cond t (row (Gain g) None None) quiet in r)
      at true = record {
        uses = subst (λ (es : List Entry). KnowUses now es l.lives (uses_of l.book.id h)) (sym (ap (λ (z : Book). z.entries) (gained-is l.book (numbers_of g)))) a.uses;
        idle = a.idle;
      }
      at false = stays-quiet now l h a

  rests-rested : (k : Key) (x : Entry) → slot_of l.book.entries k ≡ Some x → rests_for now l (rec.Ask k) ≡ true → HaveRested (least_rest x.pair.key.protocol) now (uses_of l.book.id h x.pair)
  rests-rested k x found rests =
      subst (λ (z : Key). HaveRested (least_rest z.protocol) now (uses_of l.book.id h x.pair)) (sym (slot-key l.book.entries k x found))
      (elim (or_cases (rests_at l.book.entries l.lives k now) (is_unused_at l.book.entries l.lives k) rests) [
        | inl idle ↦ rested-idle now l.book.entries l.lives k (uses_of l.book.id h x.pair) (a.uses.known k x found) idle
        | inr unused ↦ rested-unused now l.book.entries l.lives k (uses_of l.book.id h x.pair) (a.uses.known k x found) unused
      ])

  synced-stays : (r : Record) → Stays now l h (synced_row l.book (rests_for now l r) r)
  synced-stays (rec.Install p) = install-stays p
  synced-stays (rec.Accept k) = at (slot_of l.book.entries k) refl
    where
      at : (o : Option Entry) → slot_of l.book.entries k ≡ o → Stays now l h (accept_row o)
      at None there = stays-quiet now l h a
      at (Some x) there = accepted-stays x x.state refl (at-key l.book.entries k x there)
  synced-stays (rec.Refuse k) = at (slot_of l.book.entries k) refl
    where
      at : (o : Option Entry) → slot_of l.book.entries k ≡ o → Stays now l h (refuse_row o)
      at None there = stays-quiet now l h a
      at (Some x) there = refused-stays x x.state refl (at-key l.book.entries k x there)
  synced-stays (rec.Ask k) = at (slot_of l.book.entries k) refl
    where
      at : (o : Option Entry) → slot_of l.book.entries k ≡ o → Stays now l h (ask_row k (rests_for now l (rec.Ask k)) o)
      at None there = record { uses = a.uses; idle = a.idle }
      at (Some x) there = asked-stays x (rests_for now l (rec.Ask k)) x.state refl (at-key l.book.entries k x there) (rests-rested k x there)
  synced-stays (rec.Yes k) = at (slot_of l.book.entries k) refl
    where
      at : (o : Option Entry) → slot_of l.book.entries k ≡ o → Stays now l h (yes_row o)
      at None there = stays-quiet now l h a
      at (Some x) there = left-stays x x.state refl (at-key l.book.entries k x there)
  synced-stays (rec.No k) = at (slot_of l.book.entries k) refl
    where
      at : (o : Option Entry) → slot_of l.book.entries k ≡ o → Stays now l h (no_row o)
      at None there = stays-quiet now l h a
      at (Some x) there = stayed-stays x x.state refl (at-key l.book.entries k x there)
  synced-stays rec.Begin = stays-quiet now l h a
  synced-stays (rec.Put p) = stays-quiet now l h a
  synced-stays rec.Done = stays-quiet now l h a
  synced-stays rec.Want = record { uses = a.uses; idle = a.idle }
  synced-stays (rec.Grant g) = grant-stays g
  synced-stays (rec.Owner first last) = stays-quiet now l h a
  synced-stays (rec.Tell p) = told-stays p

  pub row-stays : (r : Record) → Stays now l h (row_of l.book (rests_for now l r) r)
  row-stays r = at (is_promised l.book)
    where
      at : (t : Bool) → Stays now l h (let w : Transition = cond t quiet (synced_row l.book (rests_for now l r) r) in w)
      at true = stays-quiet now l h a
      at false = synced-stays r

  -- ---- idle pairs

  released-stays : (lone ask : Bool) (x : Entry) (s : EntryState) → x.state ≡ s → slot_of l.book.entries x.pair.key ≡ Some x → HaveRested (least_rest x.pair.key.protocol) now (uses_of l.book.id h x.pair) → Stays now l h (released_row lone ask x.pair s)
  released-stays lone ask x (state.Pending m) at found rested = stays-quiet now l h a
  released-stays lone ask x state.Doomed at found rested = stays-quiet now l h a
  released-stays true ask x state.Live at found rested = dropped-stays x found rested None
  released-stays false true x state.Live at found rested = record {
    uses = noted-released (with_state x.pair.key (state.Closing false) l.book.entries) l.lives x.pair (know-turn now l.book.entries l.lives (uses_of l.book.id h) x.pair.key x (state.Closing false) found (λ t stops. rested) a.uses);
    idle = released-idle x.pair rested;
  }
  released-stays false false x state.Live at found rested = stays-quiet now l h a
  released-stays lone ask x (state.Closing m) at found rested = stays-quiet now l h a
  released-stays lone ask x state.Alone at found rested = dropped-stays x found rested None
  released-stays true ask x state.Held at found rested = dropped-stays x found rested None
  released-stays false ask x state.Held at found rested = stays-quiet now l h a

  pub idle-stays : (ask : Bool) (k : Key) → ((x : Entry) → slot_of l.book.entries k ≡ Some x → HaveRested (least_rest k.protocol) now (uses_of l.book.id h x.pair)) → Stays now l h (idle_row l.book ask k)
  idle-stays ask k rested = at (is_synced l.book.stage) (slot_of l.book.entries k) refl
    where
      at : (t : Bool) (o : Option Entry) → slot_of l.book.entries k ≡ o → Stays now l h (let r : Transition = cond t (release_row (is_lone l.book.stage) ask o) quiet in r)
      at false o there = stays-quiet now l h a
      at true None there = stays-quiet now l h a
      at true (Some x) there =
          released-stays (is_lone l.book.stage) ask x x.state refl (at-key l.book.entries k x there)
          (subst (λ (z : Key). HaveRested (least_rest z.protocol) now (uses_of l.book.id h x.pair)) (sym (slot-key l.book.entries k x there)) (rested x there))

  -- ---- wishes

  known-stays : (p : Pair) (s : EntryState) → Stays now l h (known_wish p s).row
  known-stays p (state.Pending true) = stays-quiet now l h a
  known-stays p (state.Pending false) = stays-quiet now l h a
  known-stays p state.Doomed = stays-quiet now l h a
  known-stays p state.Live = stays-quiet now l h a
  known-stays p (state.Closing true) = stays-quiet now l h a
  known-stays p (state.Closing false) = stays-quiet now l h a
  known-stays p state.Alone = stays-quiet now l h a
  known-stays p state.Held = stays-quiet now l h a

  paired-stays : (apart full : Bool) (p : Pair) → slot_of l.book.entries p.key ≡ None → Stays now l h (paired_wish apart full p).row
  paired-stays true full p free = record {
    uses = noted-alone (put_in (entry_in state.Alone p) l.book.entries) (insert l.lives (place_in p l.book.entries) (life_begun false now)) p (added-uses state.Alone p false free);
    idle = (tt, a.idle);
  }
  paired-stays false true p free = stays-quiet now l h a
  paired-stays false false p free = record { uses = added-uses (state.Pending false) p false free; idle = a.idle }

  new-stays : (apart full : Bool) (e : Endpoint) (o : Option Port) → port_for l.book e ≡ o → Stays now l h (new_wish l.book apart full e o).row
  new-stays apart full e None there = at (may_want l.book full)
    where
      at : (t : Bool) → Stays now l h (let r : Transition = cond t (row change_of.Want (Some rec.Want) None) quiet in r)
      at true = record { uses = a.uses; idle = a.idle }
      at false = stays-quiet now l h a
  new-stays apart full e (Some port) there = at (is_lone l.book.stage)
    where
      free : slot_of l.book.entries (new_pair e port).key ≡ None
      free = (chosen-says l.book e port there).free

      at : (lone : Bool) → Stays now l h (let w : PortRequest = cond lone (wish (want.Port port) (row (Add (entry_in state.Live (new_pair e port))) None (Some (happens.Retaken (new_pair e port))))) (paired_wish apart full (new_pair e port)) in w).row
      at true = record {
        uses = noted-retaken (put_in (entry_in state.Live (new_pair e port)) l.book.entries) (insert l.lives (place_in (new_pair e port) l.book.entries) (life_begun false now)) (new_pair e port) (added-uses state.Live (new_pair e port) false free);
        idle = (tt, a.idle);
      }
      at false = paired-stays apart full (new_pair e port) free

  pub wish-stays : (apart full : Bool) (e : Endpoint) → Stays now l h (wish_of l.book apart full e).row
  wish-stays apart full e = at (is_synced l.book.stage) (entry_of l.book.entries e)
    where
      unknown : (t : Bool) → Stays now l h (let w : PortRequest = cond t (wish want.HostLimit quiet) (new_wish l.book apart full e (port_for l.book e)) in w).row
      unknown true = stays-quiet now l h a
      unknown false = new-stays apart full e (port_for l.book e) refl

      at : (t : Bool) (o : Option Entry) → Stays now l h (let w : PortRequest = cond t (wish_by l.book apart full e o) (wish want.NotNow quiet) in w).row
      at true (Some x) = known-stays x.pair x.state
      at true None = unknown (is_at_limit l.book e.address)
      at false o = stays-quiet now l h a

  -- ---- going on alone

  marked-stays : (x : Entry) (s : EntryState) → slot_of l.book.entries x.pair.key ≡ Some x → Stays now l h (marked_row x.pair s)
  marked-stays x (state.Pending true) found = stays-quiet now l h a
  marked-stays x (state.Pending false) found = record {
    uses = noted-alone (with_state x.pair.key (state.Pending true) l.book.entries) l.lives x.pair (turned-uses x (state.Pending true) found refl);
    idle = (tt, a.idle);
  }
  marked-stays x state.Doomed found = stays-quiet now l h a
  marked-stays x state.Live found = stays-quiet now l h a
  marked-stays x (state.Closing true) found = stays-quiet now l h a
  marked-stays x (state.Closing false) found = record {
    uses = noted-alone (with_state x.pair.key (state.Closing true) l.book.entries) l.lives x.pair (turned-uses x (state.Closing true) found refl);
    idle = (tt, a.idle);
  }
  marked-stays x state.Alone found = stays-quiet now l h a
  marked-stays x state.Held found = stays-quiet now l h a

  telling-stays : (full : Bool) (x : Entry) (s : EntryState) → slot_of l.book.entries x.pair.key ≡ Some x → Stays now l h (telling_row full x.pair s)
  telling-stays full x (state.Pending m) found = stays-quiet now l h a
  telling-stays full x state.Doomed found = stays-quiet now l h a
  telling-stays full x state.Live found = stays-quiet now l h a
  telling-stays full x (state.Closing m) found = stays-quiet now l h a
  telling-stays true x state.Alone found = stays-quiet now l h a
  telling-stays false x state.Alone found = record { uses = turned-uses x (state.Pending true) found refl; idle = a.idle }
  telling-stays full x state.Held found = stays-quiet now l h a

  pub alone-stays : (apart full : Bool) (k : Key) → Stays now l h (alone_row l.book apart full k)
  alone-stays apart full k = at (is_paired l.book.stage) apart (slot_of l.book.entries k) refl
    where
      at : (t apart : Bool) (o : Option Entry) → slot_of l.book.entries k ≡ o → Stays now l h (let r : Transition = cond t (sought_row apart full o) quiet in r)
      at false apart o there = stays-quiet now l h a
      at true apart None there = stays-quiet now l h a
      at true true (Some x) there = marked-stays x x.state (at-key l.book.entries k x there)
      at true false (Some x) there = telling-stays full x x.state (at-key l.book.entries k x there)
