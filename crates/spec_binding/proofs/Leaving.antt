-- What rows leave as it is.
use Rattle.std.proofs.Common.{◌≡◌, ℕ, suc, ◌+◌, ◌≤◌, ◌==◌, Bool, true, false, cond, not, nat_lt, Option, Some, None, List, [], ◌∷◌, length, map, refl, sym, ap, ◌∙◌, arith}
use Rattle.std.specs.List.{filter}
use Rattle.std.proofs.lemmas.Bool.{cond-true, cond-false}
use Rattle.std.proofs.lemmas.List.{length-map}
use Rattle.nat_types.specs.Granted.{Granted}
use Rattle.nat_types.specs.declared.pairs.EntryState.{EntryState}
use Rattle.nat_types.specs.declared.pairs.EntryState.TheVariants as state
use Rattle.nat_types.specs.declared.pairs.Endpoint.{Endpoint}
use Rattle.nat_types.specs.declared.pairs.Key.{Key}
use Rattle.nat_types.specs.declared.pairs.Pair.{Pair}
use Rattle.nat_types.specs.declared.records.Record.{Record}
use Rattle.nat_types.specs.declared.records.Record.TheVariants as rec
use Rattle.nat_types.specs.declared.notes.NoteKind.TheVariants as happens
use Rattle.addresses.specs.declared.transport.Port.{Port}
use Rattle.bindings.specs.declared.entries.Entry.{Entry}
use Rattle.bindings.specs.declared.entries.PortBounds.{PortBounds}
use Rattle.bindings.specs.Entries.{slot_of, entry_of, entry_in, has_key, is_pair, pairs_in, place_of, HasDistinctKeys}
use Rattle.bindings.specs.Lists.{put_in, with_state, without}
use Rattle.bindings.specs.Runs.{runs_on, run_of, runs_of}
use Rattle.bindings.proofs.Offered.{length-keep, turn-none, rest-none}
use Rattle.link.specs.Link.{needs_answer}
use Rattle.resync.specs.Batch.{is_settled}
use Rattle.resync.specs.Loading.{Load, loaded}
use Rattle.spec_binding.specs.declared.setups.Stage.{Stage}
use Rattle.spec_binding.specs.declared.changes.Change.{Change}
use Rattle.spec_binding.specs.declared.changes.Change.TheVariants.{Keep, Add, Turn, Renew, Drop, Yield, Want, Give, Gain}
use Rattle.spec_binding.specs.declared.changes.Transition.{Transition}
use Rattle.spec_binding.specs.declared.changes.PortRequest.{PortRequest}
use Rattle.spec_binding.specs.declared.changes.Want.TheVariants as want
use Rattle.spec_binding.specs.Books.{Book, IsBook, is_lone, is_promised, is_synced, load_of, is_paired}
use Rattle.spec_binding.specs.WellFormed.{IsBeside, IsSameBatch}
use Rattle.spec_binding.specs.Resets.{restart_batch}
use Rattle.spec_binding.specs.Rows.{alone_row, marked_row, paired_wish, sought_row, telling_row, accept_row, accepted_row, after, carry_row, changed, grant_row, idle_row, is_at_limit, known_wish, left_row, load_taken, may_want, new_pair, new_wish, no_row, wanting_row, numbers_of, port_for, quiet, refuse_row, refused_row, release_row, released_row, row, row_of, stage_after, stayed_row, synced_row, taken_answer, taken_book, unsynced_after, use_row, used_row, wish, wish_by, wish_of, yes_row}
use Rattle.spec_binding.proofs.Members.{gained-is}
use Rattle.spec_binding.proofs.Restarting.{batch-count}
use Rattle.spec_binding.proofs.Unbroken.{machine_runs}
use Rattle.spec_binding.proofs.Working.{loaded-keeps}
use Rattle.spec_binding.proofs.Wishing.{at-key}

beside : (b : Book) → IsBeside b b
beside b = record { id = refl; zero = refl; one = refl; limit = refl; alone = refl; choice = refl; ahead = refl; stage = refl; begun = refl; named = refl; coming = refl }

pub change-leaves : (b : Book) (ch : Change) → IsBeside b (changed ch b)
change-leaves b Keep = beside b
change-leaves b (Add e) = record { id = refl; zero = refl; one = refl; limit = refl; alone = refl; choice = refl; ahead = refl; stage = refl; begun = refl; named = refl; coming = refl }
change-leaves b (Turn k s) = record { id = refl; zero = refl; one = refl; limit = refl; alone = refl; choice = refl; ahead = refl; stage = refl; begun = refl; named = refl; coming = refl }
change-leaves b (Renew k) = record { id = refl; zero = refl; one = refl; limit = refl; alone = refl; choice = refl; ahead = refl; stage = refl; begun = refl; named = refl; coming = refl }
change-leaves b (Drop k) = record { id = refl; zero = refl; one = refl; limit = refl; alone = refl; choice = refl; ahead = refl; stage = refl; begun = refl; named = refl; coming = refl }
change-leaves b (Yield q p) = record { id = refl; zero = refl; one = refl; limit = refl; alone = refl; choice = refl; ahead = refl; stage = refl; begun = refl; named = refl; coming = refl }
change-leaves b Want = record { id = refl; zero = refl; one = refl; limit = refl; alone = refl; choice = refl; ahead = refl; stage = refl; begun = refl; named = refl; coming = refl }
change-leaves b (Give g) = record { id = refl; zero = refl; one = refl; limit = refl; alone = refl; choice = refl; ahead = refl; stage = refl; begun = refl; named = refl; coming = refl }
change-leaves b (Gain g) =
    let is = gained-is b (numbers_of g) in
    record { id = ap (λ (x : Book). x.id) is; zero = ap (λ (x : Book). x.zero) is; one = ap (λ (x : Book). x.one) is; limit = ap (λ (x : Book). x.limit) is; alone = ap (λ (x : Book). x.alone) is; choice = ap (λ (x : Book). x.choice) is; ahead = ap (λ (x : Book). x.ahead) is; stage = ap (λ (x : Book). x.stage) is; begun = ap (λ (x : Book). x.begun) is; named = ap (λ (x : Book). x.named) is; coming = ap (λ (x : Book). x.coming) is }

-- ---- answers

accepted-mute : (p : Pair) (x : EntryState) → (accepted_row p x).answer ≡ None
accepted-mute p (state.Pending true) = refl
accepted-mute p (state.Pending false) = refl
accepted-mute p state.Doomed = refl
accepted-mute p state.Live = refl
accepted-mute p (state.Closing m) = refl
accepted-mute p state.Alone = refl
accepted-mute p state.Held = refl

refused-mute : (p : Pair) (x : EntryState) → (refused_row p x).answer ≡ None
refused-mute p (state.Pending true) = refl
refused-mute p (state.Pending false) = refl
refused-mute p state.Doomed = refl
refused-mute p state.Live = refl
refused-mute p (state.Closing m) = refl
refused-mute p state.Alone = refl
refused-mute p state.Held = refl

left-mute : (p : Pair) (x : EntryState) → (left_row p x).answer ≡ None
left-mute p (state.Pending m) = refl
left-mute p state.Doomed = refl
left-mute p state.Live = refl
left-mute p (state.Closing true) = refl
left-mute p (state.Closing false) = refl
left-mute p state.Alone = refl
left-mute p state.Held = refl

stayed-mute : (p : Pair) (x : EntryState) → (stayed_row p x).answer ≡ None
stayed-mute p (state.Pending m) = refl
stayed-mute p state.Doomed = refl
stayed-mute p state.Live = refl
stayed-mute p (state.Closing m) = refl
stayed-mute p state.Alone = refl
stayed-mute p state.Held = refl

accept-mute : (o : Option Entry) → (accept_row o).answer ≡ None
accept-mute None = refl
accept-mute (Some x) = accepted-mute x.pair x.state

refuse-mute : (o : Option Entry) → (refuse_row o).answer ≡ None
refuse-mute None = refl
refuse-mute (Some x) = refused-mute x.pair x.state

yes-mute : (o : Option Entry) → (yes_row o).answer ≡ None
yes-mute None = refl
yes-mute (Some x) = left-mute x.pair x.state

no-mute : (o : Option Entry) → (no_row o).answer ≡ None
no-mute None = refl
no-mute (Some x) = stayed-mute x.pair x.state

grant-mute : (b : Book) (g : Granted) → (grant_row b g).answer ≡ None
grant-mute b g = at b.wants
  where
    at : (t : Bool) → (let r : Transition = cond t (row (Gain g) None None) quiet in r).answer ≡ None
    at true = refl
    at false = refl

synced-mute : (b : Book) (rests : Bool) (r : Record) → needs_answer r ≡ false → (synced_row b rests r).answer ≡ None
synced-mute b rests (rec.Install p) h = cc
synced-mute b rests (rec.Accept k) h = accept-mute (slot_of b.entries k)
synced-mute b rests (rec.Refuse k) h = refuse-mute (slot_of b.entries k)
synced-mute b rests (rec.Ask k) h = cc
synced-mute b rests (rec.Yes k) h = yes-mute (slot_of b.entries k)
synced-mute b rests (rec.No k) h = no-mute (slot_of b.entries k)
synced-mute b rests rec.Begin h = refl
synced-mute b rests (rec.Put p) h = refl
synced-mute b rests rec.Done h = refl
synced-mute b rests rec.Want h = cc
synced-mute b rests (rec.Grant g) h = grant-mute b g
synced-mute b rests (rec.Owner first last) h = refl
synced-mute b rests (rec.Tell p) h = cc

pub taken-mute : (b : Book) (rests : Bool) (r : Record) → needs_answer r ≡ false → taken_answer b rests r ≡ None
taken-mute b rests r h = at (is_synced b.stage) (is_promised b)
  where
    at : (t p : Bool) → (let o : Option Record = cond t (let w : Transition = cond p quiet (synced_row b rests r) in w).answer None in o) ≡ None
    at true true = refl
    at true false = synced-mute b rests r h
    at false p = refl

-- ---- stages, and the records to come

stage-together : (s : Stage) (r : Record) → is_lone s ≡ false → is_lone (stage_after s r) ≡ false
stage-together s (rec.Install p) h = h
stage-together s (rec.Accept k) h = h
stage-together s (rec.Refuse k) h = h
stage-together s (rec.Ask k) h = h
stage-together s (rec.Yes k) h = h
stage-together s (rec.No k) h = h
stage-together s rec.Begin h = h
stage-together s (rec.Put p) h = h
stage-together s rec.Done h = refl
stage-together s rec.Want h = h
stage-together s (rec.Grant g) h = h
stage-together s (rec.Owner first last) h = h
stage-together s (rec.Tell p) h = h

load-together : (b : Book) (r : Record) (o : Option Load) → is_lone b.stage ≡ false → is_lone (load_taken b r o).stage ≡ false
load-together b r None h = h
load-together b r (Some l) h = stage-together b.stage r h

pub taken-together : (b : Book) (rests : Bool) (r : Record) → is_lone b.stage ≡ false → is_lone (taken_book b rests r).stage ≡ false
taken-together b rests r h = at (is_synced b.stage)
  where
    at : (t : Bool) → is_lone (let b2 : Book = cond t (after b (row_of b rests r)) (unsynced_after b r) in b2).stage ≡ false
    at true = ap is_lone (change-leaves b (row_of b rests r).change).stage ∙ h
    at false = load-together b r (loaded (load_of b) r) h

pub taken-coming : (b : Book) (rests : Bool) (r : Record) → (taken_book b rests r).coming ≡ b.coming
taken-coming b rests r = at (is_synced b.stage)
  where
    at : (t : Bool) → (let b2 : Book = cond t (after b (row_of b rests r)) (unsynced_after b r) in b2).coming ≡ b.coming
    at true = (change-leaves b (row_of b rests r).change).coming
    at false = (loaded-keeps b r (loaded (load_of b) r)).coming

pub taken-promised : (b : Book) (rests : Bool) (r : Record) → is_synced b.stage ≡ true → is_promised b ≡ true → taken_book b rests r ≡ b
taken-promised b rests r synced promised =
    cond-true (is_synced b.stage) (after b (row_of b rests r)) (unsynced_after b r) synced
    ∙ ap (after b) (cond-true (is_promised b) quiet (synced_row b rests r) promised)

-- ---- the batch is the same

same-batch : (b : Book) → IsSameBatch b b
same-batch b = record { pairs = refl; owned = refl }

-- an entry that isn't settled is no part of the batch
put-unsettled : (e : Entry) (es : List Entry) → is_settled e.state ≡ false → pairs_in is_settled (put_in e es) ≡ pairs_in is_settled es
put-unsettled e [] h = ap (map (λ (x : Entry). x.pair)) (cond-false (is_settled e.state) (e ∷ []) [] h)
put-unsettled e (x ∷ xs) h = at (nat_lt (place_of e.pair) (place_of x.pair)) (put-unsettled e xs h)
  where
    after_first : (t : Bool) → pairs_in is_settled (put_in e xs) ≡ pairs_in is_settled xs
        → map (λ (x : Entry). x.pair) (cond t (x ∷ filter (λ e. is_settled e.state) (put_in e xs)) (filter (λ e. is_settled e.state) (put_in e xs))) ≡ map (λ (x : Entry). x.pair) (cond t (x ∷ filter (λ e. is_settled e.state) xs) (filter (λ e. is_settled e.state) xs))
    after_first true ih = ap (λ (ps : List Pair). x.pair ∷ ps) ih
    after_first false ih = ih

    at : (t : Bool) → pairs_in is_settled (put_in e xs) ≡ pairs_in is_settled xs → pairs_in is_settled (cond t (e ∷ x ∷ xs) (x ∷ put_in e xs)) ≡ pairs_in is_settled (x ∷ xs)
    at true ih = ap (map (λ (x : Entry). x.pair)) (cond-false (is_settled e.state) (e ∷ filter (λ e. is_settled e.state) (x ∷ xs)) (filter (λ e. is_settled e.state) (x ∷ xs)) h)
    at false ih = after_first (is_settled x.state) ih

-- an entry that stays settled is the same part of the batch
turn-settled : (k : Key) (s : EntryState) (es : List Entry) (x : Entry) → is_settled s ≡ true → HasDistinctKeys es → slot_of es k ≡ Some x → is_settled x.state ≡ true → pairs_in is_settled (with_state k s es) ≡ pairs_in is_settled es
turn-settled k s [] x new d found old = refl
turn-settled k s (y ∷ ys) x new d found old = at (has_key k y) refl (λ more. turn-settled k s ys x new d.1 more old)
  where
    at : (t : Bool) → has_key k y ≡ t → (slot_of ys k ≡ Some x → pairs_in is_settled (with_state k s ys) ≡ pairs_in is_settled ys) → pairs_in is_settled ((let z : Entry = cond t (entry_in s y.pair) y in z) ∷ with_state k s ys) ≡ pairs_in is_settled (y ∷ ys)
    at true here ih =
        let is : Some y ≡ Some x = sym (cond-true (has_key k y) (Some y) (slot_of ys k) here) ∙ found in
        let one : y ≡ x = cc in
        let settled : is_settled y.state ≡ true = ap (λ (z : Entry). is_settled z.state) one ∙ old in
        let rest : with_state k s ys ≡ ys = turn-none k s ys (rest-none k y ys here d.0) in
        ap (map (λ (z : Entry). z.pair)) (cond-true (is_settled s) (entry_in s y.pair ∷ filter (λ z. is_settled z.state) (with_state k s ys)) (filter (λ z. is_settled z.state) (with_state k s ys)) new)
        ∙ ap (λ (zs : List Entry). y.pair ∷ pairs_in is_settled zs) rest
        ∙ sym (ap (map (λ (z : Entry). z.pair)) (cond-true (is_settled y.state) (y ∷ filter (λ z. is_settled z.state) ys) (filter (λ z. is_settled z.state) ys) settled))
    at false there ih = step (is_settled y.state) (ih (sym (cond-false (has_key k y) (Some y) (slot_of ys k) there) ∙ found))
      where
        step : (t : Bool) → pairs_in is_settled (with_state k s ys) ≡ pairs_in is_settled ys
            → map (λ (z : Entry). z.pair) (cond t (y ∷ filter (λ z. is_settled z.state) (with_state k s ys)) (filter (λ z. is_settled z.state) (with_state k s ys))) ≡ map (λ (z : Entry). z.pair) (cond t (y ∷ filter (λ z. is_settled z.state) ys) (filter (λ z. is_settled z.state) ys))
        step true ih = ap (λ (ps : List Pair). y.pair ∷ ps) ih
        step false ih = ih

-- an entry that goes from one state into another, both settled or both not, is the same part of the batch
turned-pairs : (k : Key) (s : EntryState) (es : List Entry) → HasDistinctKeys es → ((x : Entry) → slot_of es k ≡ Some x → is_settled x.state ≡ is_settled s) → pairs_in is_settled (with_state k s es) ≡ pairs_in is_settled es
turned-pairs k s [] d h = refl
turned-pairs k s (y ∷ ys) d h = at (has_key k y) refl (λ more. turned-pairs k s ys d.1 more)
  where
    both : (t u : Bool) (z : Entry) → z.pair ≡ y.pair → u ≡ t → pairs_in is_settled (with_state k s ys) ≡ pairs_in is_settled ys
        → map (λ (z : Entry). z.pair) (cond t (z ∷ filter (λ z. is_settled z.state) (with_state k s ys)) (filter (λ z. is_settled z.state) (with_state k s ys))) ≡ map (λ (z : Entry). z.pair) (cond u (y ∷ filter (λ z. is_settled z.state) ys) (filter (λ z. is_settled z.state) ys))
    both true true z same e ih = ap (λ (p : Pair). p ∷ pairs_in is_settled (with_state k s ys)) same ∙ ap (λ (ps : List Pair). y.pair ∷ ps) ih
    both true false z same e ih = cc
    both false true z same e ih = cc
    both false false z same e ih = ih

    at : (t : Bool) → has_key k y ≡ t → (((x : Entry) → slot_of ys k ≡ Some x → is_settled x.state ≡ is_settled s) → pairs_in is_settled (with_state k s ys) ≡ pairs_in is_settled ys) → pairs_in is_settled ((let z : Entry = cond t (entry_in s y.pair) y in z) ∷ with_state k s ys) ≡ pairs_in is_settled (y ∷ ys)
    at true here ih =
        both (is_settled s) (is_settled y.state) (entry_in s y.pair) refl (h y (cond-true (has_key k y) (Some y) (slot_of ys k) here))
        (ap (pairs_in is_settled) (turn-none k s ys (rest-none k y ys here d.0)))
    at false there ih = both (is_settled y.state) (is_settled y.state) y refl refl (ih (λ x found. h x (cond-false (has_key k y) (Some y) (slot_of ys k) there ∙ found)))

-- an entry that isn't settled is no part of the batch, and may go
dropped-pairs : (k : Key) (es : List Entry) → HasDistinctKeys es → ((x : Entry) → slot_of es k ≡ Some x → is_settled x.state ≡ false) → pairs_in is_settled (without k es) ≡ pairs_in is_settled es
dropped-pairs k [] d h = refl
dropped-pairs k (y ∷ ys) d h = at (has_key k y) refl (λ more. dropped-pairs k ys d.1 more)
  where
    both : (t : Bool) → pairs_in is_settled (without k ys) ≡ pairs_in is_settled ys
        → map (λ (z : Entry). z.pair) (cond t (y ∷ filter (λ z. is_settled z.state) (without k ys)) (filter (λ z. is_settled z.state) (without k ys))) ≡ map (λ (z : Entry). z.pair) (cond t (y ∷ filter (λ z. is_settled z.state) ys) (filter (λ z. is_settled z.state) ys))
    both true ih = ap (λ (ps : List Pair). y.pair ∷ ps) ih
    both false ih = ih

    at : (t : Bool) → has_key k y ≡ t → (((x : Entry) → slot_of ys k ≡ Some x → is_settled x.state ≡ false) → pairs_in is_settled (without k ys) ≡ pairs_in is_settled ys) → pairs_in is_settled (let zs : List Entry = cond (not t) (y ∷ without k ys) (without k ys) in zs) ≡ pairs_in is_settled (y ∷ ys)
    at true here ih =
        let none : slot_of ys k ≡ None = rest-none k y ys here d.0 in
        let off : is_settled y.state ≡ false = h y (cond-true (has_key k y) (Some y) (slot_of ys k) here) in
        ih (λ x found. let clash : None ≡ Some x = sym none ∙ found in absurd (cc))
        ∙ sym (ap (map (λ (z : Entry). z.pair)) (cond-false (is_settled y.state) (y ∷ filter (λ z. is_settled z.state) ys) (filter (λ z. is_settled z.state) ys) off))
    at false there ih = both (is_settled y.state) (ih (λ x found. h x (cond-false (has_key k y) (Some y) (slot_of ys k) there ∙ found)))

-- an entry that isn't settled is no part of the batch when it goes
drop-unsettled : (k : Key) (es : List Entry) (x : Entry) → HasDistinctKeys es → slot_of es k ≡ Some x → is_settled x.state ≡ false → pairs_in is_settled (without k es) ≡ pairs_in is_settled es
drop-unsettled k es x d found off = dropped-pairs k es d (λ y h. let both : Some x ≡ Some y = sym found ∙ h in let one : x ≡ y = cc in ap (λ (z : Entry). is_settled z.state) (sym one) ∙ off)

-- nor is one that goes from one unsettled state into another
turn-unsettled : (k : Key) (s : EntryState) (es : List Entry) (x : Entry) → HasDistinctKeys es → slot_of es k ≡ Some x → is_settled x.state ≡ is_settled s → pairs_in is_settled (with_state k s es) ≡ pairs_in is_settled es
turn-unsettled k s es x d found same = turned-pairs k s es d (λ y h. let both : Some x ≡ Some y = sym found ∙ h in let one : x ≡ y = cc in ap (λ (z : Entry). is_settled z.state) (sym one) ∙ same)

module _ (b : Book) where
  known-stays : (p : Pair) (s : EntryState) → IsSameBatch b (after b (known_wish p s).row)
  known-stays p (state.Pending true) = same-batch b
  known-stays p (state.Pending false) = same-batch b
  known-stays p state.Doomed = same-batch b
  known-stays p state.Live = same-batch b
  known-stays p (state.Closing true) = same-batch b
  known-stays p (state.Closing false) = same-batch b
  known-stays p state.Alone = same-batch b
  known-stays p state.Held = same-batch b

  none-stays : (full : Bool) → IsSameBatch b (after b (wanting_row b full))
  none-stays full = at (may_want b full)
    where
      at : (t : Bool) → IsSameBatch b (after b (let r : Transition = cond t (row Want (Some rec.Want) None) quiet in r))
      at true = record { pairs = refl; owned = refl }
      at false = same-batch b

  paired-stays : (apart full : Bool) (p : Pair) → IsSameBatch b (after b (paired_wish apart full p).row)
  paired-stays true full p = record { pairs = put-unsettled (entry_in state.Alone p) b.entries refl; owned = refl }
  paired-stays false true p = same-batch b
  paired-stays false false p = record { pairs = put-unsettled (entry_in (state.Pending false) p) b.entries refl; owned = refl }

  new-stays : (apart full : Bool) (e : Endpoint) (o : Option Port) → is_lone b.stage ≡ false → IsSameBatch b (after b (new_wish b apart full e o).row)
  new-stays apart full e None lone = none-stays full
  new-stays apart full e (Some port) lone = at (is_lone b.stage) lone
    where
      at : (t : Bool) → t ≡ false → IsSameBatch b (after b (let w : PortRequest = cond t (wish (want.Port port) (row (Add (entry_in state.Live (new_pair e port))) None (Some (happens.Retaken (new_pair e port))))) (paired_wish apart full (new_pair e port)) in w).row)
      at true h = cc
      at false h = paired-stays apart full (new_pair e port)

  pub wish-stays : (apart full : Bool) (e : Endpoint) → is_lone b.stage ≡ false → IsSameBatch b (after b (wish_of b apart full e).row)
  wish-stays apart full e lone = at (is_synced b.stage) (entry_of b.entries e)
    where
      unknown : (t : Bool) → IsSameBatch b (after b (let w : PortRequest = cond t (wish want.HostLimit quiet) (new_wish b apart full e (port_for b e)) in w).row)
      unknown true = same-batch b
      unknown false = new-stays apart full e (port_for b e) lone

      at : (t : Bool) (o : Option Entry) → IsSameBatch b (after b (let w : PortRequest = cond t (wish_by b apart full e o) (wish want.NotNow quiet) in w).row)
      at true (Some x) = known-stays x.pair x.state
      at true None = unknown (is_at_limit b e.address)
      at false o = same-batch b

  released-stays : IsBook b → (lone ask : Bool) → lone ≡ false → (x : Entry) (s : EntryState) → x.state ≡ s → slot_of b.entries x.pair.key ≡ Some x → IsSameBatch b (after b (released_row lone ask x.pair s))
  released-stays is lone ask off x (state.Pending m) same found = same-batch b
  released-stays is lone ask off x state.Doomed same found = same-batch b
  released-stays is true ask off x state.Live same found = cc
  released-stays is false true off x state.Live same found = record { pairs = turn-settled x.pair.key (state.Closing false) b.entries x refl is.keys found (ap is_settled same); owned = refl }
  released-stays is false false off x state.Live same found = same-batch b
  released-stays is lone ask off x (state.Closing m) same found = same-batch b
  released-stays is lone ask off x state.Alone same found = record { pairs = drop-unsettled x.pair.key b.entries x is.keys found (ap is_settled same); owned = refl }
  released-stays is true ask off x state.Held same found = cc
  released-stays is false ask off x state.Held same found = same-batch b

  pub idle-stays : (ask : Bool) (k : Key) → IsBook b → is_lone b.stage ≡ false → IsSameBatch b (after b (idle_row b ask k))
  idle-stays ask k is lone = at (is_synced b.stage) (slot_of b.entries k) refl
    where
      at : (t : Bool) (o : Option Entry) → slot_of b.entries k ≡ o → IsSameBatch b (after b (let r : Transition = cond t (release_row (is_lone b.stage) ask o) quiet in r))
      at true None found = same-batch b
      at true (Some x) found = released-stays is (is_lone b.stage) ask lone x x.state refl (at-key b.entries k x found)
      at false o found = same-batch b

  used-stays : (p : Pair) (s : EntryState) → IsSameBatch b (after b (used_row p s))
  used-stays p (state.Pending true) = same-batch b
  used-stays p (state.Pending false) = same-batch b
  used-stays p state.Doomed = same-batch b
  used-stays p state.Live = same-batch b
  used-stays p (state.Closing true) = same-batch b
  used-stays p (state.Closing false) = same-batch b
  used-stays p state.Alone = same-batch b
  used-stays p state.Held = same-batch b

  pub carry-stays : (k : Key) → IsSameBatch b (after b (carry_row b k))
  carry-stays k = at (is_synced b.stage) (slot_of b.entries k)
    where
      at : (t : Bool) (o : Option Entry) → IsSameBatch b (after b (let r : Transition = cond t (use_row o) quiet in r))
      at true None = same-batch b
      at true (Some x) = used-stays x.pair x.state
      at false o = same-batch b

  -- ---- going on alone

  marked-stays : IsBook b → (x : Entry) (s : EntryState) → x.state ≡ s → slot_of b.entries x.pair.key ≡ Some x → IsSameBatch b (after b (marked_row x.pair s))
  marked-stays is x (state.Pending true) same found = same-batch b
  marked-stays is x (state.Pending false) same found = record { pairs = turn-unsettled x.pair.key (state.Pending true) b.entries x is.keys found (ap is_settled same); owned = refl }
  marked-stays is x state.Doomed same found = same-batch b
  marked-stays is x state.Live same found = same-batch b
  marked-stays is x (state.Closing true) same found = same-batch b
  marked-stays is x (state.Closing false) same found = record { pairs = turn-unsettled x.pair.key (state.Closing true) b.entries x is.keys found (ap is_settled same); owned = refl }
  marked-stays is x state.Alone same found = same-batch b
  marked-stays is x state.Held same found = same-batch b

  telling-stays : IsBook b → (full : Bool) (x : Entry) (s : EntryState) → x.state ≡ s → slot_of b.entries x.pair.key ≡ Some x → IsSameBatch b (after b (telling_row full x.pair s))
  telling-stays is full x (state.Pending m) same found = same-batch b
  telling-stays is full x state.Doomed same found = same-batch b
  telling-stays is full x state.Live same found = same-batch b
  telling-stays is full x (state.Closing m) same found = same-batch b
  telling-stays is true x state.Alone same found = same-batch b
  telling-stays is false x state.Alone same found = record { pairs = turn-unsettled x.pair.key (state.Pending true) b.entries x is.keys found (ap is_settled same); owned = refl }
  telling-stays is full x state.Held same found = same-batch b

  pub alone-stays : (apart full : Bool) (k : Key) → IsBook b → IsSameBatch b (after b (alone_row b apart full k))
  alone-stays apart full k is = at (is_paired b.stage) apart (slot_of b.entries k) refl
    where
      at : (t apart : Bool) (o : Option Entry) → slot_of b.entries k ≡ o → IsSameBatch b (after b (let r : Transition = cond t (sought_row apart full o) quiet in r))
      at true apart None found = same-batch b
      at true true (Some x) found = marked-stays is x x.state refl (at-key b.entries k x found)
      at true false (Some x) found = telling-stays is full x x.state refl (at-key b.entries k x found)
      at false apart o found = same-batch b

-- ---- how long a batch is

on-count : (first last : ℕ) (ps : List ℕ) → length (runs_on first last ps) ≤ suc (length ps)
on-count first last [] = omega arith
on-count first last (p ∷ ps) = at (p == suc last) (on-count first p ps) (on-count p p ps)
  where
    at : (t : Bool) → length (runs_on first p ps) ≤ suc (length ps) → length (runs_on p p ps) ≤ suc (length ps) → length (let rs : List PortBounds = cond t (runs_on first p ps) (run_of first last ∷ runs_on p p ps) in rs) ≤ suc (suc (length ps))
    at true one two = omega (arith, one)
    at false one two = omega (arith, two)

runs-count : (ps : List ℕ) → length (runs_of ps) ≤ length ps
runs-count [] = omega arith
runs-count (p ∷ ps) = on-count p p ps

pub batch-room : (b : Book) → length (restart_batch b) ≤ length b.owned + length b.entries + 2
batch-room b =
    let count = batch-count b in
    let runs = runs-count b.owned in
    let mapped : length (machine_runs (runs_of b.owned)) ≡ length (runs_of b.owned) = length-map (runs_of b.owned) _ in
    let pairs : length (pairs_in is_pair b.entries) ≡ length (filter (λ (e : Entry). is_pair e.state) b.entries) = length-map (filter (λ (e : Entry). is_pair e.state) b.entries) _ in
    let kept = length-keep (λ (e : Entry). is_pair e.state) b.entries in
    omega (arith, count, runs, mapped, pairs, kept)
