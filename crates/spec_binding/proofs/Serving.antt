-- An endpoint's pair that translates stays its pair, unless it is released.
use Rattle.std.proofs.Common.{◌≡◌, ◌⊎◌, Bool, true, false, cond, Option, Some, None, inl, inr, List, refl, sym, ap, subst, ◌∙◌}
use Rattle.std.specs.Option.{option_or}
use Rattle.std.proofs.lemmas.Bool.{both_ways, cases_Bool, cond-true, cond-false, false_from_ne_true}
use Rattle.nat_types.specs.Same.{same_key}
use Rattle.nat_types.proofs.Offered.{key-eq}
use Rattle.nat_types.specs.Granted.{Granted}
use Rattle.nat_types.specs.declared.gateways.GatewayId.{GatewayId}
use Rattle.nat_types.specs.declared.notes.NoteKind.{NoteKind}
use Rattle.nat_types.specs.declared.notes.NoteKind.TheVariants as happens
use Rattle.nat_types.specs.declared.pairs.EntryState.{EntryState}
use Rattle.nat_types.specs.declared.pairs.EntryState.TheVariants as state
use Rattle.nat_types.specs.declared.pairs.Endpoint.{Endpoint}
use Rattle.nat_types.specs.declared.pairs.Key.{Key}
use Rattle.nat_types.specs.declared.pairs.Pair.{Pair}
use Rattle.nat_types.specs.declared.records.Record.{Record}
use Rattle.nat_types.specs.declared.records.Record.TheVariants as rec
use Rattle.addresses.specs.declared.transport.Port.{Port}
use Rattle.slots.specs.declared.ranks.Rank.{Rank}
use Rattle.slots.specs.declared.ranks.Rank.TheVariants.{First, Second}
use Rattle.bindings.specs.declared.entries.Entry.{Entry}
use Rattle.bindings.specs.Entries.{entry_in, entry_of, entry_on, is_of_rank, is_pair, set_at, slot_of, translates, HasDistinctKeys}
use Rattle.bindings.specs.Lists.{put_in, with_state, without, IsOneToOne}
use Rattle.bindings.specs.Revivals.{revived_entries, revived_slot, woken_entry}
use Rattle.bindings.proofs.Offered.{entry-slot, found-slot, pair-rank, ranked-serves, slot-put, slot-revived, slot-with_state, slot-without}
use Rattle.link.specs.Grammar.{IsWellFormedRecord}
use Rattle.spec_binding.specs.declared.changes.Change.TheVariants.{Add, Turn, Drop, Yield, Gain}
use Rattle.spec_binding.specs.declared.changes.Change.TheVariants as change_of
use Rattle.spec_binding.specs.declared.changes.Transition.{Transition}
use Rattle.spec_binding.specs.declared.changes.PortRequest.{PortRequest}
use Rattle.spec_binding.specs.declared.changes.Want.TheVariants as want
use Rattle.spec_binding.specs.Books.{Book, IsBook, emptied, is_lone, is_paired, is_promised, is_synced}
use Rattle.spec_binding.specs.WellFormed.{IsWellFormedEndpoint}
use Rattle.spec_binding.specs.Resets.{begun_anew, put_lone, restarted}
use Rattle.spec_binding.specs.Serving.{serving, serving_by, Stays}
use Rattle.spec_binding.specs.Rows.{accept_row, accepted_row, after, alone_row, answering, ask_row, asked_row, changed, ending, gives_way, grant_row, idle_row, install_row, is_at_limit, is_takeable, known_wish, left_row, marked_row, may_want, new_pair, new_wish, no_row, wanting_row, numbers_of, paired_wish, port_for, proposed_row, quiet, refuse_row, refused_row, release_row, released_row, row, row_of, sought_row, stayed_row, synced_row, taken_book, taken_what, taking, telling_row, told_row, unsynced_after, unsynced_what, wish, wish_by, wish_of, yes_row}
use Rattle.spec_binding.proofs.Keeping.{alone-row-keeps, idle-keeps, taken-keeps, wish-keeps}
use Rattle.spec_binding.proofs.Knowing.{translating-pair}
use Rattle.spec_binding.proofs.Members.{gained-is}
use Rattle.spec_binding.proofs.Slots.{keys-revived, one-revived, was-there, woken-rank}
use Rattle.spec_binding.proofs.Taking.{takes, unranked}
use Rattle.spec_binding.proofs.Wishing.{at-key, chosen-says}

-- no own pair of the table has the endpoint
abbrev HasNoOwn : List Entry → Endpoint → Type 0
HasNoOwn es x = (q : Key) (z : Entry) → slot_of es q ≡ Some z → is_of_rank First z.state ≡ true → z.pair.endpoint ≡ x → ⊥

-- The entry is the endpoint's pair, and translates: it is an own one, or a Held one beside no own one.
record Serves (es : List Entry) (x : Endpoint) (y : Entry) : Type 0 where
  found : slot_of es y.pair.key ≡ Some y
  endpoint : y.pair.endpoint ≡ x
  live : translates y.state ≡ true
  alone : is_of_rank First y.state ≡ false → HasNoOwn es x

shown : (t : Bool) (q p : Pair) → (let o : Option Pair = cond t (Some q) None in o) ≡ Some p → (t ≡ true) × (q ≡ p)
shown true q p h = (refl, cc)
shown false q p h = absurd (cc)

-- the entry that serves an endpoint
serving-found : (es : List Entry) (x : Endpoint) (p : Pair) → HasDistinctKeys es → serving_by (entry_of es x) ≡ Some p → (y : Entry) × Serves es x y × (y.pair ≡ p)
serving-found es x p keys = at (entry_on First es x) refl (entry_on Second es x) refl
  where
    at : (own : Option Entry) → entry_on First es x ≡ own → (held : Option Entry) → entry_on Second es x ≡ held → serving_by (option_or own held) ≡ Some p → (y : Entry) × Serves es x y × (y.pair ≡ p)
    at (Some y) h held g s =
        let says = shown (translates y.state) y.pair p s in
        let serves = ranked-serves First es x y h in
        (y, record { found = found-slot _ es y keys h; endpoint = serves.1; live = says.0; alone = λ no_. absurd (both_ways (is_of_rank First y.state) no_ serves.0) }, says.1)
    at None h (Some y) g s =
        let says = shown (translates y.state) y.pair p s in
        let serves = ranked-serves Second es x y g in
        (y, record { found = found-slot _ es y keys g; endpoint = serves.1; live = says.0; alone = λ no_ q z there own same. unranked es First x q z h there own same }, says.1)
    at None h None g s = absurd (cc)

-- an entry that serves an endpoint is seen
serving-seen : (es : List Entry) (x : Endpoint) (y : Entry) → HasDistinctKeys es → IsOneToOne es → Serves es x y → serving_by (entry_of es x) ≡ Some y.pair
serving-seen es x y keys one s = at (entry_on First es x) refl
  where
    -- a pair of the entry's rank and endpoint is the entry
    same : (rank : Rank) (w : Entry) → entry_on rank es x ≡ Some w → is_of_rank rank y.state ≡ true → serving_by (Some w) ≡ Some y.pair
    same rank w h mine =
        let serves = ranked-serves rank es x w h in
        let there : slot_of es w.pair.key ≡ Some w = found-slot _ es w keys h in
        let key : y.pair.key ≡ w.pair.key = one y.pair.key w.pair.key y w rank s.found there mine serves.0 (s.endpoint ∙ sym serves.1) in
        let both : Some y ≡ Some w = sym s.found ∙ ap (slot_of es) key ∙ there in
        let alike : y ≡ w = cc in
        subst (λ (z : Entry). serving_by (Some z) ≡ Some y.pair) alike (cond-true (translates y.state) (Some y.pair) None s.live)

    held : (rank : Rank) → is_of_rank rank y.state ≡ true → entry_on First es x ≡ None → (o : Option Entry) → entry_on Second es x ≡ o → serving_by o ≡ Some y.pair
    held First mine none o h = absurd (unranked es First x y.pair.key y none s.found mine s.endpoint)
    held Second mine none None h = absurd (unranked es Second x y.pair.key y h s.found mine s.endpoint)
    held Second mine none (Some w) h = same Second w h mine

    at : (own : Option Entry) → entry_on First es x ≡ own → serving_by (option_or own (entry_on Second es x)) ≡ Some y.pair
    at None h = (let ranked = pair-rank y.state (translating-pair y.state s.live).0 in held ranked.0 ranked.1 h (entry_on Second es x) refl)
    at (Some w) h = elim (cases_Bool (is_of_rank First y.state)) [
      | inl mine ↦ same First w h mine
      | inr other ↦
          (let serves = ranked-serves First es x w h in
          absurd (s.alone other w.pair.key w (found-slot _ es w keys h) serves.0 serves.1))
    ]

-- ---- where one key's entry changes

module _ (es es2 : List Entry) (k : Key) (o : Option Entry) (slots : (q : Key) → slot_of es2 q ≡ set_at (slot_of es) k o q) (x : Endpoint) (y : Entry) (s : Serves es x y) where
  -- where the endpoint had no own pair, it gets none
  still-none : ((w : Entry) → o ≡ Some w → is_of_rank First w.state ≡ true → w.pair.endpoint ≡ x → HasNoOwn es x → ⊥) → HasNoOwn es x → HasNoOwn es2 x
  still-none new none q z there own same =
      elim (cases_Bool (same_key k q)) [
        | inl here ↦ new z (sym (slots q ∙ cond-true (same_key k q) o (slot_of es q) here) ∙ there) own same none
        | inr other ↦ none q z (sym (slots q ∙ cond-false (same_key k q) o (slot_of es q) other) ∙ there) own same
      ]

  -- another key's entry changes
  other-serves : same_key k y.pair.key ≡ false → ((w : Entry) → o ≡ Some w → is_of_rank First w.state ≡ true → w.pair.endpoint ≡ x → HasNoOwn es x → ⊥) → Serves es2 x y
  other-serves other new = record {
    found = slots y.pair.key ∙ cond-false (same_key k y.pair.key) o (slot_of es y.pair.key) other ∙ s.found;
    endpoint = s.endpoint;
    live = s.live;
    alone = λ no_. still-none new (s.alone no_);
  }

  -- the entry itself goes on to translate in another state, on its side
  here-serves : (t : EntryState) → o ≡ Some (entry_in t y.pair) → same_key k y.pair.key ≡ true → translates t ≡ true → is_of_rank First t ≡ is_of_rank First y.state → ((w : Entry) → o ≡ Some w → is_of_rank First w.state ≡ true → w.pair.endpoint ≡ x → HasNoOwn es x → ⊥) → Serves es2 x (entry_in t y.pair)
  here-serves t is here live rank new = record {
    found = slots y.pair.key ∙ cond-true (same_key k y.pair.key) o (slot_of es y.pair.key) here ∙ is;
    endpoint = s.endpoint;
    live = live;
    alone = λ no_. still-none new (s.alone (sym rank ∙ no_));
  }

-- ---- the rows

-- after a row the pair still is the endpoint's, and translates
abbrev GoesOn : Book → Endpoint → Pair → Transition → Type 0
GoesOn b x p r = (y : Entry) × Serves (changed r.change b).entries x y × (y.pair ≡ p)

module _ (b : Book) (x : Endpoint) (p : Pair) (y : Entry) (s : Serves b.entries x y) (mine : y.pair ≡ p) where
  same-entries : (r : Transition) → (changed r.change b).entries ≡ b.entries → GoesOn b x p r
  same-entries r same = (y, subst (λ (es : List Entry). Serves es x y) (sym same) s, mine)

  -- the entry at a key is the one that serves, where that is its key
  that-one : (w : Entry) → slot_of b.entries w.pair.key ≡ Some w → same_key w.pair.key y.pair.key ≡ true → w ≡ y
  that-one w found here =
      let both : Some w ≡ Some y = sym found ∙ ap (slot_of b.entries) (key-eq w.pair.key y.pair.key here) ∙ s.found in
      cc

  -- another own state of an own entry adds no own pair
  turn-adds : (w : Entry) (t : EntryState) → slot_of b.entries w.pair.key ≡ Some w → (is_of_rank First t ≡ true → is_of_rank First w.state ≡ true)
      → (z : Entry) → Some (entry_in t w.pair) ≡ Some z → is_of_rank First z.state ≡ true → z.pair.endpoint ≡ x → HasNoOwn b.entries x → ⊥
  turn-adds w t found back z is own same none =
      let one : entry_in t w.pair ≡ z = cc in
      none w.pair.key w found (back (ap (λ (v : Entry). is_of_rank First v.state) one ∙ own)) (ap (λ (v : Entry). v.pair.endpoint) one ∙ same)

  -- an entry that doesn't translate is turned
  turns-other : (w : Entry) (t : EntryState) → slot_of b.entries w.pair.key ≡ Some w → translates w.state ≡ false → (is_of_rank First t ≡ true → is_of_rank First w.state ≡ true) → Serves (with_state w.pair.key t b.entries) x y
  turns-other w t found off back =
      other-serves b.entries (with_state w.pair.key t b.entries) w.pair.key (Some (entry_in t w.pair)) (λ q. slot-with_state w.pair.key t b.entries w q found) x y s
      (false_from_ne_true (same_key w.pair.key y.pair.key) (λ here. both_ways (translates w.state) off (ap (λ (v : Entry). translates v.state) (that-one w found here) ∙ s.live)))
      (turn-adds w t found back)

  -- an own entry is turned into another own state that translates
  turns-own : (w : Entry) (t : EntryState) → slot_of b.entries w.pair.key ≡ Some w → is_of_rank First w.state ≡ true → is_of_rank First t ≡ true → translates t ≡ true → (z : Entry) × Serves (with_state w.pair.key t b.entries) x z × (z.pair ≡ p)
  turns-own w t found own own2 live =
      elim (cases_Bool (same_key w.pair.key y.pair.key)) [
        | inl here ↦
            (let one : w ≡ y = that-one w found here in
            (entry_in t y.pair, here-serves b.entries (with_state w.pair.key t b.entries) w.pair.key (Some (entry_in t w.pair)) slots x y s t (ap (λ (v : Entry). Some (entry_in t v.pair)) one) here live (own2 ∙ sym own ∙ ap (λ (v : Entry). is_of_rank First v.state) one) new, mine))
        | inr other ↦ (y, other-serves b.entries (with_state w.pair.key t b.entries) w.pair.key (Some (entry_in t w.pair)) slots x y s other new, mine)
      ]
    where
      slots : (q : Key) → slot_of (with_state w.pair.key t b.entries) q ≡ set_at (slot_of b.entries) w.pair.key (Some (entry_in t w.pair)) q
      slots q = slot-with_state w.pair.key t b.entries w q found

      new : (z : Entry) → Some (entry_in t w.pair) ≡ Some z → is_of_rank First z.state ≡ true → z.pair.endpoint ≡ x → HasNoOwn b.entries x → ⊥
      new = turn-adds w t found (λ h. own)

  -- another entry is removed
  drops-other : (k : Key) → same_key k y.pair.key ≡ false → Serves (without k b.entries) x y
  drops-other k other = other-serves b.entries (without k b.entries) k None (λ q. slot-without k b.entries q) x y s other (λ z is own same none. absurd (cc))

  -- an entry that doesn't translate is removed
  drops-still : (w : Entry) → slot_of b.entries w.pair.key ≡ Some w → translates w.state ≡ false → Serves (without w.pair.key b.entries) x y
  drops-still w found off =
      drops-other w.pair.key (false_from_ne_true (same_key w.pair.key y.pair.key) (λ here. both_ways (translates w.state) off (ap (λ (v : Entry). translates v.state) (that-one w found here) ∙ s.live)))

  -- an entry is added that isn't an own pair of the endpoint
  adds-other : (z : Entry) → slot_of b.entries z.pair.key ≡ None → (is_of_rank First z.state ≡ true → z.pair.endpoint ≡ x → ⊥) → Serves (put_in z b.entries) x y
  adds-other z free unlike =
      other-serves b.entries (put_in z b.entries) z.pair.key (Some z) (λ q. slot-put z b.entries q free) x y s
      (false_from_ne_true (same_key z.pair.key y.pair.key) (λ here. let clash : None ≡ Some y = sym free ∙ ap (slot_of b.entries) (key-eq z.pair.key y.pair.key here) ∙ s.found in cc))
      (λ w is own same none. let one : z ≡ w = cc in unlike (ap (λ (v : Entry). is_of_rank First v.state) one ∙ own) (ap (λ (v : Entry). v.pair.endpoint) one ∙ same))

  -- the row goes on with the pair, or notes its release
  abbrev Lasts : Transition → Type 0
  Lasts r = GoesOn b x p r ⊎ (r.what ≡ Some (happens.Released p))

  quiet-lasts : Lasts quiet
  quiet-lasts = inl (y, s, mine)

  -- an entry is removed with the note of its release
  dropped-lasts : (w : Entry) (answer : Option Record) → slot_of b.entries w.pair.key ≡ Some w → Lasts (row (Drop w.pair.key) answer (Some (happens.Released w.pair)))
  dropped-lasts w answer found =
      elim (cases_Bool (same_key w.pair.key y.pair.key)) [
        | inl here ↦ inr (ap (λ (v : Entry). Some (happens.Released v.pair)) (that-one w found here) ∙ ap (λ (v : Pair). Some (happens.Released v)) mine)
        | inr other ↦ inl (y, drops-other w.pair.key other, mine)
      ]

  -- an own entry that translates is asked for, with the note of its release
  asked-for-lasts : (w : Entry) (t : EntryState) (answer : Option Record) → slot_of b.entries w.pair.key ≡ Some w → is_of_rank First w.state ≡ true → Lasts (row (Turn w.pair.key t) answer (Some (happens.Released w.pair)))
  asked-for-lasts w t answer found own =
      elim (cases_Bool (same_key w.pair.key y.pair.key)) [
        | inl here ↦ inr (ap (λ (v : Entry). Some (happens.Released v.pair)) (that-one w found here) ∙ ap (λ (v : Pair). Some (happens.Released v)) mine)
        | inr other ↦ inl (y, other-serves b.entries (with_state w.pair.key t b.entries) w.pair.key (Some (entry_in t w.pair)) (λ q. slot-with_state w.pair.key t b.entries w q found) x y s other (turn-adds w t found (λ h. own)), mine)
      ]

  -- ---- records

  accepted-lasts : (w : Entry) (t : EntryState) → w.state ≡ t → slot_of b.entries w.pair.key ≡ Some w → Lasts (accepted_row w.pair t)
  accepted-lasts w (state.Pending true) is found = inl (turns-own w state.Live found (ap (is_of_rank First) is) refl refl)
  accepted-lasts w (state.Pending false) is found = inl (turns-own w state.Live found (ap (is_of_rank First) is) refl refl)
  accepted-lasts w state.Doomed is found = quiet-lasts
  accepted-lasts w state.Live is found = quiet-lasts
  accepted-lasts w (state.Closing m) is found = quiet-lasts
  accepted-lasts w state.Alone is found = quiet-lasts
  accepted-lasts w state.Held is found = quiet-lasts

  refused-lasts : (w : Entry) (t : EntryState) → w.state ≡ t → slot_of b.entries w.pair.key ≡ Some w → Lasts (refused_row w.pair t)
  refused-lasts w (state.Pending true) is found = inl (turns-own w state.Alone found (ap (is_of_rank First) is) refl refl)
  refused-lasts w (state.Pending false) is found = inl (y, drops-still w found (ap translates is), mine)
  refused-lasts w state.Doomed is found = inl (y, drops-still w found (ap translates is), mine)
  refused-lasts w state.Live is found = quiet-lasts
  refused-lasts w (state.Closing m) is found = quiet-lasts
  refused-lasts w state.Alone is found = quiet-lasts
  refused-lasts w state.Held is found = quiet-lasts

  asked-lasts : (w : Entry) (rests : Bool) (t : EntryState) → slot_of b.entries w.pair.key ≡ Some w → Lasts (asked_row w.pair rests t)
  asked-lasts w rests (state.Pending m) found = inl (y, s, mine)
  asked-lasts w rests state.Doomed found = inl (y, s, mine)
  asked-lasts w rests state.Live found = inl (y, s, mine)
  asked-lasts w rests (state.Closing m) found = inl (y, s, mine)
  asked-lasts w rests state.Alone found = inl (y, s, mine)
  asked-lasts w true state.Held found = dropped-lasts w (Some (rec.Yes w.pair.key)) found
  asked-lasts w false state.Held found = inl (y, s, mine)

  left-lasts : (w : Entry) (t : EntryState) → w.state ≡ t → slot_of b.entries w.pair.key ≡ Some w → Lasts (left_row w.pair t)
  left-lasts w (state.Pending m) is found = quiet-lasts
  left-lasts w state.Doomed is found = quiet-lasts
  left-lasts w state.Live is found = quiet-lasts
  left-lasts w (state.Closing true) is found = inl (turns-own w state.Alone found (ap (is_of_rank First) is) refl refl)
  left-lasts w (state.Closing false) is found = inl (y, drops-still w found (ap translates is), mine)
  left-lasts w state.Alone is found = quiet-lasts
  left-lasts w state.Held is found = quiet-lasts

  stayed-lasts : (w : Entry) (t : EntryState) → w.state ≡ t → slot_of b.entries w.pair.key ≡ Some w → Lasts (stayed_row w.pair t)
  stayed-lasts w (state.Pending m) is found = quiet-lasts
  stayed-lasts w state.Doomed is found = quiet-lasts
  stayed-lasts w state.Live is found = quiet-lasts
  stayed-lasts w (state.Closing m) is found = inl (turns-own w state.Live found (ap (is_of_rank First) is) refl refl)
  stayed-lasts w state.Alone is found = quiet-lasts
  stayed-lasts w state.Held is found = quiet-lasts

  ways : (i : GatewayId) (t : EntryState) → gives_way i t ≡ true → translates t ≡ false
  ways i (state.Pending true) g = cc
  ways i (state.Pending false) g = refl
  ways i state.Doomed g = cc
  ways i state.Live g = cc
  ways i (state.Closing m) g = cc
  ways i state.Alone g = cc
  ways i state.Held g = cc

  taking-lasts : (q : Pair) → slot_of b.entries q.key ≡ None → Lasts (taking q)
  taking-lasts q free = inl (y, adds-other (entry_in state.Held q) free (λ own same. absurd (cc)), mine)

  grant-lasts : (g : Granted) → Lasts (grant_row b g)
  grant-lasts g = at b.wants
    where
      at : (t : Bool) → Lasts (let r : Transition = cond t (row (Gain g) None None) quiet in r)
      at true = inl (same-entries (row (Gain g) None None) (ap (λ (z : Book). z.entries) (gained-is b (numbers_of g))))
      at false = quiet-lasts

  -- ---- idle pairs

  released-lasts : (lone ask : Bool) (w : Entry) (t : EntryState) → w.state ≡ t → slot_of b.entries w.pair.key ≡ Some w → Lasts (released_row lone ask w.pair t)
  released-lasts lone ask w (state.Pending m) is found = quiet-lasts
  released-lasts lone ask w state.Doomed is found = quiet-lasts
  released-lasts true ask w state.Live is found = dropped-lasts w None found
  released-lasts false true w state.Live is found = asked-for-lasts w (state.Closing false) (Some (rec.Ask w.pair.key)) found (ap (is_of_rank First) is)
  released-lasts false false w state.Live is found = quiet-lasts
  released-lasts lone ask w (state.Closing m) is found = quiet-lasts
  released-lasts lone ask w state.Alone is found = dropped-lasts w None found
  released-lasts true ask w state.Held is found = dropped-lasts w None found
  released-lasts false ask w state.Held is found = quiet-lasts

  idle-lasts : (ask : Bool) (k : Key) → Lasts (idle_row b ask k)
  idle-lasts ask k = at (is_synced b.stage) (slot_of b.entries k) refl
    where
      at : (t : Bool) (o : Option Entry) → slot_of b.entries k ≡ o → Lasts (let r : Transition = cond t (release_row (is_lone b.stage) ask o) quiet in r)
      at false o found = quiet-lasts
      at true None found = quiet-lasts
      at true (Some w) found = released-lasts (is_lone b.stage) ask w w.state refl (at-key b.entries k w found)

  -- ---- going on alone

  marked-goes : (w : Entry) (t : EntryState) → w.state ≡ t → slot_of b.entries w.pair.key ≡ Some w → GoesOn b x p (marked_row w.pair t)
  marked-goes w (state.Pending true) is found = (y, s, mine)
  marked-goes w (state.Pending false) is found = turns-own w (state.Pending true) found (ap (is_of_rank First) is) refl refl
  marked-goes w state.Doomed is found = (y, s, mine)
  marked-goes w state.Live is found = (y, s, mine)
  marked-goes w (state.Closing true) is found = (y, s, mine)
  marked-goes w (state.Closing false) is found = turns-own w (state.Closing true) found (ap (is_of_rank First) is) refl refl
  marked-goes w state.Alone is found = (y, s, mine)
  marked-goes w state.Held is found = (y, s, mine)

  telling-goes : (full : Bool) (w : Entry) (t : EntryState) → w.state ≡ t → slot_of b.entries w.pair.key ≡ Some w → GoesOn b x p (telling_row full w.pair t)
  telling-goes full w (state.Pending m) is found = (y, s, mine)
  telling-goes full w state.Doomed is found = (y, s, mine)
  telling-goes full w state.Live is found = (y, s, mine)
  telling-goes full w (state.Closing m) is found = (y, s, mine)
  telling-goes true w state.Alone is found = (y, s, mine)
  telling-goes false w state.Alone is found = turns-own w (state.Pending true) found (ap (is_of_rank First) is) refl refl
  telling-goes full w state.Held is found = (y, s, mine)

  alone-goes : (apart full : Bool) (k : Key) → GoesOn b x p (alone_row b apart full k)
  alone-goes apart full k = at (is_paired b.stage) apart (slot_of b.entries k) refl
    where
      at : (t apart : Bool) (o : Option Entry) → slot_of b.entries k ≡ o → GoesOn b x p (let r : Transition = cond t (sought_row apart full o) quiet in r)
      at false apart o found = (y, s, mine)
      at true apart None found = (y, s, mine)
      at true true (Some w) found = marked-goes w w.state refl (at-key b.entries k w found)
      at true false (Some w) found = telling-goes full w w.state refl (at-key b.entries k w found)

  -- ---- wishes

  known-goes : (q : Pair) (t : EntryState) → GoesOn b x p (known_wish q t).row
  known-goes q (state.Pending true) = (y, s, mine)
  known-goes q (state.Pending false) = (y, s, mine)
  known-goes q state.Doomed = (y, s, mine)
  known-goes q state.Live = (y, s, mine)
  known-goes q (state.Closing true) = (y, s, mine)
  known-goes q (state.Closing false) = (y, s, mine)
  known-goes q state.Alone = (y, s, mine)
  known-goes q state.Held = (y, s, mine)

  paired-goes : (apart full : Bool) (q : Pair) → slot_of b.entries q.key ≡ None → (q.endpoint ≡ x → ⊥) → GoesOn b x p (paired_wish apart full q).row
  paired-goes true full q free unlike = (y, adds-other (entry_in state.Alone q) free (λ own same. unlike same), mine)
  paired-goes false true q free unlike = (y, s, mine)
  paired-goes false false q free unlike = (y, adds-other (entry_in (state.Pending false) q) free (λ own same. unlike same), mine)

  none-goes : (full : Bool) → GoesOn b x p (wanting_row b full)
  none-goes full = at (may_want b full)
    where
      at : (t : Bool) → GoesOn b x p (let r : Transition = cond t (row change_of.Want (Some rec.Want) None) quiet in r)
      at true = (y, s, mine)
      at false = (y, s, mine)

  new-goes : (apart full : Bool) (e : Endpoint) (o : Option Port) → (e ≡ x → ⊥) → port_for b e ≡ o → GoesOn b x p (new_wish b apart full e o).row
  new-goes apart full e None unlike found = none-goes full
  new-goes apart full e (Some port) unlike found = at (is_lone b.stage)
    where
      free : slot_of b.entries (new_pair e port).key ≡ None
      free = (chosen-says b e port found).free

      at : (lone : Bool) → GoesOn b x p (let w : PortRequest = cond lone (wish (want.Port port) (row (Add (entry_in state.Live (new_pair e port))) None (Some (happens.Retaken (new_pair e port))))) (paired_wish apart full (new_pair e port)) in w).row
      at true = (y, adds-other (entry_in state.Live (new_pair e port)) free (λ own same. unlike same), mine)
      at false = paired-goes apart full (new_pair e port) free unlike

  wish-goes : (apart full : Bool) (e : Endpoint) → serving_by (entry_of b.entries x) ≡ Some p → GoesOn b x p (wish_of b apart full e).row
  wish-goes apart full e shows = at (is_synced b.stage) (entry_of b.entries e) refl
    where
      unlike : entry_of b.entries e ≡ None → e ≡ x → ⊥
      unlike none same = let clash : None ≡ Some p = ap serving_by (sym none ∙ ap (entry_of b.entries) same) ∙ shows in cc

      unknown : (t : Bool) → entry_of b.entries e ≡ None → GoesOn b x p (let w : PortRequest = cond t (wish want.HostLimit quiet) (new_wish b apart full e (port_for b e)) in w).row
      unknown true none = (y, s, mine)
      unknown false none = new-goes apart full e (port_for b e) (unlike none) refl

      at : (t : Bool) (o : Option Entry) → entry_of b.entries e ≡ o → GoesOn b x p (let w : PortRequest = cond t (wish_by b apart full e o) (wish want.NotNow quiet) in w).row
      at true (Some w) found = known-goes w.pair w.state
      at true None found = unknown (is_at_limit b e.address) found
      at false o found = (y, s, mine)

  -- ---- a record at a synced gateway

  module _ (is : IsBook b) where
    yields : (q : Pair) (w : Entry) → slot_of b.entries w.pair.key ≡ Some w → translates w.state ≡ false → slot_of b.entries q.key ≡ None → Serves (put_in (entry_in state.Held q) (with_state w.pair.key state.Doomed b.entries)) x y
    yields q w found off free =
        other-serves doomed (put_in (entry_in state.Held q) doomed) q.key (Some (entry_in state.Held q)) (λ k. slot-put (entry_in state.Held q) doomed k vacant) x y before
        (false_from_ne_true (same_key q.key y.pair.key) (λ here. let clash : None ≡ Some y = sym vacant ∙ ap (slot_of doomed) (key-eq q.key y.pair.key here) ∙ before.found in cc))
        (λ z some own same none. let one : entry_in state.Held q ≡ z = cc in let bad : false ≡ true = ap (λ (v : Entry). is_of_rank First v.state) one ∙ own in cc)
      where
        doomed : List Entry
        doomed = with_state w.pair.key state.Doomed b.entries

        before : Serves doomed x y
        before = turns-other w state.Doomed found off (λ h. absurd (cc))

        vacant : slot_of doomed q.key ≡ None
        vacant =
            slot-with_state w.pair.key state.Doomed b.entries w q.key found
            ∙ cond-false (same_key w.pair.key q.key) (Some (entry_in state.Doomed w.pair)) (slot_of b.entries q.key)
            (false_from_ne_true (same_key w.pair.key q.key) (λ same. let clash : slot_of b.entries q.key ≡ Some w = ap (slot_of b.entries) (sym (key-eq w.pair.key q.key same)) ∙ found in cc))
            ∙ free

    proposed-lasts : (q : Pair) (o : Option Entry) → entry_of b.entries q.endpoint ≡ o → slot_of b.entries q.key ≡ None → Lasts (proposed_row b q o)
    proposed-lasts q None none free = taking-lasts q free
    proposed-lasts q (Some w) there free = at (gives_way b.id w.state) refl
      where
        at : (t : Bool) → gives_way b.id w.state ≡ t → Lasts (let r : Transition = cond t (ending q.endpoint (row (Yield w.pair.key q) (Some (rec.Accept q.key)) (Some (happens.Retaken q)))) (answering (rec.Refuse q.key)) in r)
        at true g = inl (y, yields q w (entry-slot b.entries q.endpoint w is.keys there) (ways b.id w.state g) free, mine)
        at false g = inl (y, s, mine)

    install-lasts : (q : Pair) → Lasts (install_row b q)
    install-lasts q = at (is_takeable b q) refl
      where
        at : (t : Bool) → is_takeable b q ≡ t → Lasts (let r : Transition = cond t (proposed_row b q (entry_of b.entries q.endpoint)) (answering (rec.Refuse q.key)) in r)
        at true g = proposed-lasts q (entry_of b.entries q.endpoint) refl (takes b q g).free
        at false g = inl (y, s, mine)

    told-lasts : (q : Pair) → Lasts (told_row b q)
    told-lasts q = at (is_takeable b q) refl
      where
        at : (t : Bool) → is_takeable b q ≡ t → Lasts (let r : Transition = cond t (taking q) (answering (rec.Refuse q.key)) in r)
        at true g = taking-lasts q (takes b q g).free
        at false g = inl (y, s, mine)

    synced-lasts : (r : Record) (rests : Bool) → Lasts (synced_row b rests r)
    synced-lasts (rec.Install q) rests = install-lasts q
    synced-lasts (rec.Accept k) rests = at (slot_of b.entries k) refl
      where
        at : (o : Option Entry) → slot_of b.entries k ≡ o → Lasts (accept_row o)
        at None h = quiet-lasts
        at (Some w) h = accepted-lasts w w.state refl (at-key b.entries k w h)
    synced-lasts (rec.Refuse k) rests = at (slot_of b.entries k) refl
      where
        at : (o : Option Entry) → slot_of b.entries k ≡ o → Lasts (refuse_row o)
        at None h = quiet-lasts
        at (Some w) h = refused-lasts w w.state refl (at-key b.entries k w h)
    synced-lasts (rec.Ask k) rests = at (slot_of b.entries k) refl
      where
        at : (o : Option Entry) → slot_of b.entries k ≡ o → Lasts (ask_row k rests o)
        at None h = inl (y, s, mine)
        at (Some w) h = asked-lasts w rests w.state (at-key b.entries k w h)
    synced-lasts (rec.Yes k) rests = at (slot_of b.entries k) refl
      where
        at : (o : Option Entry) → slot_of b.entries k ≡ o → Lasts (yes_row o)
        at None h = quiet-lasts
        at (Some w) h = left-lasts w w.state refl (at-key b.entries k w h)
    synced-lasts (rec.No k) rests = at (slot_of b.entries k) refl
      where
        at : (o : Option Entry) → slot_of b.entries k ≡ o → Lasts (no_row o)
        at None h = quiet-lasts
        at (Some w) h = stayed-lasts w w.state refl (at-key b.entries k w h)
    synced-lasts rec.Begin rests = quiet-lasts
    synced-lasts (rec.Put q) rests = quiet-lasts
    synced-lasts rec.Done rests = quiet-lasts
    synced-lasts rec.Want rests = inl (y, s, mine)
    synced-lasts (rec.Grant g) rests = grant-lasts g
    synced-lasts (rec.Owner first last) rests = quiet-lasts
    synced-lasts (rec.Tell q) rests = told-lasts q

    row-lasts : (rests : Bool) (r : Record) → Lasts (row_of b rests r)
    row-lasts rests r = at (is_promised b)
      where
        at : (t : Bool) → Lasts (let w : Transition = cond t quiet (synced_row b rests r) in w)
        at true = quiet-lasts
        at false = synced-lasts r rests

-- ---- the laws

seen-by : (b : Book) (x : Endpoint) (p : Pair) (r : Transition) → IsBook (after b r) → GoesOn b x p r → serving (after b r) x ≡ Some p
seen-by b x p r is g = serving-seen (after b r).entries x g.0 is.keys is.endpoints g.1 ∙ ap (λ (q : Pair). Some q) g.2

seen-or : (b : Book) (x : Endpoint) (p : Pair) (r : Transition) → IsBook (after b r) → (GoesOn b x p r ⊎ (r.what ≡ Some (happens.Released p))) → Stays (after b r) x p r.what
seen-or b x p r is (inl g) = inl (seen-by b x p r is g)
seen-or b x p r is (inr h) = inr h

pub wish-moves-none : (b : Book) (apart full : Bool) (e x : Endpoint) (p : Pair) → IsBook b → IsWellFormedEndpoint e → serving b x ≡ Some p → serving (after b (wish_of b apart full e).row) x ≡ Some p
wish-moves-none b apart full e x p is formed h =
    let w = serving-found b.entries x p is.keys h in
    seen-by b x p (wish_of b apart full e).row (wish-keeps b apart full e is formed) (wish-goes b x p w.0 w.1 w.2 apart full e h)

pub idle-moves-none : (b : Book) (ask : Bool) (k : Key) (x : Endpoint) (p : Pair) → IsBook b → serving b x ≡ Some p → Stays (after b (idle_row b ask k)) x p (idle_row b ask k).what
idle-moves-none b ask k x p is h =
    let w = serving-found b.entries x p is.keys h in
    seen-or b x p (idle_row b ask k) (idle-keeps b ask k is) (idle-lasts b x p w.0 w.1 w.2 ask k)

pub alone-moves-none : (b : Book) (apart full : Bool) (k : Key) (x : Endpoint) (p : Pair) → IsBook b → serving b x ≡ Some p → serving (after b (alone_row b apart full k)) x ≡ Some p
alone-moves-none b apart full k x p is h =
    let w = serving-found b.entries x p is.keys h in
    seen-by b x p (alone_row b apart full k) (alone-row-keeps b apart full k is) (alone-goes b x p w.0 w.1 w.2 apart full k)

pub taken-moves-none : (b : Book) (rests : Bool) (r : Record) (x : Endpoint) (p : Pair) → IsBook b → IsWellFormedRecord r → is_synced b.stage ≡ true → serving b x ≡ Some p → Stays (taken_book b rests r) x p (taken_what b rests r)
taken-moves-none b rests r x p is formed synced h = at (is_synced b.stage) synced (taken-keeps b rests r is formed)
  where
    at : (t : Bool) → t ≡ true → IsBook (let b2 : Book = cond t (after b (row_of b rests r)) (unsynced_after b r) in b2)
        → Stays (let b2 : Book = cond t (after b (row_of b rests r)) (unsynced_after b r) in b2) x p (let w : Option NoteKind = cond t (row_of b rests r).what (unsynced_what b r) in w)
    at true on still = (let w = serving-found b.entries x p is.keys h in seen-or b x p (row_of b rests r) still (row-lasts b x p w.0 w.1 w.2 is rests r))
    at false on still = absurd (cc)

-- an endpoint's pair is so too once the pairs are revived
revived-serves : (es : List Entry) (x : Endpoint) (p : Pair) → HasDistinctKeys es → IsOneToOne es → serving_by (entry_of es x) ≡ Some p → serving_by (entry_of (revived_entries es) x) ≡ Some p
revived-serves es x p keys one h =
    let w = serving-found es x p keys h in
    let y = w.0 in
    let s : Serves es x y = w.1 in
    let parts = translating-pair y.state s.live in
    serving-seen (revived_entries es) x (woken_entry y) (keys-revived es keys) (one-revived es keys one)
    (record {
      found = slot-revived es y.pair.key keys ∙ ap revived_slot s.found ∙ cond-true (is_pair y.state) (Some (woken_entry y)) None parts.0;
      endpoint = s.endpoint;
      live = parts.1;
      alone = λ no_ q z there own same.
          let was = was-there es q z keys there in
          s.alone (sym (woken-rank First y.state parts.0) ∙ no_) q was.entry was.found
          (sym (woken-rank First was.entry.state was.pair) ∙ sym (ap (is_of_rank First) was.state) ∙ own)
          (ap (λ (q : Pair). q.endpoint) (sym was.same) ∙ same);
    })
    ∙ ap (λ (q : Pair). Some q) w.2

pub restart-moves-none : (b : Book) (x : Endpoint) (p : Pair) → IsBook b → is_synced b.stage ≡ true → serving b x ≡ Some p → serving (restarted b) x ≡ Some p
restart-moves-none b x p is synced h =
    ap (λ (c : Book). serving c x) (cond-true (is_synced b.stage) (begun_anew b) (emptied b) synced) ∙ revived-serves b.entries x p is.keys is.endpoints h

pub word-moves-none : (b : Book) (x : Endpoint) (p : Pair) → IsBook b → serving b x ≡ Some p → serving (put_lone b) x ≡ Some p
word-moves-none b x p is h = revived-serves b.entries x p is.keys is.endpoints h
