-- Whose wait a record ends.
use Rattle.std.proofs.Common.{◌≡◌, Bool, true, false, cond, Option, Some, None, inl, inr, List, refl, sym, ap, subst, ◌∙◌}
use Rattle.std.specs.Prelude.{◌↔◌}
use Rattle.std.proofs.lemmas.Bool.{both_ways, cases_Bool, cond-true, cond-false, false_from_ne_true}
use Rattle.nat_types.specs.Same.{same_key}
use Rattle.nat_types.proofs.Offered.{key-eq, key-true}
use Rattle.nat_types.specs.Granted.{Granted}
use Rattle.nat_types.specs.declared.gateways.GatewayId.{GatewayId}
use Rattle.nat_types.specs.declared.notes.NoteKind.TheVariants as happens
use Rattle.nat_types.specs.declared.pairs.EntryState.{EntryState}
use Rattle.nat_types.specs.declared.pairs.EntryState.TheVariants as state
use Rattle.nat_types.specs.declared.pairs.Endpoint.{Endpoint}
use Rattle.nat_types.specs.declared.pairs.Key.{Key}
use Rattle.nat_types.specs.declared.pairs.Pair.{Pair}
use Rattle.nat_types.specs.declared.records.Record.{Record}
use Rattle.nat_types.specs.declared.records.Record.TheVariants as rec
use Rattle.std.specs.Option.{option_or}
use Rattle.slots.specs.declared.ranks.Rank.TheVariants.{First, Second}
use Rattle.bindings.specs.declared.entries.Entry.{Entry}
use Rattle.bindings.specs.Entries.{slot_of, entry_of, entry_on, entry_in, is_of_rank, set_at}
use Rattle.bindings.specs.Lists.{put_in, with_state, without, IsOneToOne}
use Rattle.bindings.proofs.Offered.{slot-without, slot-with_state, slot-put, entry-serves, entry-slot, found-slot, ranked-serves}
use Rattle.link.specs.Grammar.{IsWellFormedRecord}
use Rattle.spec_binding.specs.declared.changes.Change.TheVariants.{Add, Yield, Gain}
use Rattle.spec_binding.specs.declared.changes.Transition.{Transition}
use Rattle.spec_binding.specs.Books.{Book, IsBook, is_paired, is_promised, is_synced}
use Rattle.spec_binding.specs.Rows.{accept_row, accepted_row, after, alone_row, answering, ask_row, asked_row, changed, ending, gives_way, grant_row, install_row, is_takeable, left_row, marked_row, no_row, numbers_of, proposed_row, quiet, refuse_row, refused_row, row, row_of, sought_row, stayed_row, synced_row, taken_book, taken_ended, taking, telling_row, told_row, unsynced_after, want_row, yes_row}
use Rattle.spec_binding.specs.Waits.{is_pending, is_waiting, waits_by}
use Rattle.spec_binding.proofs.Keeping.{alone-row-keeps, taken-keeps}
use Rattle.spec_binding.proofs.Members.{gained-is}
use Rattle.spec_binding.proofs.Taking.{takes, unranked}
use Rattle.spec_binding.proofs.Wishing.{at-key}

-- ---- waits by slots

-- some key has an own proposal for the endpoint
record Waits (es : List Entry) (e : Endpoint) : Type 0 where
  key : Key
  entry : Entry
  found : slot_of es key ≡ Some entry
  pending : entry.state ≡ state.Pending false
  endpoint : entry.pair.endpoint ≡ e

pending-is : (s : EntryState) → is_pending s ≡ true → s ≡ state.Pending false
pending-is (state.Pending true) h = cc
pending-is (state.Pending false) h = refl
pending-is state.Doomed h = cc
pending-is state.Live h = cc
pending-is (state.Closing m) h = cc
pending-is state.Alone h = cc
pending-is state.Held h = cc

pending-own : (s : EntryState) → s ≡ state.Pending false → is_of_rank First s ≡ true
pending-own s is = ap (is_of_rank First) is

waits-found : (b : Book) (e : Endpoint) → IsBook b → is_waiting b e ≡ true → Waits b.entries e
waits-found b e is = at (entry_of b.entries e) refl
  where
    at : (o : Option Entry) → entry_of b.entries e ≡ o → waits_by o ≡ true → Waits b.entries e
    at None there h = cc
    at (Some x) there h = record {
      key = x.pair.key;
      entry = x;
      found = entry-slot b.entries e x is.keys there;
      pending = pending-is x.state h;
      endpoint = (entry-serves b.entries e x there).1;
    }

waits-seen : (b : Book) (e : Endpoint) → IsBook b → Waits b.entries e → is_waiting b e ≡ true
waits-seen b e is w = at (entry_on First b.entries e) refl
  where
    own : is_of_rank First w.entry.state ≡ true
    own = pending-own w.entry.state w.pending

    at : (o : Option Entry) → entry_on First b.entries e ≡ o → waits_by (option_or o (entry_on Second b.entries e)) ≡ true
    at None there = absurd (unranked b.entries First e w.key w.entry there w.found own w.endpoint)
    at (Some y) there =
        let parts = ranked-serves First b.entries e y there in
        let here : slot_of b.entries y.pair.key ≡ Some y = found-slot _ b.entries y is.keys there in
        let one : w.key ≡ y.pair.key = is.endpoints w.key y.pair.key w.entry y First w.found here own parts.0 (w.endpoint ∙ sym parts.1) in
        let both : Some w.entry ≡ Some y = sym w.found ∙ ap (slot_of b.entries) one ∙ here in
        let same : w.entry ≡ y = cc in
        ap (λ (z : Entry). is_pending z.state) (sym same) ∙ ap is_pending w.pending

-- ---- a key's proposal is lost, and no other changes

record Loses (es es2 : List Entry) (k : Key) (x : Entry) : Type 0 where
  found : slot_of es k ≡ Some x
  stays : (q : Key) (y : Entry) → same_key k q ≡ false → slot_of es q ≡ Some y → y.state ≡ state.Pending false → slot_of es2 q ≡ Some y
  back : (q : Key) (y : Entry) → slot_of es2 q ≡ Some y → y.state ≡ state.Pending false → (same_key k q ≡ false) × (slot_of es q ≡ Some y)

lost : (es es2 : List Entry) (k : Key) (x : Entry) (e : Endpoint) → IsOneToOne es → Loses es es2 k x → x.state ≡ state.Pending false → x.pair.endpoint ≡ e → Waits es e × (Waits es2 e → ⊥)
lost es es2 k x e one l pending serves = (
  record { key = k; entry = x; found = l.found; pending = pending; endpoint = serves },
  λ w.
      let parts = l.back w.key w.entry w.found w.pending in
      both_ways (same_key k w.key) parts.0
      (key-true k w.key (one k w.key x w.entry First l.found parts.1 (pending-own x.state pending) (pending-own w.entry.state w.pending) (serves ∙ sym w.endpoint))),
)

was-lost : (es es2 : List Entry) (k : Key) (x : Entry) (e : Endpoint) → Loses es es2 k x → Waits es e → (Waits es2 e → ⊥) → (x.state ≡ state.Pending false) × (x.pair.endpoint ≡ e)
was-lost es es2 k x e l w gone = elim (cases_Bool (same_key k w.key)) [
  | inl same ↦
      (let both : Some x ≡ Some w.entry = sym l.found ∙ ap (slot_of es) (key-eq k w.key same) ∙ w.found in
      let one : x ≡ w.entry = cc in
      (ap (λ (z : Entry). z.state) one ∙ w.pending, ap (λ (z : Entry). z.pair.endpoint) one ∙ w.endpoint))
  | inr other ↦ absurd (gone record { key = w.key; entry = w.entry; found = l.stays w.key w.entry other w.found w.pending; pending = w.pending; endpoint = w.endpoint })
]

set-loses : (es es2 : List Entry) (k : Key) (x : Entry) (o : Option Entry) → slot_of es k ≡ Some x → ((q : Key) → slot_of es2 q ≡ set_at (slot_of es) k o q) → ((y : Entry) → o ≡ Some y → y.state ≡ state.Pending false → ⊥) → Loses es es2 k x
set-loses es es2 k x o found slots settled = record {
  found = found;
  stays = λ q y other h pending. slots q ∙ cond-false (same_key k q) o (slot_of es q) other ∙ h;
  back = λ q y h pending. elim (cases_Bool (same_key k q)) [
    | inl same ↦ absurd (settled y (sym (slots q ∙ cond-true (same_key k q) o (slot_of es q) same) ∙ h) pending)
    | inr other ↦ (other, sym (slots q ∙ cond-false (same_key k q) o (slot_of es q) other) ∙ h)
  ];
}

-- where an entry that is no proposal is added besides, the key's proposal is still the only one lost
more-loses : (es es1 es2 : List Entry) (k k2 : Key) (x z : Entry) → Loses es es1 k x → slot_of es1 k2 ≡ None → ((q : Key) → slot_of es2 q ≡ set_at (slot_of es1) k2 (Some z) q) → (z.state ≡ state.Pending false → ⊥) → Loses es es2 k x
more-loses es es1 es2 k k2 x z l free slots settled = record {
  found = l.found;
  stays = λ q y other h pending.
      let there = l.stays q y other h pending in
      slots q ∙ cond-false (same_key k2 q) (Some z) (slot_of es1 q) (false_from_ne_true (same_key k2 q) (λ same. let clash : slot_of es1 k2 ≡ Some y = ap (slot_of es1) (key-eq k2 q same) ∙ there in cc)) ∙ there;
  back = λ q y h pending. elim (cases_Bool (same_key k2 q)) [
    | inl same ↦
        (let both : Some z ≡ Some y = sym (slots q ∙ cond-true (same_key k2 q) (Some z) (slot_of es1 q) same) ∙ h in
        let one : z ≡ y = cc in
        absurd (settled (ap (λ (u : Entry). u.state) one ∙ pending)))
    | inr other ↦ l.back q y (sym (slots q ∙ cond-false (same_key k2 q) (Some z) (slot_of es1 q) other) ∙ h) pending
  ];
}

-- ---- rows

-- the row ends exactly the waits that its change ends
record Ends (b : Book) (r : Transition) : Type 0 where
  ended : (e : Endpoint) → r.ended ≡ Some e → Waits b.entries e × (Waits (changed r.change b).entries e → ⊥)
  only : (e : Endpoint) → Waits b.entries e → (Waits (changed r.change b).entries e → ⊥) → r.ended ≡ Some e

kept-ends : (b : Book) (r : Transition) → r.ended ≡ None → (changed r.change b).entries ≡ b.entries → Ends b r
kept-ends b r none same = record {
  ended = λ e h. absurd (let bad : None ≡ Some e = sym none ∙ h in cc);
  only = λ e w gone. absurd (gone (subst (λ (es : List Entry). Waits es e) (sym same) w));
}

lost-ends : (b : Book) (r : Transition) (k : Key) (x : Entry) → IsBook b → r.ended ≡ Some x.pair.endpoint → x.state ≡ state.Pending false → Loses b.entries (changed r.change b).entries k x → Ends b r
lost-ends b r k x is some pending l = record {
  ended = λ e h. lost b.entries (changed r.change b).entries k x e is.endpoints l pending (let both : Some x.pair.endpoint ≡ Some e = sym some ∙ h in cc);
  only = λ e w gone. some ∙ ap (λ (z : Endpoint). Some z) (was-lost b.entries (changed r.change b).entries k x e l w gone).1;
}

quiet-ends : (b : Book) → Ends b quiet
quiet-ends b = kept-ends b quiet refl refl

-- where the entry at the key was no proposal, no wait ends
other-ends : (b : Book) (r : Transition) (k : Key) (x : Entry) → r.ended ≡ None → (x.state ≡ state.Pending false → ⊥) → Loses b.entries (changed r.change b).entries k x → Ends b r
other-ends b r k x none settled l = record {
  ended = λ e h. absurd (let bad : None ≡ Some e = sym none ∙ h in cc);
  only = λ e w gone. absurd (settled (was-lost b.entries (changed r.change b).entries k x e l w gone).0);
}

turned : (es : List Entry) (k : Key) (x : Entry) (s : EntryState) → slot_of es k ≡ Some x → (s ≡ state.Pending false → ⊥) → Loses es (with_state k s es) k x
turned es k x s found settled =
    set-loses es (with_state k s es) k x (Some (entry_in s x.pair)) found (λ q. slot-with_state k s es x q found)
    (λ y is pending. let same : entry_in s x.pair ≡ y = cc in settled (ap (λ (z : Entry). z.state) same ∙ pending))

dropped : (es : List Entry) (k : Key) (x : Entry) → slot_of es k ≡ Some x → Loses es (without k es) k x
dropped es k x found = set-loses es (without k es) k x None found (λ q. slot-without k es q) (λ y is pending. absurd (cc))

live-settled : state.Live ≡ state.Pending false → ⊥
live-settled h = let bad : is_pending state.Live ≡ is_pending (state.Pending false) = ap is_pending h in cc

doomed-settled : state.Doomed ≡ state.Pending false → ⊥
doomed-settled h = let bad : is_pending state.Doomed ≡ is_pending (state.Pending false) = ap is_pending h in cc

closing-settled : (m : Bool) → state.Closing m ≡ state.Pending false → ⊥
closing-settled m h = let bad : is_pending (state.Closing m) ≡ is_pending (state.Pending false) = ap is_pending h in cc

marked-settled : state.Pending true ≡ state.Pending false → ⊥
marked-settled h = let bad : is_pending (state.Pending true) ≡ is_pending (state.Pending false) = ap is_pending h in cc

alone-settled : state.Alone ≡ state.Pending false → ⊥
alone-settled h = let bad : is_pending state.Alone ≡ is_pending (state.Pending false) = ap is_pending h in cc

held-settled : state.Held ≡ state.Pending false → ⊥
held-settled h = let bad : is_pending state.Held ≡ is_pending (state.Pending false) = ap is_pending h in cc

module _ (b : Book) (is : IsBook b) where
  accepted-ends : (x : Entry) (s : EntryState) → x.state ≡ s → slot_of b.entries x.pair.key ≡ Some x → Ends b (accepted_row x.pair s)
  accepted-ends x (state.Pending true) at found = other-ends b (accepted_row x.pair (state.Pending true)) x.pair.key x refl (λ h. marked-settled (sym at ∙ h)) (turned b.entries x.pair.key x state.Live found live-settled)
  accepted-ends x (state.Pending false) at found = lost-ends b (accepted_row x.pair (state.Pending false)) x.pair.key x is refl at (turned b.entries x.pair.key x state.Live found live-settled)
  accepted-ends x state.Doomed at found = quiet-ends b
  accepted-ends x state.Live at found = quiet-ends b
  accepted-ends x (state.Closing m) at found = quiet-ends b
  accepted-ends x state.Alone at found = quiet-ends b
  accepted-ends x state.Held at found = quiet-ends b

  refused-ends : (x : Entry) (s : EntryState) → x.state ≡ s → slot_of b.entries x.pair.key ≡ Some x → Ends b (refused_row x.pair s)
  refused-ends x (state.Pending true) at found = other-ends b (refused_row x.pair (state.Pending true)) x.pair.key x refl (λ h. marked-settled (sym at ∙ h)) (turned b.entries x.pair.key x state.Alone found alone-settled)
  refused-ends x (state.Pending false) at found = lost-ends b (refused_row x.pair (state.Pending false)) x.pair.key x is refl at (dropped b.entries x.pair.key x found)
  refused-ends x state.Doomed at found = other-ends b (refused_row x.pair state.Doomed) x.pair.key x refl (λ h. doomed-settled (sym at ∙ h)) (dropped b.entries x.pair.key x found)
  refused-ends x state.Live at found = quiet-ends b
  refused-ends x (state.Closing m) at found = quiet-ends b
  refused-ends x state.Alone at found = quiet-ends b
  refused-ends x state.Held at found = quiet-ends b

  asked-ends : (x : Entry) (rests : Bool) (s : EntryState) → x.state ≡ s → slot_of b.entries x.pair.key ≡ Some x → Ends b (asked_row x.pair rests s)
  asked-ends x rests (state.Pending m) at found = kept-ends b (asked_row x.pair rests (state.Pending m)) refl refl
  asked-ends x rests state.Doomed at found = kept-ends b (asked_row x.pair rests state.Doomed) refl refl
  asked-ends x rests state.Live at found = kept-ends b (asked_row x.pair rests state.Live) refl refl
  asked-ends x rests (state.Closing m) at found = kept-ends b (asked_row x.pair rests (state.Closing m)) refl refl
  asked-ends x rests state.Alone at found = kept-ends b (asked_row x.pair rests state.Alone) refl refl
  asked-ends x true state.Held at found = other-ends b (asked_row x.pair true state.Held) x.pair.key x refl (λ h. held-settled (sym at ∙ h)) (dropped b.entries x.pair.key x found)
  asked-ends x false state.Held at found = kept-ends b (asked_row x.pair false state.Held) refl refl

  left-ends : (x : Entry) (s : EntryState) → x.state ≡ s → slot_of b.entries x.pair.key ≡ Some x → Ends b (left_row x.pair s)
  left-ends x (state.Pending m) at found = quiet-ends b
  left-ends x state.Doomed at found = quiet-ends b
  left-ends x state.Live at found = quiet-ends b
  left-ends x (state.Closing true) at found = other-ends b (left_row x.pair (state.Closing true)) x.pair.key x refl (λ h. closing-settled true (sym at ∙ h)) (turned b.entries x.pair.key x state.Alone found alone-settled)
  left-ends x (state.Closing false) at found = other-ends b (left_row x.pair (state.Closing false)) x.pair.key x refl (λ h. closing-settled false (sym at ∙ h)) (dropped b.entries x.pair.key x found)
  left-ends x state.Alone at found = quiet-ends b
  left-ends x state.Held at found = quiet-ends b

  stayed-ends : (x : Entry) (s : EntryState) → x.state ≡ s → slot_of b.entries x.pair.key ≡ Some x → Ends b (stayed_row x.pair s)
  stayed-ends x (state.Pending m) at found = quiet-ends b
  stayed-ends x state.Doomed at found = quiet-ends b
  stayed-ends x state.Live at found = quiet-ends b
  stayed-ends x (state.Closing m) at found = other-ends b (stayed_row x.pair (state.Closing m)) x.pair.key x refl (λ h. closing-settled m (sym at ∙ h)) (turned b.entries x.pair.key x state.Live found live-settled)
  stayed-ends x state.Alone at found = quiet-ends b
  stayed-ends x state.Held at found = quiet-ends b

  ways : (i : GatewayId) (s : EntryState) → gives_way i s ≡ true → s ≡ state.Pending false
  ways i (state.Pending true) g = cc
  ways i (state.Pending false) g = refl
  ways i state.Doomed g = cc
  ways i state.Live g = cc
  ways i (state.Closing m) g = cc
  ways i state.Alone g = cc
  ways i state.Held g = cc

  -- where the own proposal gives way, the wait of its endpoint ends
  yielded : (p : Pair) (x : Entry) → slot_of b.entries x.pair.key ≡ Some x → slot_of b.entries p.key ≡ None → Loses b.entries (put_in (entry_in state.Held p) (with_state x.pair.key state.Doomed b.entries)) x.pair.key x
  yielded p x found free =
      more-loses b.entries (with_state x.pair.key state.Doomed b.entries) (put_in (entry_in state.Held p) (with_state x.pair.key state.Doomed b.entries)) x.pair.key p.key x (entry_in state.Held p)
      (turned b.entries x.pair.key x state.Doomed found doomed-settled) vacant (λ q. slot-put (entry_in state.Held p) (with_state x.pair.key state.Doomed b.entries) q vacant) held-settled
    where
      vacant : slot_of (with_state x.pair.key state.Doomed b.entries) p.key ≡ None
      vacant =
          slot-with_state x.pair.key state.Doomed b.entries x p.key found
          ∙ cond-false (same_key x.pair.key p.key) (Some (entry_in state.Doomed x.pair)) (slot_of b.entries p.key)
          (false_from_ne_true (same_key x.pair.key p.key) (λ same. let clash : slot_of b.entries p.key ≡ Some x = ap (slot_of b.entries) (sym (key-eq x.pair.key p.key same)) ∙ found in cc))
          ∙ free

  -- where the peer's pair is added, no wait ends
  added-ends : (p : Pair) → slot_of b.entries p.key ≡ None → Ends b (row (Add (entry_in state.Held p)) (Some (rec.Accept p.key)) (Some (happens.Retaken p)))
  added-ends p free = record {
    ended = λ e h. absurd (cc);
    only = λ e w gone. absurd (gone record {
      key = w.key;
      entry = w.entry;
      found = slot-put (entry_in state.Held p) b.entries w.key free
          ∙ cond-false (same_key p.key w.key) (Some (entry_in state.Held p)) (slot_of b.entries w.key)
          (false_from_ne_true (same_key p.key w.key) (λ same. let there = w.found in let clash : slot_of b.entries p.key ≡ Some w.entry = ap (slot_of b.entries) (key-eq p.key w.key same) ∙ there in cc))
          ∙ w.found;
      pending = w.pending;
      endpoint = w.endpoint;
    });
  }

  proposed-ends : (p : Pair) (o : Option Entry) → entry_of b.entries p.endpoint ≡ o → slot_of b.entries p.key ≡ None → Ends b (proposed_row b p o)
  proposed-ends p None none free = added-ends p free
  proposed-ends p (Some x) there free = at (gives_way b.id x.state) refl
    where
      at : (t : Bool) → gives_way b.id x.state ≡ t → Ends b (let r : Transition = cond t (ending p.endpoint (row (Yield x.pair.key p) (Some (rec.Accept p.key)) (Some (happens.Retaken p)))) (answering (rec.Refuse p.key)) in r)
      at true g =
          lost-ends b (ending p.endpoint (row (Yield x.pair.key p) (Some (rec.Accept p.key)) (Some (happens.Retaken p)))) x.pair.key x is
          (ap (λ (z : Endpoint). Some z) (sym (entry-serves b.entries p.endpoint x there).1)) (ways b.id x.state g) (yielded p x (entry-slot b.entries p.endpoint x is.keys there) free)
      at false g = kept-ends b (answering (rec.Refuse p.key)) refl refl

  install-ends : (p : Pair) → Ends b (install_row b p)
  install-ends p = at (is_takeable b p) refl
    where
      at : (t : Bool) → is_takeable b p ≡ t → Ends b (let r : Transition = cond t (proposed_row b p (entry_of b.entries p.endpoint)) (answering (rec.Refuse p.key)) in r)
      at true g = proposed-ends p (entry_of b.entries p.endpoint) refl (takes b p g).free
      at false g = kept-ends b (answering (rec.Refuse p.key)) refl refl

  told-ends : (p : Pair) → Ends b (told_row b p)
  told-ends p = at (is_takeable b p) refl
    where
      at : (t : Bool) → is_takeable b p ≡ t → Ends b (let r : Transition = cond t (taking p) (answering (rec.Refuse p.key)) in r)
      at true g = added-ends p (takes b p g).free
      at false g = kept-ends b (answering (rec.Refuse p.key)) refl refl

  grant-ends : (g : Granted) → Ends b (grant_row b g)
  grant-ends g = at b.wants
    where
      at : (t : Bool) → Ends b (let r : Transition = cond t (row (Gain g) None None) quiet in r)
      at true = kept-ends b (row (Gain g) None None) refl (ap (λ (z : Book). z.entries) (gained-is b (numbers_of g)))
      at false = quiet-ends b

  synced-ends : (r : Record) (rests : Bool) → Ends b (synced_row b rests r)
  synced-ends (rec.Install p) rests = install-ends p
  synced-ends (rec.Accept k) rests = at (slot_of b.entries k) refl
    where
      at : (o : Option Entry) → slot_of b.entries k ≡ o → Ends b (accept_row o)
      at None h = quiet-ends b
      at (Some x) h = accepted-ends x x.state refl (at-key b.entries k x h)
  synced-ends (rec.Refuse k) rests = at (slot_of b.entries k) refl
    where
      at : (o : Option Entry) → slot_of b.entries k ≡ o → Ends b (refuse_row o)
      at None h = quiet-ends b
      at (Some x) h = refused-ends x x.state refl (at-key b.entries k x h)
  synced-ends (rec.Ask k) rests = at (slot_of b.entries k) refl
    where
      at : (o : Option Entry) → slot_of b.entries k ≡ o → Ends b (ask_row k rests o)
      at None h = kept-ends b (answering (rec.Yes k)) refl refl
      at (Some x) h = asked-ends x rests x.state refl (at-key b.entries k x h)
  synced-ends (rec.Yes k) rests = at (slot_of b.entries k) refl
    where
      at : (o : Option Entry) → slot_of b.entries k ≡ o → Ends b (yes_row o)
      at None h = quiet-ends b
      at (Some x) h = left-ends x x.state refl (at-key b.entries k x h)
  synced-ends (rec.No k) rests = at (slot_of b.entries k) refl
    where
      at : (o : Option Entry) → slot_of b.entries k ≡ o → Ends b (no_row o)
      at None h = quiet-ends b
      at (Some x) h = stayed-ends x x.state refl (at-key b.entries k x h)
  synced-ends rec.Begin rests = quiet-ends b
  synced-ends (rec.Put p) rests = quiet-ends b
  synced-ends rec.Done rests = quiet-ends b
  synced-ends rec.Want rests = kept-ends b (want_row b) refl refl
  synced-ends (rec.Grant g) rests = grant-ends g
  synced-ends (rec.Owner first last) rests = quiet-ends b
  synced-ends (rec.Tell p) rests = told-ends p

  row-ends : (rests : Bool) (r : Record) → Ends b (row_of b rests r)
  row-ends rests r = at (is_promised b)
    where
      at : (t : Bool) → Ends b (let w : Transition = cond t quiet (synced_row b rests r) in w)
      at true = quiet-ends b
      at false = synced-ends r rests

  -- ---- a pair that is marked, or told of, at a tick

  marked-ends : (x : Entry) (s : EntryState) → x.state ≡ s → slot_of b.entries x.pair.key ≡ Some x → Ends b (marked_row x.pair s)
  marked-ends x (state.Pending true) at found = quiet-ends b
  marked-ends x (state.Pending false) at found = lost-ends b (marked_row x.pair (state.Pending false)) x.pair.key x is refl at (turned b.entries x.pair.key x (state.Pending true) found marked-settled)
  marked-ends x state.Doomed at found = quiet-ends b
  marked-ends x state.Live at found = quiet-ends b
  marked-ends x (state.Closing true) at found = quiet-ends b
  marked-ends x (state.Closing false) at found = other-ends b (marked_row x.pair (state.Closing false)) x.pair.key x refl (λ h. closing-settled false (sym at ∙ h)) (turned b.entries x.pair.key x (state.Closing true) found (closing-settled true))
  marked-ends x state.Alone at found = quiet-ends b
  marked-ends x state.Held at found = quiet-ends b

  telling-ends : (full : Bool) (x : Entry) (s : EntryState) → x.state ≡ s → slot_of b.entries x.pair.key ≡ Some x → Ends b (telling_row full x.pair s)
  telling-ends full x (state.Pending m) at found = quiet-ends b
  telling-ends full x state.Doomed at found = quiet-ends b
  telling-ends full x state.Live at found = quiet-ends b
  telling-ends full x (state.Closing m) at found = quiet-ends b
  telling-ends true x state.Alone at found = quiet-ends b
  telling-ends false x state.Alone at found = other-ends b (telling_row false x.pair state.Alone) x.pair.key x refl (λ h. alone-settled (sym at ∙ h)) (turned b.entries x.pair.key x (state.Pending true) found marked-settled)
  telling-ends full x state.Held at found = quiet-ends b

  alone-ends : (apart full : Bool) (k : Key) → Ends b (alone_row b apart full k)
  alone-ends apart full k = at (is_paired b.stage) apart (slot_of b.entries k) refl
    where
      at : (t apart : Bool) (o : Option Entry) → slot_of b.entries k ≡ o → Ends b (let r : Transition = cond t (sought_row apart full o) quiet in r)
      at false apart o there = quiet-ends b
      at true apart None there = quiet-ends b
      at true true (Some x) there = marked-ends x x.state refl (at-key b.entries k x there)
      at true false (Some x) there = telling-ends full x x.state refl (at-key b.entries k x there)

-- what a tick marks or tells ends the waits of exactly those endpoints that waited before it and don't after it
pub ends-ticked : (b : Book) (apart full : Bool) (k : Key) (e : Endpoint) → IsBook b
    → ((alone_row b apart full k).ended ≡ Some e) ↔ ((is_waiting b e ≡ true) × (is_waiting (after b (alone_row b apart full k)) e ≡ false))
ends-ticked b apart full k e is = (
  λ h.
      let parts = ends.ended e h in
      (waits-seen b e is parts.0, false_from_ne_true (is_waiting next e) (λ again. parts.1 (waits-found next e then_ again))),
  λ h. ends.only e (waits-found b e is h.0) (λ w. both_ways (is_waiting next e) h.1 (waits-seen next e then_ w)),
)
  where
    next : Book
    next = after b (alone_row b apart full k)

    ends : Ends b (alone_row b apart full k)
    ends = alone-ends b is apart full k

    then_ : IsBook next
    then_ = alone-row-keeps b apart full k is

-- at a synced gateway a record ends the waits of exactly those endpoints that waited before it and don't after it
pub ends-waits : (b : Book) (rests : Bool) (r : Record) (e : Endpoint) → IsBook b → IsWellFormedRecord r → is_synced b.stage ≡ true
    → (taken_ended b rests r ≡ Some e) ↔ ((is_waiting b e ≡ true) × (is_waiting (taken_book b rests r) e ≡ false))
ends-waits b rests r e is formed synced = (
  λ h.
      let parts = ends.ended e (sym named ∙ h) in
      (waits-seen b e is parts.0, false_from_ne_true (is_waiting (taken_book b rests r) e) (λ again. parts.1 (subst (λ (z : Book). Waits z.entries e) book (waits-found (taken_book b rests r) e then_ again)))),
  λ h.
      named ∙ ends.only e (waits-found b e is h.0) (λ w. both_ways (is_waiting (taken_book b rests r) e) h.1 (waits-seen (taken_book b rests r) e then_ (subst (λ (z : Book). Waits z.entries e) (sym book) w))),
)
  where
    ends : Ends b (row_of b rests r)
    ends = row-ends b is rests r

    then_ : IsBook (taken_book b rests r)
    then_ = taken-keeps b rests r is formed

    book : taken_book b rests r ≡ after b (row_of b rests r)
    book = ap (λ (t : Bool). let z : Book = cond t (after b (row_of b rests r)) (unsynced_after b r) in z) synced

    named : taken_ended b rests r ≡ (row_of b rests r).ended
    named = ap (λ (t : Bool). let z : Option Endpoint = cond t (row_of b rests r).ended None in z) synced

pub none-ends : (b : Book) (rests : Bool) (r : Record) → is_synced b.stage ≡ false → taken_ended b rests r ≡ None
none-ends b rests r loads = ap (λ (t : Bool). let z : Option Endpoint = cond t (row_of b rests r).ended None in z) loads
