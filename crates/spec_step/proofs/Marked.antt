-- At a tick no marked pair is released: an idle pair that is released has an entry without a mark, and nothing else at a
-- tick releases a pair.
use Rattle.std.proofs.Common.{◌≡◌, ℕ, Bool, true, false, cond, List, [], ◌∷◌, ◌++◌, Option, Some, None, refl, sym, ap, subst, ◌∙◌, append_assoc}
use Rattle.std.specs.List.{AllByRecursion}
use Rattle.std.proofs.lemmas.Bool.{both_ways, cond-false, false_from_ne_true}
use Rattle.std.proofs.lemmas.List.{append-nil, append_cancel_left}
use Rattle.std.proofs.lemmas.List.Elements.{All-contains, All-from_recursion}
use Rattle.nat_types.specs.declared.gateways.GatewayId.{GatewayId}
use Rattle.nat_types.specs.declared.notes.Note.{Note}
use Rattle.nat_types.specs.declared.notes.NoteKind.{NoteKind}
use Rattle.nat_types.specs.declared.notes.NoteKind.TheVariants.{Released}
use Rattle.nat_types.specs.declared.pairs.EntryState.{EntryState}
use Rattle.nat_types.specs.declared.pairs.EntryState.TheVariants as state
use Rattle.nat_types.specs.declared.pairs.Key.{Key}
use Rattle.nat_types.specs.declared.pairs.Pair.{Pair}
use Rattle.nat_types.specs.Same.{same_key}
use Rattle.nat_types.proofs.Offered.{key-eq, key-self}
use Rattle.bindings.specs.declared.entries.Entry.{Entry}
use Rattle.bindings.specs.Entries.{entry_in, is_marked, slot_of}
use Rattle.bindings.specs.Lives.{idle_keys_in}
use Rattle.bindings.proofs.Offered.{slot-with_state, slot-without}
use Rattle.spec_pair.specs.Talk.{note}
use Rattle.spec_binding.specs.declared.changes.Transition.{Transition}
use Rattle.spec_binding.specs.Books.{Book, IsBook, is_lone, is_synced}
use Rattle.spec_binding.specs.Ledgers.{Ledger, may_ask, sought_keys}
use Rattle.spec_binding.specs.Rows.{after, alone_row, asking, dropping, idle_row, is_full, noted_by, quiet, release_row, released_row}
use Rattle.spec_binding.proofs.Offered.{at-key}
use Rattle.spec_step.specs.declared.events.Event.TheVariants.{Tick}
use Rattle.spec_step.specs.LettingGo.{NotesRelease}
use Rattle.spec_step.specs.Machine.{KeepsBytes}
use Rattle.spec_step.specs.Parts.{all_idle_done, all_sought_done, alone_taken, gone_alone, idle_done, idle_taken, link_ticked, old_dropped, peer_told, sought_done}
use Rattle.spec_step.specs.Shown.{GatewayAndOutput, id_of, is_apart}
use Rattle.spec_step.specs.Steps.{IsStepOn}
use Rattle.spec_step.proofs.Accounting.{idle-rests-from}
use Rattle.spec_step.proofs.Before.{young-leaves}
use Rattle.spec_step.proofs.Packets.{Reads}
use Rattle.spec_step.proofs.Releasing.{IsMute, NoRelease, NoReleases, Quiet, gone-quiet, quiet-then, row-quiet, ticked-notes}
use Rattle.spec_step.proofs.WhileApart.{tell-silent}

-- no note is of the pair's release
abbrev NotReleased : Pair → List Note → Type 0
NotReleased p notes = AllByRecursion (λ (n : Note). n.what ≡ Released p → ⊥) notes

not-join : (p : Pair) (ns ms : List Note) → NotReleased p ns → NotReleased p ms → NotReleased p (ns ++ ms)
not-join p [] ms x y = y
not-join p (n ∷ ns) ms x y = (x.0, not-join p ns ms x.1 y)

none-released : (p : Pair) (ns : List Note) → NoReleases ns → NotReleased p ns
none-released p [] all = tt
none-released p (n ∷ ns) all = (λ is. subst (λ (w : NoteKind). NoRelease w) is all.0, none-released p ns all.1)

-- ---- an idle pair

-- the row leaves the entry, and doesn't release its pair
record Spares (x : Entry) (b : Book) (r : Transition) : Type 0 where
  left : slot_of (after b r).entries x.pair.key ≡ Some x
  none : (i : GatewayId) (now : ℕ) → NotReleased x.pair (noted_by i now r.what)

module _ (x : Entry) (b : Book) (marked : is_marked x.state ≡ true) (found : slot_of b.entries x.pair.key ≡ Some x) where
  quiet-spares : Spares x b quiet
  quiet-spares = record { left = found; none = λ i now. tt }

  -- an entry without a mark is another one
  module _ (y : Entry) (there : slot_of b.entries y.pair.key ≡ Some y) (off : is_marked y.state ≡ false) where
    other : same_key y.pair.key x.pair.key ≡ false
    other = false_from_ne_true (same_key y.pair.key x.pair.key) (λ same.
        let both : Some y ≡ Some x = sym there ∙ ap (slot_of b.entries) (key-eq y.pair.key x.pair.key same) ∙ found in
        let alike : y ≡ x = cc in
        both_ways (is_marked x.state) (ap (λ (z : Entry). is_marked z.state) (sym alike) ∙ off) marked)

    unlike : y.pair ≡ x.pair → ⊥
    unlike same = both_ways (same_key y.pair.key x.pair.key) other (ap (λ (q : Pair). same_key q.key x.pair.key) same ∙ key-self x.pair.key)

    dropped-spares : Spares x b (dropping y.pair)
    dropped-spares = record {
      left = slot-without y.pair.key b.entries x.pair.key ∙ (cond-false (same_key y.pair.key x.pair.key) None (slot_of b.entries x.pair.key) other ∙ found);
      none = λ i now. (λ is. let one : y.pair ≡ x.pair = cc in unlike one, tt);
    }

    asked-spares : Spares x b (asking y.pair)
    asked-spares = record {
      left = slot-with_state y.pair.key (state.Closing false) b.entries y x.pair.key there
          ∙ (cond-false (same_key y.pair.key x.pair.key) (Some (entry_in (state.Closing false) y.pair)) (slot_of b.entries x.pair.key) other ∙ found);
      none = λ i now. (λ is. let one : y.pair ≡ x.pair = cc in unlike one, tt);
    }

  released-spares : (lone ask : Bool) (y : Entry) → slot_of b.entries y.pair.key ≡ Some y → (s : EntryState) → y.state ≡ s → Spares x b (released_row lone ask y.pair s)
  released-spares lone ask y there (state.Pending m) is = quiet-spares
  released-spares lone ask y there state.Doomed is = quiet-spares
  released-spares true ask y there state.Live is = dropped-spares y there (ap is_marked is)
  released-spares false true y there state.Live is = asked-spares y there (ap is_marked is)
  released-spares false false y there state.Live is = quiet-spares
  released-spares lone ask y there (state.Closing m) is = quiet-spares
  released-spares lone ask y there state.Alone is = dropped-spares y there (ap is_marked is)
  released-spares true ask y there state.Held is = dropped-spares y there (ap is_marked is)
  released-spares false ask y there state.Held is = quiet-spares

  idle-spares : (ask : Bool) (k : Key) → Spares x b (idle_row b ask k)
  idle-spares ask k = at (is_synced b.stage) (slot_of b.entries k) refl
    where
      at : (t : Bool) (o : Option Entry) → slot_of b.entries k ≡ o → Spares x b (let r : Transition = cond t (release_row (is_lone b.stage) ask o) quiet in r)
      at false o is = quiet-spares
      at true None is = quiet-spares
      at true (Some y) is = released-spares (is_lone b.stage) ask y (at-key b.entries k y is) y.state refl

-- what idle pairs note
record SparesAll (x : Entry) (s s2 : GatewayAndOutput) : Type 0 where
  notes : List Note
  notes_are : s2.told.notes ≡ s.told.notes ++ notes
  none : NotReleased x.pair notes

all-idle-spare : (x : Entry) (s : GatewayAndOutput) (ks : List Key) → is_marked x.state ≡ true → slot_of s.shown.ledger.book.entries x.pair.key ≡ Some x → SparesAll x s (all_idle_done s ks)
all-idle-spare x s [] marked found = record { notes = []; notes_are = sym (append-nil s.told.notes); none = tt }
all-idle-spare x s (k ∷ ks) marked found =
    let g = s.shown in let b = g.ledger.book in
    let ask = may_ask g.moment b g.link in
    let spares = idle-spares x b marked found ask k in
    let first = noted_by (id_of g) g.moment (idle_row b ask k).what in
    let rest = all-idle-spare x (idle_done s k) ks marked spares.left in
    record {
      notes = first ++ rest.notes;
      notes_are = rest.notes_are ∙ append_assoc s.told.notes first rest.notes;
      none = not-join x.pair first rest.notes (spares.none (id_of g) g.moment) rest.none;
    }

-- ---- what follows the idle pairs

tell-mute : (b : Book) (full : Bool) (k : Key) → IsMute (alone_row b false full k)
tell-mute b full k = λ i now. subst (λ (o : Option NoteKind). NoReleases (noted_by i now o)) (sym (tell-silent b full k)) tt

all-told-quiet : (s : GatewayAndOutput) (ks : List Key) → Quiet s (all_sought_done false s ks)
all-told-quiet s [] = record { notes = []; notes_are = sym (append-nil s.told.notes); none = tt }
all-told-quiet s (k ∷ ks) =
    quiet-then s (sought_done false s k) (all_sought_done false s (k ∷ ks))
    (row-quiet s (alone_row s.shown.ledger.book false (is_full s.shown.link) k) (tell-mute s.shown.ledger.book (is_full s.shown.link) k))
    (all-told-quiet (sought_done false s k) ks)

alone-quiet : Reads → (s : GatewayAndOutput) → KeepsBytes s.shown → Quiet s (alone_taken s)
alone-quiet reads s kept = at (is_apart s.shown)
  where
    at : (t : Bool) → Quiet s (let x : GatewayAndOutput = cond t (gone_alone s) (peer_told s) in x)
    at true = gone-quiet reads s kept
    at false = all-told-quiet s (sought_keys false s.shown.ledger.book.entries)

-- ---- a whole tick

pub marked-stays : Reads → (s : GatewayAndOutput) (now : ℕ) (s2 : GatewayAndOutput) (x : Entry) → IsStepOn s (Tick now) s2 → IsBook s.shown.ledger.book → KeepsBytes s.shown
    → slot_of s.shown.ledger.book.entries x.pair.key ≡ Some x → is_marked x.state ≡ true → NotesRelease s x.pair s2 → ⊥
marked-stays reads s now s2 x step book kept found marked noted =
    let does = step.does in
    let young = old_dropped does.1 in
    let l = young.shown.ledger in
    let idle = idle_taken young in
    let was = young-leaves s now does.0 does.1 does.2 does.3 in
    let ended : s2 ≡ link_ticked (alone_taken idle) = step.sends ∙ ap (λ (z : GatewayAndOutput). link_ticked z) does.4 in
    let there = ap (λ (z : Ledger). slot_of z.book.entries x.pair.key) was.ledger ∙ found in
    let spares = all-idle-spare x young (idle_keys_in (is_lone l.book.stage) young.shown.moment l.book.entries l.lives) marked there in
    let sound = (idle-rests-from s now does.0 does.1 does.2 does.3 (record { book = book; kept = kept })).sound in
    let rest = alone-quiet reads idle sound.kept in
    let all : s2.told.notes ≡ s.told.notes ++ (spares.notes ++ rest.notes) =
    ap (λ (z : GatewayAndOutput). z.told.notes) ended ∙ (ticked-notes (alone_taken idle)).0
    ∙ rest.notes_are ∙ ap (λ (ns : List Note). ns ++ rest.notes) (spares.notes_are ∙ ap (λ (ns : List Note). ns ++ spares.notes) was.notes) ∙ append_assoc s.told.notes spares.notes rest.notes in
    let same : spares.notes ++ rest.notes ≡ noted.notes = append_cancel_left s.told.notes (spares.notes ++ rest.notes) noted.notes (sym all ∙ noted.are) in
    let none : NotReleased x.pair noted.notes =
    subst (λ (ns : List Note). NotReleased x.pair ns) same (not-join x.pair spares.notes rest.notes spares.none (none-released x.pair rest.notes rest.none)) in
    All-contains (λ (n : Note). n.what ≡ Released x.pair → ⊥) noted.notes (note (id_of s.shown) s2.shown.moment (Released x.pair))
    (All-from_recursion (λ (n : Note). n.what ≡ Released x.pair → ⊥) noted.notes none) noted.released refl
