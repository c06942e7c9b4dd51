-- A store's entries, lives and look-ups after a row is removed, or has another item.
use Rattle.std.proofs.Common.{◌≡◌, ℕ, suc, Bool, true, false, not, cond, ◌&&◌, Option, Some, None, List, [], ◌∷◌, refl, sym, ap, subst, ◌∙◌, arith}
use Rattle.std.specs.List.{find}
use Rattle.std.specs.Option.{option_map}
use Rattle.std.proofs.lemmas.Bool.{and_parts, both_ways, not-true}
use Rattle.nat_types.specs.declared.pairs.Endpoint.{Endpoint}
use Rattle.nat_types.specs.declared.pairs.Key.{Key}
use Rattle.nat_types.specs.declared.pairs.EntryState.{EntryState}
use Rattle.nat_types.specs.Same.{same_key, same_endpoint}
use Rattle.nat_types.proofs.Offered.{key-eq, endpoint-eq}
use Rattle.activity.specs.Lives.{Activity}
use Rattle.slots.specs.Rows.{Row}
use Rattle.slots.specs.Rows as slots
use Rattle.slots.specs.declared.ranks.Rank.{Rank}
use Rattle.bindings.specs.declared.entries.Entry.{Entry}
use Rattle.bindings.specs.declared.store.Item.{Item}
use Rattle.bindings.specs.Entries.{is_of_rank, serves, entry_on, entry_in, HasDistinctEndpoints}
use Rattle.bindings.specs.Lists.{with_state, key_place}
use Rattle.bindings.specs.Lives.{lives_with}
use Rattle.bindings.specs.Stores.{entries_of, lives_of, AreKeyed, number_for}
use Rattle.bindings.proofs.Found.{find-none}
use Rattle.bindings.proofs.Slots.{swap_choices}
use Rattle.bindings.proofs.Places.{turn-none}
use Rattle.bindings.proofs.Kept.{slot-is, entry-is, below-none, rows-without_none}

-- where nothing passes a test, what is found doesn't pass it
pub found-none : {X : Type 0} (p q : X → Bool) (xs : List X) (x : X) → find p xs ≡ Some x → q x ≡ true → find q xs ≡ None → ⊥
found-none p q [] x h t n = cc
found-none p q (y ∷ ys) x h t n = by (p y) h (found-none p q ys x)
  where
    rest : (q y ≡ false) × (find q ys ≡ None)
    rest = find-none q y ys n

    by : (b : Bool) → cond b (Some y) (find p ys) ≡ Some x → (find p ys ≡ Some x → q x ≡ true → find q ys ≡ None → ⊥) → ⊥
    by true h ih = let same : y ≡ x = cc in both_ways (q x) (ap q (sym same) ∙ rest.0) t
    by false h ih = ih h t rest.1

mapped : (b : Bool) (z : Row Item) (o : Option (Row Item)) → option_map (λ (y : Row Item). y.number) (cond b (Some z) o) ≡ cond b (Some z.number) (option_map (λ (y : Row Item). y.number) o)
mapped true z o = refl
mapped false z o = refl

-- where no pair of a rank serves an endpoint, no slot does
pub number-none : (rank : Rank) (rows : List (Row Item)) (x : Endpoint) → entry_on rank (entries_of rows) x ≡ None → number_for rows rank x ≡ None
number-none rank rows x h = by (find (λ (r : Row Item). serves rank x r.item.entry) rows) (sym (entry-is rank rows x) ∙ h)
  where
    by : (o : Option (Row Item)) → option_map (λ (r : Row Item). r.item.entry) o ≡ None → option_map (λ (r : Row Item). r.number) o ≡ None
    by None h = refl
    by (Some r) h = cc

-- the item of a key is that of the first row where that row has the key
item-here : (key : Key) (x : Row Item) (rows : List (Row Item)) (i : Item) → same_key x.key key ≡ true → slots.item_of (x ∷ rows) key ≡ Some i → x.item ≡ i
item-here key x rows i e h =
    let one : Some x.item ≡ Some i = sym (ap (λ b. option_map (λ (r : Row Item). r.item) (cond b (Some x) (slots.row_of rows key))) e) ∙ h in
    cc

item-later : (key : Key) (x : Row Item) (rows : List (Row Item)) (i : Item) → same_key x.key key ≡ false → slots.item_of (x ∷ rows) key ≡ Some i → slots.item_of rows key ≡ Some i
item-later key x rows i e h = sym (ap (λ b. option_map (λ (r : Row Item). r.item) (cond b (Some x) (slots.row_of rows key))) e) ∙ h

-- no row after that of a key has the key
none-later : (low : ℕ) (key : Key) (x : Row Item) (rows : List (Row Item)) → slots.Rises low (x ∷ rows) → same_key x.key key ≡ true → slots.row_of rows key ≡ None
none-later low key x rows r e =
    let here = ap key_place (key-eq x.key key e) in
    below-none (suc (key_place x.key)) rows key r.1 (omega (arith, here))

-- a pair before another in the list doesn't serve its endpoint
apart : (rank : Rank) (key : Key) (x : Endpoint) (y : Row Item) (rows : List (Row Item)) (i : Item) → slots.item_of rows key ≡ Some i → HasDistinctEndpoints (entries_of (y ∷ rows)) → serves rank x y.item.entry ≡ true → serves rank x i.entry ≡ true → ⊥
apart rank key x y rows i h d a b = by (slots.row_of rows key) refl h
  where
    by : (o : Option (Row Item)) → slots.row_of rows key ≡ o → option_map (λ (r : Row Item). r.item) o ≡ Some i → ⊥
    by None e f = cc
    by (Some r) e f =
        let same : r.item ≡ i = cc in
        let its = and_parts (is_of_rank rank y.item.entry.state) (same_endpoint y.item.entry.pair.endpoint x) a in
        let none : entry_on rank (entries_of rows) x ≡ None = ap (entry_on rank (entries_of rows)) (sym (endpoint-eq y.item.entry.pair.endpoint x its.1)) ∙ d.0 rank its.0 in
        found-none (slots.has_key key) (λ (z : Row Item). serves rank x z.item.entry) rows r e (ap (λ (z : Item). serves rank x z.entry) same ∙ b) (nothing none)
      where
        nothing : entry_on rank (entries_of rows) x ≡ None → find (λ (z : Row Item). serves rank x z.item.entry) rows ≡ None
        nothing none = at (find (λ (z : Row Item). serves rank x z.item.entry) rows) (sym (entry-is rank rows x) ∙ none)
          where
            at : (o : Option (Row Item)) → option_map (λ (z : Row Item). z.item.entry) o ≡ None → o ≡ None
            at None h = refl
            at (Some z) h = cc

-- the slot that serves an endpoint after the row of a key was removed
pub number-without : (rank : Rank) (low : ℕ) (key : Key) (rows : List (Row Item)) (i : Item) (x : Endpoint) → slots.Rises low rows → slots.item_of rows key ≡ Some i → (is_of_rank rank i.entry.state ≡ true → HasDistinctEndpoints (entries_of rows))
    → number_for (slots.without key rows) rank x ≡ cond (serves rank x i.entry) None (number_for rows rank x)
number-without rank low key [] i x r h d = absurd (cc)
number-without rank low key (y ∷ rows) i x r h d = by (same_key y.key key) refl (number-without rank (suc (key_place y.key)) key rows i x r.1)
  where
    alone : y.item ≡ i → (b : Bool) → serves rank x i.entry ≡ b → number_for rows rank x ≡ cond b None (cond b (Some y.number) (number_for rows rank x))
    alone same true s =
        let its = and_parts (is_of_rank rank i.entry.state) (same_endpoint i.entry.pair.endpoint x) s in
        let mine : y.item.entry.pair.endpoint ≡ x = ap (λ (z : Item). z.entry.pair.endpoint) same ∙ endpoint-eq i.entry.pair.endpoint x its.1 in
        number-none rank rows x (ap (entry_on rank (entries_of rows)) (sym mine) ∙ (d its.0).0 rank (ap (λ (z : Item). is_of_rank rank z.entry.state) same ∙ its.0))
    alone same false s = refl

    by : (b : Bool) → same_key y.key key ≡ b → (slots.item_of rows key ≡ Some i → (is_of_rank rank i.entry.state ≡ true → HasDistinctEndpoints (entries_of rows)) → number_for (slots.without key rows) rank x ≡ cond (serves rank x i.entry) None (number_for rows rank x)) → number_for (slots.without key (y ∷ rows)) rank x ≡ cond (serves rank x i.entry) None (number_for (y ∷ rows) rank x)
    by true e ih =
        let same = item-here key y rows i e h in
        ap (λ b. number_for (cond (not b) (y ∷ slots.without key rows) (slots.without key rows)) rank x) e
        ∙ ap (λ rs. number_for rs rank x) (rows-without_none key rows (none-later low key y rows r e))
        ∙ alone same (serves rank x i.entry) refl
        ∙ ap (cond (serves rank x i.entry) None) (ap (λ (z : Item). cond (serves rank x z.entry) (Some y.number) (number_for rows rank x)) (sym same) ∙ sym (mapped (serves rank x y.item.entry) y (find (λ (z : Row Item). serves rank x z.item.entry) rows)))
    by false e ih =
        let later = item-later key y rows i e h in
        ap (λ b. number_for (cond (not b) (y ∷ slots.without key rows) (slots.without key rows)) rank x) e
        ∙ mapped (serves rank x y.item.entry) y (find (λ (z : Row Item). serves rank x z.item.entry) (slots.without key rows))
        ∙ ap (cond (serves rank x y.item.entry) (Some y.number)) (ih later (λ p. (d p).1))
        ∙ swap_choices (serves rank x y.item.entry) (serves rank x i.entry) (Some y.number) None (number_for rows rank x) (λ a b. apart rank key x y rows i later (d (and_parts (is_of_rank rank i.entry.state) (same_endpoint i.entry.pair.endpoint x) b).0) a b)
        ∙ ap (cond (serves rank x i.entry) None) (sym (mapped (serves rank x y.item.entry) y (find (λ (z : Row Item). serves rank x z.item.entry) rows)))

-- ---- one row with another item

with-none : (key : Key) (t : Item) (rows : List (Row Item)) → slots.row_of rows key ≡ None → slots.with_item key t rows ≡ rows
with-none key t [] h = refl
with-none key t (x ∷ rows) h = by (same_key x.key key) h (with-none key t rows)
  where
    by : (b : Bool) → cond b (Some x) (slots.row_of rows key) ≡ None → (slots.row_of rows key ≡ None → slots.with_item key t rows ≡ rows) → (cond b (record x { item = t }) x ∷ slots.with_item key t rows) ≡ x ∷ rows
    by true h ih = absurd (cc)
    by false h ih = ap (λ xs. x ∷ xs) (ih h)

-- the item of the first row is replaced where that row has the key, and the others stay
with-here : (key : Key) (t : Item) (x : Row Item) (rows : List (Row Item)) → same_key x.key key ≡ true → slots.row_of rows key ≡ None → slots.with_item key t (x ∷ rows) ≡ record x { item = t } ∷ rows
with-here key t x rows e none = ap (λ b. cond b (record x { item = t }) x ∷ slots.with_item key t rows) e ∙ ap (λ xs. record x { item = t } ∷ xs) (with-none key t rows none)

with-later : (key : Key) (t : Item) (x : Row Item) (rows : List (Row Item)) → same_key x.key key ≡ false → slots.with_item key t (x ∷ rows) ≡ x ∷ slots.with_item key t rows
with-later key t x rows e = ap (λ b. cond b (record x { item = t }) x ∷ slots.with_item key t rows) e

pub keyed-with : (low : ℕ) (key : Key) (t i : Item) (rows : List (Row Item)) → AreKeyed rows → slots.Rises low rows → slots.item_of rows key ≡ Some i → t.entry.pair.key ≡ i.entry.pair.key → AreKeyed (slots.with_item key t rows)
keyed-with low key t i [] k r h e = tt
keyed-with low key t i (x ∷ rows) k r h e = by (same_key x.key key) refl (keyed-with (suc (key_place x.key)) key t i rows k.1 r.1)
  where
    by : (b : Bool) → same_key x.key key ≡ b → (slots.item_of rows key ≡ Some i → t.entry.pair.key ≡ i.entry.pair.key → AreKeyed (slots.with_item key t rows)) → AreKeyed (slots.with_item key t (x ∷ rows))
    by true f ih = subst AreKeyed (sym (with-here key t x rows f (none-later low key x rows r f))) (k.0 ∙ ap (λ (z : Item). z.entry.pair.key) (item-here key x rows i f h) ∙ sym e, k.1)
    by false f ih = subst AreKeyed (sym (with-later key t x rows f)) (k.0, ih (item-later key x rows i f h) e)

pub entries-turned : (low : ℕ) (key : Key) (s : EntryState) (t i : Item) (rows : List (Row Item)) → AreKeyed rows → slots.Rises low rows → slots.item_of rows key ≡ Some i → t.entry ≡ entry_in s i.entry.pair
    → entries_of (slots.with_item key t rows) ≡ with_state key s (entries_of rows)
entries-turned low key s t i [] k r h e = refl
entries-turned low key s t i (x ∷ rows) k r h e = by (same_key x.key key) refl (entries-turned (suc (key_place x.key)) key s t i rows k.1 r.1)
  where
    test : same_key x.item.entry.pair.key key ≡ same_key x.key key
    test = ap (λ (q : Key). same_key q key) (sym k.0)

    by : (b : Bool) → same_key x.key key ≡ b → (slots.item_of rows key ≡ Some i → t.entry ≡ entry_in s i.entry.pair → entries_of (slots.with_item key t rows) ≡ with_state key s (entries_of rows)) → entries_of (slots.with_item key t (x ∷ rows)) ≡ with_state key s (entries_of (x ∷ rows))
    by true f ih =
        let none = none-later low key x rows r f in
        let quiet = turn-none key s (entries_of rows) (slot-is rows key k.1 ∙ ap (λ o. option_map (λ (z : Item). z.entry) (option_map (λ (z : Row Item). z.item) o)) none) in
        ap entries_of (with-here key t x rows f none) ∙ ap (λ z. z ∷ entries_of rows) (e ∙ ap (λ (z : Item). entry_in s z.entry.pair) (sym (item-here key x rows i f h)))
        ∙ ap (λ es. entry_in s x.item.entry.pair ∷ es) (sym quiet) ∙ sym (ap (λ b. cond b (entry_in s x.item.entry.pair) x.item.entry ∷ with_state key s (entries_of rows)) (test ∙ f))
    by false f ih =
        ap entries_of (with-later key t x rows f) ∙ ap (λ es. x.item.entry ∷ es) (ih (item-later key x rows i f h) e)
        ∙ sym (ap (λ b. cond b (entry_in s x.item.entry.pair) x.item.entry ∷ with_state key s (entries_of rows)) (test ∙ f))

pub entries-same : (low : ℕ) (key : Key) (t i : Item) (rows : List (Row Item)) → slots.Rises low rows → slots.item_of rows key ≡ Some i → t.entry ≡ i.entry → entries_of (slots.with_item key t rows) ≡ entries_of rows
entries-same low key t i [] r h e = refl
entries-same low key t i (x ∷ rows) r h e = by (same_key x.key key) refl (entries-same (suc (key_place x.key)) key t i rows r.1)
  where
    by : (b : Bool) → same_key x.key key ≡ b → (slots.item_of rows key ≡ Some i → t.entry ≡ i.entry → entries_of (slots.with_item key t rows) ≡ entries_of rows) → entries_of (slots.with_item key t (x ∷ rows)) ≡ entries_of (x ∷ rows)
    by true f ih = ap entries_of (with-here key t x rows f (none-later low key x rows r f)) ∙ ap (λ z. z ∷ entries_of rows) (e ∙ ap (λ (z : Item). z.entry) (sym (item-here key x rows i f h)))
    by false f ih = ap entries_of (with-later key t x rows f) ∙ ap (λ es. x.item.entry ∷ es) (ih (item-later key x rows i f h) e)

pub lives-same : (low : ℕ) (key : Key) (t i : Item) (rows : List (Row Item)) → slots.Rises low rows → slots.item_of rows key ≡ Some i → t.life ≡ i.life → lives_of (slots.with_item key t rows) ≡ lives_of rows
lives-same low key t i [] r h e = refl
lives-same low key t i (x ∷ rows) r h e = by (same_key x.key key) refl (lives-same (suc (key_place x.key)) key t i rows r.1)
  where
    by : (b : Bool) → same_key x.key key ≡ b → (slots.item_of rows key ≡ Some i → t.life ≡ i.life → lives_of (slots.with_item key t rows) ≡ lives_of rows) → lives_of (slots.with_item key t (x ∷ rows)) ≡ lives_of (x ∷ rows)
    by true f ih = ap lives_of (with-here key t x rows f (none-later low key x rows r f)) ∙ ap (λ z. z ∷ lives_of rows) (e ∙ ap (λ (z : Item). z.life) (sym (item-here key x rows i f h)))
    by false f ih = ap lives_of (with-later key t x rows f) ∙ ap (λ ls. x.item.life ∷ ls) (ih (item-later key x rows i f h) e)

pub lives-changed : (low : ℕ) (key : Key) (g : Activity → Activity) (t i : Item) (rows : List (Row Item)) → AreKeyed rows → slots.Rises low rows → slots.item_of rows key ≡ Some i → t.life ≡ g i.life
    → lives_of (slots.with_item key t rows) ≡ lives_with g key (entries_of rows) (lives_of rows)
lives-changed low key g t i [] k r h e = refl
lives-changed low key g t i (x ∷ rows) k r h e = by (same_key x.key key) refl (lives-changed (suc (key_place x.key)) key g t i rows k.1 r.1)
  where
    test : same_key x.item.entry.pair.key key ≡ same_key x.key key
    test = ap (λ (q : Key). same_key q key) (sym k.0)

    by : (b : Bool) → same_key x.key key ≡ b → (slots.item_of rows key ≡ Some i → t.life ≡ g i.life → lives_of (slots.with_item key t rows) ≡ lives_with g key (entries_of rows) (lives_of rows)) → lives_of (slots.with_item key t (x ∷ rows)) ≡ lives_with g key (entries_of (x ∷ rows)) (lives_of (x ∷ rows))
    by true f ih =
        ap lives_of (with-here key t x rows f (none-later low key x rows r f)) ∙ ap (λ z. z ∷ lives_of rows) (e ∙ ap (λ (z : Item). g z.life) (sym (item-here key x rows i f h)))
        ∙ sym (ap (λ b. cond b (g x.item.life ∷ lives_of rows) (x.item.life ∷ lives_with g key (entries_of rows) (lives_of rows))) (test ∙ f))
    by false f ih =
        ap lives_of (with-later key t x rows f) ∙ ap (λ ls. x.item.life ∷ ls) (ih (item-later key x rows i f h) e)
        ∙ sym (ap (λ b. cond b (g x.item.life ∷ lives_of rows) (x.item.life ∷ lives_with g key (entries_of rows) (lives_of rows))) (test ∙ f))

-- the lives stay where a key has no row
pub lives-nowhere : (key : Key) (g : Activity → Activity) (rows : List (Row Item)) → AreKeyed rows → slots.item_of rows key ≡ None → lives_of rows ≡ lives_with g key (entries_of rows) (lives_of rows)
lives-nowhere key g [] k h = refl
lives-nowhere key g (x ∷ rows) k h = by (same_key x.item.entry.pair.key key) (ap (λ (q : Key). same_key q key) k.0) (lives-nowhere key g rows k.1)
  where
    by : (b : Bool) → same_key x.key key ≡ b → (slots.item_of rows key ≡ None → lives_of rows ≡ lives_with g key (entries_of rows) (lives_of rows)) → x.item.life ∷ lives_of rows ≡ cond b (g x.item.life ∷ lives_of rows) (x.item.life ∷ lives_with g key (entries_of rows) (lives_of rows))
    by true f ih =
        let some : Some x.item ≡ None = sym (ap (λ b. option_map (λ (r : Row Item). r.item) (cond b (Some x) (slots.row_of rows key))) f) ∙ h in
        absurd (cc)
    by false f ih = ap (λ ls. x.item.life ∷ ls) (ih (sym (ap (λ b. option_map (λ (r : Row Item). r.item) (cond b (Some x) (slots.row_of rows key))) f) ∙ h))

-- the slot that serves an endpoint after the row of a key got another item, of the same pair
pub number-with : (rank : Rank) (low : ℕ) (key : Key) (t i : Item) (rows : List (Row Item)) (x : Endpoint) → slots.Rises low rows → slots.item_of rows key ≡ Some i → t.entry.pair.endpoint ≡ i.entry.pair.endpoint
    → (is_of_rank rank t.entry.state ≡ true → is_of_rank rank i.entry.state ≡ true) → (is_of_rank rank i.entry.state ≡ true → is_of_rank rank t.entry.state ≡ false → HasDistinctEndpoints (entries_of rows))
    → number_for (slots.with_item key t rows) rank x ≡ cond (serves rank x i.entry && not (is_of_rank rank t.entry.state)) None (number_for rows rank x)
number-with rank low key t i [] x r h same back d = absurd (cc)
number-with rank low key t i (y ∷ rows) x r h same back d = by (same_key y.key key) refl (number-with rank (suc (key_place y.key)) key t i rows x r.1)
  where
    alone : y.item ≡ i → (a b p : Bool) → is_of_rank rank t.entry.state ≡ p → is_of_rank rank i.entry.state ≡ a → same_endpoint i.entry.pair.endpoint x ≡ b → cond (p && b) (Some y.number) (number_for rows rank x) ≡ cond ((a && b) && not p) None (cond (a && b) (Some y.number) (number_for rows rank x))
    alone e true true true f g o = refl
    alone e true false true f g o = refl
    alone e false b true f g o = absurd (both_ways (is_of_rank rank i.entry.state) g (back f))
    alone e true true false f g o =
        let mine : y.item.entry.pair.endpoint ≡ x = ap (λ (z : Item). z.entry.pair.endpoint) e ∙ endpoint-eq i.entry.pair.endpoint x o in
        number-none rank rows x (ap (entry_on rank (entries_of rows)) (sym mine) ∙ (d g f).0 rank (ap (λ (z : Item). is_of_rank rank z.entry.state) e ∙ g))
    alone e true false false f g o = refl
    alone e false b false f g o = refl

    by : (b : Bool) → same_key y.key key ≡ b
        → (slots.item_of rows key ≡ Some i → t.entry.pair.endpoint ≡ i.entry.pair.endpoint → (is_of_rank rank t.entry.state ≡ true → is_of_rank rank i.entry.state ≡ true) → (is_of_rank rank i.entry.state ≡ true → is_of_rank rank t.entry.state ≡ false → HasDistinctEndpoints (entries_of rows)) → number_for (slots.with_item key t rows) rank x ≡ cond (serves rank x i.entry && not (is_of_rank rank t.entry.state)) None (number_for rows rank x))
        → number_for (slots.with_item key t (y ∷ rows)) rank x ≡ cond (serves rank x i.entry && not (is_of_rank rank t.entry.state)) None (number_for (y ∷ rows) rank x)
    by true f ih =
        let e = item-here key y rows i f h in
        ap (λ rs. number_for rs rank x) (with-here key t y rows f (none-later low key y rows r f))
        ∙ mapped (serves rank x t.entry) (record y { item = t }) (find (λ (z : Row Item). serves rank x z.item.entry) rows)
        ∙ ap (λ (z : Endpoint). cond (is_of_rank rank t.entry.state && same_endpoint z x) (Some y.number) (number_for rows rank x)) same
        ∙ alone e (is_of_rank rank i.entry.state) (same_endpoint i.entry.pair.endpoint x) (is_of_rank rank t.entry.state) refl refl refl
        ∙ ap (cond (serves rank x i.entry && not (is_of_rank rank t.entry.state)) None) (ap (λ (z : Item). cond (serves rank x z.entry) (Some y.number) (number_for rows rank x)) (sym e) ∙ sym (mapped (serves rank x y.item.entry) y (find (λ (z : Row Item). serves rank x z.item.entry) rows)))
    by false f ih =
        let later = item-later key y rows i f h in
        ap (λ rs. number_for rs rank x) (with-later key t y rows f)
        ∙ mapped (serves rank x y.item.entry) y (find (λ (z : Row Item). serves rank x z.item.entry) (slots.with_item key t rows))
        ∙ ap (cond (serves rank x y.item.entry) (Some y.number)) (ih later same back (λ p q. (d p q).1))
        ∙ swap_choices (serves rank x y.item.entry) (serves rank x i.entry && not (is_of_rank rank t.entry.state)) (Some y.number) None (number_for rows rank x) clash
        ∙ ap (cond (serves rank x i.entry && not (is_of_rank rank t.entry.state)) None) (sym (mapped (serves rank x y.item.entry) y (find (λ (z : Row Item). serves rank x z.item.entry) rows)))
      where
        clash : serves rank x y.item.entry ≡ true → (serves rank x i.entry && not (is_of_rank rank t.entry.state)) ≡ true → ⊥
        clash a b =
            let both = and_parts (serves rank x i.entry) (not (is_of_rank rank t.entry.state)) b in
            let pair = and_parts (is_of_rank rank i.entry.state) (same_endpoint i.entry.pair.endpoint x) both.0 in
            apart rank key x y rows i (item-later key y rows i f h) (d pair.0 (not-true (is_of_rank rank t.entry.state) both.1)) a both.0

pub number-same : (rank : Rank) (low : ℕ) (key : Key) (t i : Item) (rows : List (Row Item)) (x : Endpoint) → slots.Rises low rows → slots.item_of rows key ≡ Some i → t.entry ≡ i.entry → number_for (slots.with_item key t rows) rank x ≡ number_for rows rank x
number-same rank low key t i [] x r h same = refl
number-same rank low key t i (y ∷ rows) x r h same = by (same_key y.key key) refl (number-same rank (suc (key_place y.key)) key t i rows x r.1)
  where
    by : (b : Bool) → same_key y.key key ≡ b → (slots.item_of rows key ≡ Some i → t.entry ≡ i.entry → number_for (slots.with_item key t rows) rank x ≡ number_for rows rank x) → number_for (slots.with_item key t (y ∷ rows)) rank x ≡ number_for (y ∷ rows) rank x
    by true f ih =
        let e = item-here key y rows i f h in
        ap (λ rs. number_for rs rank x) (with-here key t y rows f (none-later low key y rows r f))
        ∙ mapped (serves rank x t.entry) (record y { item = t }) (find (λ (z : Row Item). serves rank x z.item.entry) rows)
        ∙ ap (λ (z : Entry). cond (serves rank x z) (Some y.number) (number_for rows rank x)) (same ∙ ap (λ (z : Item). z.entry) (sym e))
        ∙ sym (mapped (serves rank x y.item.entry) y (find (λ (z : Row Item). serves rank x z.item.entry) rows))
    by false f ih =
        ap (λ rs. number_for rs rank x) (with-later key t y rows f)
        ∙ mapped (serves rank x y.item.entry) y (find (λ (z : Row Item). serves rank x z.item.entry) (slots.with_item key t rows))
        ∙ ap (cond (serves rank x y.item.entry) (Some y.number)) (ih (item-later key y rows i f h) same)
        ∙ sym (mapped (serves rank x y.item.entry) y (find (λ (z : Row Item). serves rank x z.item.entry) rows))
