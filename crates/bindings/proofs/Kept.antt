-- The entries and lives of a store's rows after a change of the rows.
use Rattle.std.proofs.Common.{◌≡◌, ℕ, suc, ◌<◌, ◌≤◌, Bool, true, false, not, cond, nat_lt, Option, Some, None, List, [], ◌∷◌, refl, sym, ap, ◌∙◌, arith}
use Rattle.std.specs.List.{find, insert}
use Rattle.std.specs.Option.{option_map}
use Rattle.std.proofs.lemmas.Bool.{cond-true, cond-false, and_parts, both_ways}
use Rattle.nat_types.specs.declared.pairs.Endpoint.{Endpoint}
use Rattle.nat_types.specs.declared.pairs.Key.{Key}
use Rattle.nat_types.specs.Same.{same_key, same_endpoint}
use Rattle.nat_types.proofs.Offered.{key-eq, key-true, key-false, endpoint-eq}
use Rattle.slots.specs.Rows.{Row}
use Rattle.slots.specs.Rows as slots
use Rattle.slots.specs.declared.ranks.Rank.{Rank}
use Rattle.bindings.specs.declared.store.Item.{Item}
use Rattle.bindings.specs.Entries.{is_of_rank, serves, slot_of, entry_on, place_of}
use Rattle.bindings.specs.Lists.{place_in, put_in, without, stands_behind, after_key, key_place, RisesUp}
use Rattle.bindings.specs.Lives.{life_in, lives_without}
use Rattle.bindings.specs.Stores.{entries_of, lives_of, AreKeyed, number_for}
use Rattle.bindings.proofs.Found.{find-none}
use Rattle.bindings.proofs.Slots.{swap_choices}

-- ---- what is found

pub slot-is : (rows : List (Row Item)) (key : Key) → AreKeyed rows → slot_of (entries_of rows) key ≡ option_map (λ (i : Item). i.entry) (slots.item_of rows key)
slot-is [] key k = refl
slot-is (r ∷ rows) key k = by (same_key r.item.entry.pair.key key) (ap (λ (q : Key). same_key q key) k.0) (slot-is rows key k.1)
  where
    by : (b : Bool) → same_key r.key key ≡ b → slot_of (entries_of rows) key ≡ option_map (λ (i : Item). i.entry) (slots.item_of rows key) → cond b (Some r.item.entry) (slot_of (entries_of rows) key) ≡ option_map (λ (i : Item). i.entry) (option_map (λ (x : Row Item). x.item) (cond (same_key r.key key) (Some r) (slots.row_of rows key)))
    by true e ih = rw e refl
    by false e ih = rw e ih

pub life-is : (rows : List (Row Item)) (key : Key) → AreKeyed rows → life_in (entries_of rows) (lives_of rows) key ≡ option_map (λ (i : Item). i.life) (slots.item_of rows key)
life-is [] key k = refl
life-is (r ∷ rows) key k = by (same_key r.item.entry.pair.key key) (ap (λ (q : Key). same_key q key) k.0) (life-is rows key k.1)
  where
    by : (b : Bool) → same_key r.key key ≡ b → life_in (entries_of rows) (lives_of rows) key ≡ option_map (λ (i : Item). i.life) (slots.item_of rows key) → cond b (Some r.item.life) (life_in (entries_of rows) (lives_of rows) key) ≡ option_map (λ (i : Item). i.life) (option_map (λ (x : Row Item). x.item) (cond (same_key r.key key) (Some r) (slots.row_of rows key)))
    by true e ih = rw e refl
    by false e ih = rw e ih

pub after-is : (rows : List (Row Item)) (last : Option Key) → AreKeyed rows → after_key last (entries_of rows) ≡ option_map (λ (r : Row Item). r.item.entry) (find (slots.stands_behind last) rows)
after-is [] last k = refl
after-is (r ∷ rows) last k = by (stands_behind last r.item.entry) (test last) (after-is rows last k.1)
  where
    test : (last : Option Key) → slots.stands_behind last r ≡ stands_behind last r.item.entry
    test None = refl
    test (Some key) = ap (λ (q : Key). nat_lt (key_place key) (key_place q)) k.0

    by : (b : Bool) → slots.stands_behind last r ≡ b → after_key last (entries_of rows) ≡ option_map (λ (x : Row Item). x.item.entry) (find (slots.stands_behind last) rows) → cond b (Some r.item.entry) (after_key last (entries_of rows)) ≡ option_map (λ (x : Row Item). x.item.entry) (cond (slots.stands_behind last r) (Some r) (find (slots.stands_behind last) rows))
    by true e ih = rw e refl
    by false e ih = rw e ih

pub entry-is : (rank : Rank) (rows : List (Row Item)) (x : Endpoint) → entry_on rank (entries_of rows) x ≡ option_map (λ (r : Row Item). r.item.entry) (find (λ (r : Row Item). serves rank x r.item.entry) rows)
entry-is rank [] x = refl
entry-is rank (r ∷ rows) x = by (serves rank x r.item.entry) (entry-is rank rows x)
  where
    by : (b : Bool) → entry_on rank (entries_of rows) x ≡ option_map (λ (r : Row Item). r.item.entry) (find (λ (r : Row Item). serves rank x r.item.entry) rows) → cond b (Some r.item.entry) (entry_on rank (entries_of rows) x) ≡ option_map (λ (y : Row Item). y.item.entry) (cond b (Some r) (find (λ (y : Row Item). serves rank x y.item.entry) rows))
    by true ih = refl
    by false ih = ih

-- ---- the order

pub rises-up : (low : ℕ) (rows : List (Row Item)) → AreKeyed rows → slots.Rises low rows → RisesUp low (entries_of rows)
rises-up low [] k r = tt
rises-up low (x ∷ rows) k r =
    let same = ap key_place k.0 in (
      rw same at r.0,
      rw same at (rises-up (suc (key_place x.key)) rows k.1 r.1),
    )

-- no key of a lower place has a row
pub below-none : (low : ℕ) (rows : List (Row Item)) (key : Key) → slots.Rises low rows → key_place key < low → slots.row_of rows key ≡ None
below-none low [] key r h = refl
below-none low (x ∷ rows) key r h =
    let differs : same_key x.key key ≡ false = key-false x.key key (λ e. (let p = ap key_place e in let s = r.0 in omega (arith, p, s, h))) in
    cond-false (same_key x.key key) (Some x) (slots.row_of rows key) differs ∙ below-none (suc (key_place x.key)) rows key r.1 (let s = r.0 in omega (arith, s, h))

-- a row that is found is that of its key
pub own-row : (low : ℕ) (test : Row Item → Bool) (rows : List (Row Item)) (r : Row Item) → slots.Rises low rows → find test rows ≡ Some r → (slots.row_of rows r.key ≡ Some r) × (low ≤ key_place r.key)
own-row low test [] r s h = absurd (cc)
own-row low test (x ∷ rows) r s h = by (test x) h (own-row (suc (key_place x.key)) test rows r s.1)
  where
    by : (b : Bool) → cond b (Some x) (find test rows) ≡ Some r → (find test rows ≡ Some r → (slots.row_of rows r.key ≡ Some r) × (suc (key_place x.key) ≤ key_place r.key)) → (cond (same_key x.key r.key) (Some x) (slots.row_of rows r.key) ≡ Some r) × (low ≤ key_place r.key)
    by true h ih =
        let same : x ≡ r = cc in
        let one : same_key x.key r.key ≡ true = key-true x.key r.key (ap (λ (y : Row Item). y.key) same) in
        let place = ap (λ (y : Row Item). key_place y.key) same in
        (cond-true (same_key x.key r.key) (Some x) (slots.row_of rows r.key) one ∙ h, (let l = s.0 in omega (arith, l, place)))
    by false h ih =
        let there = ih h in
        let differs : same_key x.key r.key ≡ false = key-false x.key r.key (λ e. (let p = ap key_place e in let l = there.1 in omega (arith, p, l))) in
        (cond-false (same_key x.key r.key) (Some x) (slots.row_of rows r.key) differs ∙ there.0, (let l = there.1 in let m = s.0 in omega (arith, l, m)))

-- ---- one more row

pub keyed-put : (r : Row Item) (rows : List (Row Item)) → AreKeyed rows → r.key ≡ r.item.entry.pair.key → AreKeyed (slots.put_in r rows)
keyed-put r [] k e = (e, tt)
keyed-put r (x ∷ rows) k e = by (nat_lt (key_place r.key) (key_place x.key)) (keyed-put r rows k.1 e)
  where
    by : (b : Bool) → AreKeyed (slots.put_in r rows) → AreKeyed (cond b (r ∷ x ∷ rows) (x ∷ slots.put_in r rows))
    by true ih = (e, k)
    by false ih = (k.0, ih)

pub entries-put : (r : Row Item) (rows : List (Row Item)) → AreKeyed rows → r.key ≡ r.item.entry.pair.key → entries_of (slots.put_in r rows) ≡ put_in r.item.entry (entries_of rows)
entries-put r [] k e = refl
entries-put r (x ∷ rows) k e =
    let test : nat_lt (key_place r.key) (key_place x.key) ≡ nat_lt (place_of r.item.entry.pair) (place_of x.item.entry.pair) = ap (λ (q : Key). nat_lt (key_place q) (key_place x.key)) e ∙ ap (λ (q : Key). nat_lt (place_of r.item.entry.pair) (key_place q)) k.0 in
    by (nat_lt (place_of r.item.entry.pair) (place_of x.item.entry.pair)) test (entries-put r rows k.1 e)
  where
    by : (b : Bool) → nat_lt (key_place r.key) (key_place x.key) ≡ b → entries_of (slots.put_in r rows) ≡ put_in r.item.entry (entries_of rows) → entries_of (cond (nat_lt (key_place r.key) (key_place x.key)) (r ∷ x ∷ rows) (x ∷ slots.put_in r rows)) ≡ cond b (r.item.entry ∷ x.item.entry ∷ entries_of rows) (x.item.entry ∷ put_in r.item.entry (entries_of rows))
    by true f ih = rw f refl
    by false f ih = rw f (ap (λ es. x.item.entry ∷ es) ih)

pub lives-put : (r : Row Item) (rows : List (Row Item)) → AreKeyed rows → r.key ≡ r.item.entry.pair.key → lives_of (slots.put_in r rows) ≡ insert (lives_of rows) (place_in r.item.entry.pair (entries_of rows)) r.item.life
lives-put r [] k e = refl
lives-put r (x ∷ rows) k e =
    let test : nat_lt (key_place r.key) (key_place x.key) ≡ nat_lt (place_of r.item.entry.pair) (place_of x.item.entry.pair) = ap (λ (q : Key). nat_lt (key_place q) (key_place x.key)) e ∙ ap (λ (q : Key). nat_lt (place_of r.item.entry.pair) (key_place q)) k.0 in
    by (nat_lt (place_of r.item.entry.pair) (place_of x.item.entry.pair)) test (lives-put r rows k.1 e)
  where
    by : (b : Bool) → nat_lt (key_place r.key) (key_place x.key) ≡ b → lives_of (slots.put_in r rows) ≡ insert (lives_of rows) (place_in r.item.entry.pair (entries_of rows)) r.item.life → lives_of (cond (nat_lt (key_place r.key) (key_place x.key)) (r ∷ x ∷ rows) (x ∷ slots.put_in r rows)) ≡ insert (x.item.life ∷ lives_of rows) (cond b 0 (suc (place_in r.item.entry.pair (entries_of rows)))) r.item.life
    by true f ih = rw f refl
    by false f ih = rw f (ap (λ ls. x.item.life ∷ ls) ih)

-- the slot that serves an endpoint after one row was put in
pub number-put : (rank : Rank) (r : Row Item) (rows : List (Row Item)) (x : Endpoint) → (is_of_rank rank r.item.entry.state ≡ true → entry_on rank (entries_of rows) r.item.entry.pair.endpoint ≡ None)
    → number_for (slots.put_in r rows) rank x ≡ cond (serves rank x r.item.entry) (Some r.number) (number_for rows rank x)
number-put rank r [] x free = by (serves rank x r.item.entry)
  where
    by : (b : Bool) → option_map (λ (y : Row Item). y.number) (cond b (Some r) None) ≡ cond b (Some r.number) None
    by true = refl
    by false = refl
number-put rank r (y ∷ rows) x free =
    by (nat_lt (key_place r.key) (key_place y.key)) (number-put rank r rows x (λ p. (find-none (serves rank r.item.entry.pair.endpoint) y.item.entry (entries_of rows) (free p)).1))
  where
    mapped : (b : Bool) (z : Row Item) (o : Option (Row Item)) → option_map (λ (y : Row Item). y.number) (cond b (Some z) o) ≡ cond b (Some z.number) (option_map (λ (y : Row Item). y.number) o)
    mapped true z o = refl
    mapped false z o = refl

    clash : serves rank x y.item.entry ≡ true → serves rank x r.item.entry ≡ true → ⊥
    clash a b =
        let mine = and_parts (is_of_rank rank r.item.entry.state) (same_endpoint r.item.entry.pair.endpoint x) b in
        let its = and_parts (is_of_rank rank y.item.entry.state) (same_endpoint y.item.entry.pair.endpoint x) a in
        let none = (find-none (serves rank r.item.entry.pair.endpoint) y.item.entry (entries_of rows) (free mine.0)).0 in
        let one : r.item.entry.pair.endpoint ≡ x = endpoint-eq r.item.entry.pair.endpoint x mine.1 in
        both_ways (serves rank x y.item.entry) (ap (λ (z : Endpoint). serves rank z y.item.entry) (sym one) ∙ none) a

    by : (b : Bool) → number_for (slots.put_in r rows) rank x ≡ cond (serves rank x r.item.entry) (Some r.number) (number_for rows rank x) → number_for (cond b (r ∷ y ∷ rows) (y ∷ slots.put_in r rows)) rank x ≡ cond (serves rank x r.item.entry) (Some r.number) (number_for (y ∷ rows) rank x)
    by true ih = mapped (serves rank x r.item.entry) r (find (λ (z : Row Item). serves rank x z.item.entry) (y ∷ rows))
    by false ih =
        mapped (serves rank x y.item.entry) y (find (λ (z : Row Item). serves rank x z.item.entry) (slots.put_in r rows))
        ∙ ap (cond (serves rank x y.item.entry) (Some y.number)) ih
        ∙ swap_choices (serves rank x y.item.entry) (serves rank x r.item.entry) (Some y.number) (Some r.number) (number_for rows rank x) clash
        ∙ ap (cond (serves rank x r.item.entry) (Some r.number)) (sym (mapped (serves rank x y.item.entry) y (find (λ (z : Row Item). serves rank x z.item.entry) rows)))

-- ---- one row less

pub keyed-without : (key : Key) (rows : List (Row Item)) → AreKeyed rows → AreKeyed (slots.without key rows)
keyed-without key [] k = tt
keyed-without key (x ∷ rows) k = by (not (same_key x.key key)) (keyed-without key rows k.1)
  where
    by : (b : Bool) → AreKeyed (slots.without key rows) → AreKeyed (cond b (x ∷ slots.without key rows) (slots.without key rows))
    by true ih = (k.0, ih)
    by false ih = ih

pub entries-without : (key : Key) (rows : List (Row Item)) → AreKeyed rows → entries_of (slots.without key rows) ≡ without key (entries_of rows)
entries-without key [] k = refl
entries-without key (x ∷ rows) k = by (same_key x.item.entry.pair.key key) (ap (λ (q : Key). same_key q key) k.0) (entries-without key rows k.1)
  where
    by : (b : Bool) → same_key x.key key ≡ b → entries_of (slots.without key rows) ≡ without key (entries_of rows) → entries_of (cond (not (same_key x.key key)) (x ∷ slots.without key rows) (slots.without key rows)) ≡ cond (not b) (x.item.entry ∷ without key (entries_of rows)) (without key (entries_of rows))
    by true e ih = rw e ih
    by false e ih = rw e (ap (λ es. x.item.entry ∷ es) ih)

pub rows-without_none : (key : Key) (rows : List (Row Item)) → slots.row_of rows key ≡ None → slots.without key rows ≡ rows
rows-without_none key [] h = refl
rows-without_none key (x ∷ rows) h = by (same_key x.key key) h (rows-without_none key rows)
  where
    by : (b : Bool) → cond b (Some x) (slots.row_of rows key) ≡ None → (slots.row_of rows key ≡ None → slots.without key rows ≡ rows) → cond (not b) (x ∷ slots.without key rows) (slots.without key rows) ≡ x ∷ rows
    by true h ih = absurd (cc)
    by false h ih = ap (λ xs. x ∷ xs) (ih h)

pub lives-without : (low : ℕ) (key : Key) (rows : List (Row Item)) → AreKeyed rows → slots.Rises low rows → lives_of (slots.without key rows) ≡ lives_without key (entries_of rows) (lives_of rows)
lives-without low key [] k r = refl
lives-without low key (x ∷ rows) k r = by (same_key x.item.entry.pair.key key) (ap (λ (q : Key). same_key q key) k.0) (lives-without (suc (key_place x.key)) key rows k.1 r.1)
  where
    by : (b : Bool) → same_key x.key key ≡ b → lives_of (slots.without key rows) ≡ lives_without key (entries_of rows) (lives_of rows) → lives_of (cond (not (same_key x.key key)) (x ∷ slots.without key rows) (slots.without key rows)) ≡ cond b (lives_of rows) (x.item.life ∷ lives_without key (entries_of rows) (lives_of rows))
    by true e ih =
        let here = ap key_place (key-eq x.key key e) in
        rw e (ap lives_of (rows-without_none key rows (below-none (suc (key_place x.key)) rows key r.1 (omega (arith, here)))))
    by false e ih = rw e (ap (λ ls. x.item.life ∷ ls) ih)
