-- The rows after one cell was written.
use Rattle.std.proofs.Common.{◌≡◌, ℕ, zero, suc, ◌+◌, ◌<◌, ◌≤◌, Bool, true, false, not, cond, nat_lt, Option, Some, None, List, [], ◌∷◌, length, get_or, set, refl, ap, sym, ◌∙◌, arith}
use Rattle.std.specs.List.{cons_option}
use Rattle.std.specs.Option.{option_map}
use Rattle.std.proofs.lemmas.Bool.{cond-true, cond-false, lt-ltb, le-ltb}
use Rattle.nat_types.specs.declared.pairs.Key.{Key}
use Rattle.nat_types.specs.Same.{same_key}
use Rattle.nat_types.proofs.Offered.{key-self}
use Rattle.slots.specs.declared.numbers.SlotNumber.{SlotNumber}
use Rattle.slots.specs.Rows.{Row, key_place, has_key, row_of, put_in, without, with_item, Rises}
use Rattle.slots.specs.Cells.{key_at, row_in, rows_from}
use Rattle.slots.proofs.Places.{places_rise, place_order, other_key}
use Rattle.slots.proofs.Rows.{row-key, absent, rises-lower, rows-rise, rows-same}

module _ {T : Type 0} where
  -- ---- one more row

  -- a row before all others goes first
  pub put-first : (r : Row T) (rows : List (Row T)) → Rises (suc (key_place r.key)) rows → put_in r rows ≡ r ∷ rows
  put-first r [] h = refl
  put-first r (x ∷ xs) h = cond-true (nat_lt (key_place r.key) (key_place x.key)) _ _ (lt-ltb _ _ (omega (arith, h.0)))

  -- a row after the first goes into the rest
  pub put-behind : (r : Row T) (o : Option (Row T)) (rows : List (Row T)) → ((x : Row T) → o ≡ Some x → nat_lt (key_place r.key) (key_place x.key) ≡ false) → put_in r (cons_option o rows) ≡ cons_option o (put_in r rows)
  put-behind r None rows h = refl
  put-behind r (Some x) rows h = cond-false (nat_lt (key_place r.key) (key_place x.key)) _ _ (h x refl)

  pub rows-put : (at : SlotNumber → Option T) (k : ℕ) (ns : List (Option SlotNumber)) (i c : ℕ) (n : SlotNumber) (t : T) → c ≡ k + i → i < length ns → get_or ns i None ≡ None → at n ≡ Some t
      → rows_from at k (set ns i (Some n)) ≡ put_in (record { key = key_at c; number = n; item = t }) (rows_from at k ns)
  rows-put at k [] i c n t e h empty is = absurd (omega (arith, h))
  rows-put at k (m ∷ ns) zero c n t e h empty is =
      let here : c ≡ k = omega (arith, e) in
      let r : Row T = record { key = key_at k; number = n; item = t } in
      let none : row_in at k m ≡ None = ap (row_in at k) empty in
      let one : row_in at k (Some n) ≡ Some r = ap (option_map (λ u. record { key = key_at k; number = n; item = u })) is in
      let low : suc (key_place (key_at k)) ≤ key_place (key_at (suc k)) = (let p = places_rise k (suc k) (omega arith) in omega (arith, p)) in
      rw (here, none, one) (sym (put-first r (rows_from at (suc k) ns) (rises-lower _ _ _ low (rows-rise at (suc k) ns))))
  rows-put at k (m ∷ ns) (suc i) c n t e h empty is =
      let r : Row T = record { key = key_at c; number = n; item = t } in
      ap (cons_option (row_in at k m)) (rows-put at (suc k) ns i c n t (omega (arith, e)) (omega (arith, h)) empty is)
      ∙ sym (put-behind r (row_in at k m) (rows_from at (suc k) ns) (λ x w. ap (λ key. nat_lt (key_place (key_at c)) (key_place key)) (row-key at k m x w) ∙ place_order c k ∙ le-ltb c k (omega (arith, e))))

  pub length-put : (r : Row T) (rows : List (Row T)) → length (put_in r rows) ≡ suc (length rows)
  length-put r [] = refl
  length-put r (x ∷ xs) = by (nat_lt (key_place r.key) (key_place x.key)) (length-put r xs)
    where
      by : (b : Bool) → length (put_in r xs) ≡ suc (length xs) → length (cond b (r ∷ x ∷ xs) (x ∷ put_in r xs)) ≡ suc (suc (length xs))
      by true ih = refl
      by false ih = ap suc ih

  -- ---- one row less

  -- where no row has the key, no row is removed
  pub without-absent : (key : Key) (rows : List (Row T)) → row_of rows key ≡ None → without key rows ≡ rows
  without-absent key [] h = refl
  without-absent key (x ∷ xs) h = by (has_key key x) h (without-absent key xs)
    where
      by : (b : Bool) → cond b (Some x) (row_of xs key) ≡ None → (row_of xs key ≡ None → without key xs ≡ xs) → cond (not b) (x ∷ without key xs) (without key xs) ≡ x ∷ xs
      by true h ih = absurd (cc)
      by false h ih = ap (λ rest. x ∷ rest) (ih h)

  pub without-first : (key : Key) (o : Option (Row T)) (rows : List (Row T)) → ((x : Row T) → o ≡ Some x → has_key key x ≡ true) → without key (cons_option o rows) ≡ without key rows
  without-first key None rows h = refl
  without-first key (Some x) rows h = cond-false (not (has_key key x)) _ _ (ap not (h x refl))

  pub without-later : (key : Key) (o : Option (Row T)) (rows : List (Row T)) → ((x : Row T) → o ≡ Some x → has_key key x ≡ false) → without key (cons_option o rows) ≡ cons_option o (without key rows)
  without-later key None rows h = refl
  without-later key (Some x) rows h = cond-true (not (has_key key x)) _ _ (ap not (h x refl))

  pub rows-without : (at : SlotNumber → Option T) (k : ℕ) (ns : List (Option SlotNumber)) (i c : ℕ) → c ≡ k + i
      → rows_from at k (set ns i None) ≡ without (key_at c) (rows_from at k ns)
  rows-without at k [] i c e = refl
  rows-without at k (m ∷ ns) zero c e =
      let here : c ≡ k = omega (arith, e) in
      rw here (sym (without-first (key_at k) (row_in at k m) (rows_from at (suc k) ns) (λ x w. ap (λ key. same_key key (key_at k)) (row-key at k m x w) ∙ key-self (key_at k))
      ∙ without-absent (key_at k) (rows_from at (suc k) ns) (absent at (suc k) ns k (omega arith))))
  rows-without at k (m ∷ ns) (suc i) c e =
      ap (cons_option (row_in at k m)) (rows-without at (suc k) ns i c (omega (arith, e)))
      ∙ sym (without-later (key_at c) (row_in at k m) (rows_from at (suc k) ns) (λ x w. ap (λ key. same_key key (key_at c)) (row-key at k m x w) ∙ other_key k c (λ s. omega (arith, e, s))))

  pub length-cons : (o : Option (Row T)) (xs ys : List (Row T)) → length xs ≡ suc (length ys) → length (cons_option o xs) ≡ suc (length (cons_option o ys))
  length-cons None xs ys h = h
  length-cons (Some x) xs ys h = ap suc h

  -- the rows are one fewer once a cell with a row is emptied
  pub length-without : (at : SlotNumber → Option T) (k : ℕ) (ns : List (Option SlotNumber)) (i c : ℕ) (r : Row T) → c ≡ k + i → row_in at c (get_or ns i None) ≡ Some r
      → length (rows_from at k ns) ≡ suc (length (rows_from at k (set ns i None)))
  length-without at k [] i c r e is = absurd (cc)
  length-without at k (m ∷ ns) zero c r e is =
      let here : c ≡ k = omega (arith, e) in
      let one : row_in at k m ≡ Some r = rw here at is in
      rw one refl
  length-without at k (m ∷ ns) (suc i) c r e is =
      length-cons (row_in at k m) _ _ (length-without at (suc k) ns i c r (omega (arith, e)) is)

  -- ---- one row with another item

  pub with-absent : (key : Key) (t : T) (rows : List (Row T)) → row_of rows key ≡ None → with_item key t rows ≡ rows
  with-absent key t [] h = refl
  with-absent key t (x ∷ xs) h = by (has_key key x) h (with-absent key t xs)
    where
      by : (b : Bool) → cond b (Some x) (row_of xs key) ≡ None → (row_of xs key ≡ None → with_item key t xs ≡ xs) → (cond b (record x { item = t }) x ∷ with_item key t xs) ≡ x ∷ xs
      by true h ih = absurd (cc)
      by false h ih = ap (λ rest. x ∷ rest) (ih h)

  pub with-later : (key : Key) (t : T) (o : Option (Row T)) (rows : List (Row T)) → ((x : Row T) → o ≡ Some x → has_key key x ≡ false) → with_item key t (cons_option o rows) ≡ cons_option o (with_item key t rows)
  with-later key t None rows h = refl
  with-later key t (Some x) rows h = ap (λ y. y ∷ with_item key t rows) (cond-false (has_key key x) (record x { item = t }) x (h x refl))

  pub rows-with : (at at2 : SlotNumber → Option T) (k : ℕ) (ns : List (Option SlotNumber)) (i c : ℕ) (n : SlotNumber) (t old : T) → c ≡ k + i → get_or ns i None ≡ Some n → at n ≡ Some old → at2 n ≡ Some t
      → ((j : ℕ) (m : SlotNumber) → (j ≡ i → ⊥) → get_or ns j None ≡ Some m → at2 m ≡ at m)
      → rows_from at2 k ns ≡ with_item (key_at c) t (rows_from at k ns)
  rows-with at at2 k [] i c n t old e is was now others = absurd (cc)
  rows-with at at2 k (m ∷ ns) zero c n t old e is was now others =
      let here : c ≡ k = omega (arith, e) in
      let r : Row T = record { key = key_at k; number = n; item = old } in
      let before : row_in at k m ≡ Some r = ap (row_in at k) is ∙ ap (option_map (λ u. record { key = key_at k; number = n; item = u })) was in
      let after : row_in at2 k m ≡ Some (record r { item = t }) = ap (row_in at2 k) is ∙ ap (option_map (λ u. record { key = key_at k; number = n; item = u })) now in
      let rest : rows_from at2 (suc k) ns ≡ rows_from at (suc k) ns = rows-same at at2 (suc k) ns (λ j p w. others (suc j) p (λ z. omega (arith, z)) w) in
      let alone : with_item (key_at k) t (rows_from at (suc k) ns) ≡ rows_from at (suc k) ns = with-absent (key_at k) t (rows_from at (suc k) ns) (absent at (suc k) ns k (omega arith)) in
      let this : cond (same_key (key_at k) (key_at k)) (record r { item = t }) r ≡ record r { item = t } = cond-true (same_key (key_at k) (key_at k)) _ _ (key-self (key_at k)) in
      rw (here, before, after, rest) (sym (ap (λ y. y ∷ with_item (key_at k) t (rows_from at (suc k) ns)) this ∙ ap (λ xs. record r { item = t } ∷ xs) alone))
  rows-with at at2 k (m ∷ ns) (suc i) c n t old e is was now others =
      ap (λ o. cons_option o (rows_from at2 (suc k) ns)) (row-same m refl)
      ∙ ap (cons_option (row_in at k m)) (rows-with at at2 (suc k) ns i c n t old (omega (arith, e)) is was now (λ j p d w. others (suc j) p (λ z. d (omega (arith, z))) w))
      ∙ sym (with-later (key_at c) t (row_in at k m) (rows_from at (suc k) ns) (λ x w. ap (λ key. same_key key (key_at c)) (row-key at k m x w) ∙ other_key k c (λ s. omega (arith, e, s))))
    where
      row-same : (o : Option SlotNumber) → m ≡ o → row_in at2 k m ≡ row_in at k m
      row-same None w = rw w refl
      row-same (Some p) w = rw w (ap (option_map (λ u. record { key = key_at k; number = p; item = u })) (others 0 p (λ z. omega (arith, z)) w))
