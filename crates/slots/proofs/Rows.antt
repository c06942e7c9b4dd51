-- The rows of some cells: what each key finds, and their order.
use Rattle.std.proofs.Common.{◌≡◌, ℕ, zero, suc, ◌+◌, ◌<◌, ◌≤◌, inl, inr, Bool, true, false, cond, Option, Some, None, List, [], ◌∷◌, get_or, refl, ap, sym, ◌∙◌, arith}
use Rattle.std.specs.List.{find, cons_option}
use Rattle.std.specs.Option.{option_map, is_some}
use Rattle.std.proofs.lemmas.Bool.{cond-true, cond-false, cases_lt}
use Rattle.nat_types.specs.Same.{same_key}
use Rattle.nat_types.proofs.Offered.{key-self}
use Rattle.slots.specs.declared.numbers.SlotNumber.{SlotNumber}
use Rattle.slots.specs.Rows.{Row, key_place, has_key, row_of, Rises}
use Rattle.slots.specs.Cells.{key_at, row_in, rows_from}
use Rattle.slots.proofs.Places.{places_rise, other_key}

module _ {T : Type 0} where
  -- a cell's row has the cell's key
  pub row-key : (at : SlotNumber → Option T) (c : ℕ) (n : Option SlotNumber) (r : Row T) → row_in at c n ≡ Some r → r.key ≡ key_at c
  row-key at c None r h = absurd (cc)
  row-key at c (Some n) r h = by (at n) h
    where
      by : (o : Option T) → option_map (λ t. record { key = key_at c; number = n; item = t }) o ≡ Some r → r.key ≡ key_at c
      by None h = absurd (cc)
      by (Some t) h = cc

  -- a first row that doesn't pass is skipped
  pub skip : (test : Row T → Bool) (o : Option (Row T)) (rows : List (Row T)) → ((r : Row T) → o ≡ Some r → test r ≡ false) → find test (cons_option o rows) ≡ find test rows
  skip test None rows fails = refl
  skip test (Some r) rows fails = cond-false (test r) (Some r) (find test rows) (fails r refl)

  -- a first row that passes is found
  pub found : (test : Row T → Bool) (o : Option (Row T)) (rows : List (Row T)) (r : Row T) → o ≡ Some r → test r ≡ true → find test (cons_option o rows) ≡ Some r
  found test None rows r h passes = absurd (cc)
  found test (Some x) rows r h passes =
      let same : x ≡ r = cc in
      cond-true (test x) (Some x) (find test rows) (ap test same ∙ passes) ∙ ap Some same

  -- the key of an earlier cell has no row
  pub absent : (at : SlotNumber → Option T) (k : ℕ) (ns : List (Option SlotNumber)) (c : ℕ) → c < k → row_of (rows_from at k ns) (key_at c) ≡ None
  absent at k [] c h = refl
  absent at k (n ∷ ns) c h =
      skip (has_key (key_at c)) (row_in at k n) (rows_from at (suc k) ns) (λ r e. ap (λ key. same_key key (key_at c)) (row-key at k n r e) ∙ other_key k c (λ s. omega (arith, h, s)))
      ∙ absent at (suc k) ns c (omega (arith, h))

  -- a key has the row of its cell
  pub row-at : (at : SlotNumber → Option T) (k : ℕ) (ns : List (Option SlotNumber)) (i c : ℕ) → c ≡ k + i → row_of (rows_from at k ns) (key_at c) ≡ row_in at c (get_or ns i None)
  row-at at k [] i c e = refl
  row-at at k (n ∷ ns) zero c e =
      let here : c ≡ k = omega (arith, e) in
      rw here (first (row_in at k n) refl)
    where
      first : (o : Option (Row T)) → row_in at k n ≡ o → row_of (cons_option (row_in at k n) (rows_from at (suc k) ns)) (key_at k) ≡ row_in at k n
      first None h = rw h (absent at (suc k) ns k (omega arith))
      first (Some r) h = found (has_key (key_at k)) (row_in at k n) (rows_from at (suc k) ns) r h (ap (λ key. same_key key (key_at k)) (row-key at k n r h) ∙ key-self (key_at k)) ∙ sym h
  row-at at k (n ∷ ns) (suc i) c e =
      skip (has_key (key_at c)) (row_in at k n) (rows_from at (suc k) ns) (λ r h. ap (λ key. same_key key (key_at c)) (row-key at k n r h) ∙ other_key k c (λ s. omega (arith, e, s)))
      ∙ row-at at (suc k) ns i c (omega (arith, e))

  -- a list that rises from a place on rises from any place below
  pub rises-lower : (low high : ℕ) (rows : List (Row T)) → low ≤ high → Rises high rows → Rises low rows
  rises-lower low high [] h r = tt
  rises-lower low high (x ∷ xs) h r = (omega (arith, h, r.0), r.1)

  pub rises-cons : (k : ℕ) (o : Option (Row T)) (rows : List (Row T)) → ((r : Row T) → o ≡ Some r → r.key ≡ key_at k) → Rises (key_place (key_at (suc k))) rows → Rises (key_place (key_at k)) (cons_option o rows)
  rises-cons k None rows key r = rises-lower _ _ rows (let p = places_rise k (suc k) (omega arith) in omega (arith, p)) r
  rises-cons k (Some x) rows key r =
      let same = ap key_place (key x refl) in (
        omega (arith, same),
        rises-lower _ _ rows (let p = places_rise k (suc k) (omega arith) in omega (arith, p, same)) r,
      )

  -- the rows are in the order of their cells
  pub rows-rise : (at : SlotNumber → Option T) (k : ℕ) (ns : List (Option SlotNumber)) → Rises (key_place (key_at k)) (rows_from at k ns)
  rows-rise at k [] = tt
  rows-rise at k (n ∷ ns) = rises-cons k (row_in at k n) (rows_from at (suc k) ns) (row-key at k n) (rows-rise at (suc k) ns)

  -- empty cells have no rows
  pub rows-none : (at : SlotNumber → Option T) (k : ℕ) (ns : List (Option SlotNumber)) → ((i : ℕ) → get_or ns i None ≡ None) → rows_from at k ns ≡ []
  rows-none at k [] h = refl
  rows-none at k (n ∷ ns) h = ap (λ o. cons_option (row_in at k o) (rows_from at (suc k) ns)) (h 0) ∙ rows-none at (suc k) ns (λ i. h (suc i))

  -- slots that have the same items under the numbers of some cells give the same rows
  pub rows-same : (at at2 : SlotNumber → Option T) (k : ℕ) (ns : List (Option SlotNumber)) → ((i : ℕ) (n : SlotNumber) → get_or ns i None ≡ Some n → at2 n ≡ at n) → rows_from at2 k ns ≡ rows_from at k ns
  rows-same at at2 k [] h = refl
  rows-same at at2 k (n ∷ ns) h =
      ap (λ o. cons_option o (rows_from at2 (suc k) ns)) (row-same n (h 0))
      ∙ ap (cons_option (row_in at k n)) (rows-same at at2 (suc k) ns (λ i. h (suc i)))
    where
      row-same : (n : Option SlotNumber) → ((m : SlotNumber) → n ≡ Some m → at2 m ≡ at m) → row_in at2 k n ≡ row_in at k n
      row-same None h = refl
      row-same (Some m) h = ap (option_map (λ t. record { key = key_at k; number = m; item = t })) (h m refl)

  -- the first row whose cell is `from` or a later one, where the cells between have none
  pub first-from : (at : SlotNumber → Option T) (test : Row T → Bool) (from k : ℕ) (ns : List (Option SlotNumber)) (i : ℕ) (r : Row T)
      → ((x : Row T) (c : ℕ) → x.key ≡ key_at c → c < from → test x ≡ false) → ((x : Row T) (c : ℕ) → x.key ≡ key_at c → from ≤ c → test x ≡ true)
      → from ≤ k + i → ((j : ℕ) → from ≤ k + j → j < i → get_or ns j None ≡ None) → row_in at (k + i) (get_or ns i None) ≡ Some r → find test (rows_from at k ns) ≡ Some r
  first-from at test from k [] i r low high h empty is = absurd (cc)
  first-from at test from k (n ∷ ns) zero r low high h empty is =
      let same : k + 0 ≡ k = omega arith in
      let here : row_in at k n ≡ Some r = rw same at is in
      found test (row_in at k n) (rows_from at (suc k) ns) r here (high r k (row-key at k n r here) (omega (arith, h)))
  first-from at test from k (n ∷ ns) (suc i) r low high h empty is =
      let shift : k + suc i ≡ suc k + i = omega arith in
      skip test (row_in at k n) (rows_from at (suc k) ns) fails
      ∙ first-from at test from (suc k) ns i r low high (omega (arith, h)) (λ j a b. empty (suc j) (omega (arith, a)) (omega (arith, b))) (rw shift at is)
    where
      fails : (x : Row T) → row_in at k n ≡ Some x → test x ≡ false
      fails x e =
          elim (cases_lt k from) [
            | inl before ↦ low x k (row-key at k n x e) before
            | inr behind ↦ (let none : n ≡ None = empty 0 (omega (arith, behind)) (omega arith) in let no : row_in at k n ≡ None = ap (row_in at k) none in absurd (cc))
          ]

  pub none-from : (at : SlotNumber → Option T) (test : Row T → Bool) (from k : ℕ) (ns : List (Option SlotNumber))
      → ((x : Row T) (c : ℕ) → x.key ≡ key_at c → c < from → test x ≡ false)
      → ((j : ℕ) → from ≤ k + j → get_or ns j None ≡ None) → find test (rows_from at k ns) ≡ None
  none-from at test from k [] low empty = refl
  none-from at test from k (n ∷ ns) low empty =
      skip test (row_in at k n) (rows_from at (suc k) ns) fails
      ∙ none-from at test from (suc k) ns low (λ j a. empty (suc j) (omega (arith, a)))
    where
      fails : (x : Row T) → row_in at k n ≡ Some x → test x ≡ false
      fails x e =
          elim (cases_lt k from) [
            | inl before ↦ low x k (row-key at k n x e) before
            | inr behind ↦ (let none : n ≡ None = empty 0 (omega (arith, behind)) in let no : row_in at k n ≡ None = ap (row_in at k) none in absurd (cc))
          ]

  -- the item of a cell's row is that of its slot
  pub item-in : (at : SlotNumber → Option T) (c : ℕ) (n : SlotNumber) → option_map (λ (r : Row T). r.item) (row_in at c (Some n)) ≡ at n
  item-in at c n = by (at n)
    where
      by : (o : Option T) → option_map (λ (r : Row T). r.item) (option_map (λ t. record { key = key_at c; number = n; item = t }) o) ≡ o
      by None = refl
      by (Some t) = refl

  pub number-in : (at : SlotNumber → Option T) (c : ℕ) (n : SlotNumber) → is_some (at n) ≡ true → option_map (λ (r : Row T). r.number) (row_in at c (Some n)) ≡ Some n
  number-in at c n h = by (at n) h
    where
      by : (o : Option T) → is_some o ≡ true → option_map (λ (r : Row T). r.number) (option_map (λ t. record { key = key_at c; number = n; item = t }) o) ≡ Some n
      by None h = absurd (cc)
      by (Some t) h = refl

  -- a row that is found passes the test
  pub passes : (test : Row T → Bool) (rows : List (Row T)) (r : Row T) → find test rows ≡ Some r → test r ≡ true
  passes test [] r h = absurd (cc)
  passes test (x ∷ rows) r h = by (test x) refl (passes test rows r)
    where
      by : (b : Bool) → test x ≡ b → (find test rows ≡ Some r → test r ≡ true) → test r ≡ true
      by true e ih = (let first = cond-true (test x) (Some x) (find test rows) e in let same : x ≡ r = cc in ap test (sym same) ∙ e)
      by false e ih = ih (sym (cond-false (test x) (Some x) (find test rows) e) ∙ h)

  -- a row that is found is that of a cell, with the item of its slot
  pub record StandsIn (at : SlotNumber → Option T) (k : ℕ) (ns : List (Option SlotNumber)) (r : Row T) : Type 0 where
    pub cell : ℕ
    pub has : get_or ns cell None ≡ Some r.number
    pub item : at r.number ≡ Some r.item
    pub key : r.key ≡ key_at (k + cell)

  pub stands-in : (at : SlotNumber → Option T) (test : Row T → Bool) (k : ℕ) (ns : List (Option SlotNumber)) (r : Row T) → find test (rows_from at k ns) ≡ Some r → StandsIn at k ns r
  stands-in at test k [] r h = absurd (cc)
  stands-in at test k (n ∷ ns) r h = first (stands-in at test (suc k) ns r) n refl
    where
      behind : StandsIn at (suc k) ns r → StandsIn at k (n ∷ ns) r
      behind s =
          let shift : suc k + s.cell ≡ k + suc s.cell = omega arith in
          record { cell = suc s.cell; has = s.has; item = s.item; key = s.key ∙ ap key_at shift }

      choose : (m : SlotNumber) (t : T) (b : Bool) → (find test (rows_from at (suc k) ns) ≡ Some r → StandsIn at (suc k) ns r) → n ≡ Some m → at m ≡ Some t → cond b (Some (record { key = key_at k; number = m; item = t })) (find test (rows_from at (suc k) ns)) ≡ Some r → StandsIn at k (n ∷ ns) r
      choose m t true ih e f h =
          let x : Row T = record { key = key_at k; number = m; item = t } in
          let same : x ≡ r = cc in
          let here : k ≡ k + 0 = omega arith in
          record {
            cell = 0;
            has = e ∙ ap (λ (y : Row T). Some y.number) same;
            item = ap (λ (y : Row T). at y.number) (sym same) ∙ f ∙ ap (λ (y : Row T). Some y.item) same;
            key = ap (λ (y : Row T). y.key) (sym same) ∙ ap key_at here;
          }
      choose m t false ih e f h = behind (ih h)

      slot : (m : SlotNumber) (o : Option T) → (find test (rows_from at (suc k) ns) ≡ Some r → StandsIn at (suc k) ns r) → n ≡ Some m → at m ≡ o → find test (cons_option (option_map (λ t. record { key = key_at k; number = m; item = t }) o) (rows_from at (suc k) ns)) ≡ Some r → StandsIn at k (n ∷ ns) r
      slot m None ih e f h = behind (ih h)
      slot m (Some t) ih e f h = choose m t (test (record { key = key_at k; number = m; item = t })) ih e f h

      first : (find test (rows_from at (suc k) ns) ≡ Some r → StandsIn at (suc k) ns r) → (o : Option SlotNumber) → n ≡ o → StandsIn at k (n ∷ ns) r
      first ih None e = behind (ih (sym (ap (λ x. find test (cons_option (row_in at k x) (rows_from at (suc k) ns))) e) ∙ h))
      first ih (Some m) e = slot m (at m) ih e refl (sym (ap (λ x. find test (cons_option (row_in at k x) (rows_from at (suc k) ns))) e) ∙ h)
