-- What the slots and their cells keep, and what single calls make of them.
use Rattle.std.proofs.Common.{◌≡◌, ◌⊎◌, inl, inr, ℕ, suc, ◌+◌, ◌<◌, ◌≤◌, true, false, cond, nat_lt, count_by, Bor, Option, Some, None, List, [], length, get_or, set, refl, ap, sym, ◌∙◌, arith}
use Rattle.std.specs.List.{find}
use Rattle.std.specs.Option.{option_map, option_copied, is_some, IfSome, OnSome}
use Rattle.std.proofs.lemmas.Bool.{cases_eq, lt-ltb, le-ltb}
use Rattle.std.proofs.lemmas.List.{length-map, get_or-set_same, get_or-set_other, length-set}
use Rattle.nat_types.specs.declared.pairs.Key.{Key}
use Rattle.nat_types.proofs.Offered.{key-eq}
use Rattle.slab.specs.Slab.{Slab, Updates, slab_len, with_value}
use Rattle.slab.proofs.SlabLemmas.{ContainsKey-within, Updates-with_value}
use Rattle.std.proofs.lemmas.List.Sums.{sum_by-set}
use Rattle.slab.specs.Slab.{get as slab_get}
use Rattle.slots.specs.declared.numbers.SlotNumber.{SlotNumber}
use Rattle.slots.specs.Rows.{Row, key_place, has_key, row_of, item_of, number_of, put_in, without, with_item, stands_behind, HasDistinctNumbers, AreBelow}
use Rattle.slots.specs.Cells.{key_at, cell_of, cell_behind, item_at, row_in, rows_from, IsStored}
use Rattle.slots.proofs.Places.{place_order}
use Rattle.slots.proofs.Rows.{row-at, rows-same, rows-none, item-in, number-in, stands-in, passes, first-from, none-from}
use Rattle.slots.proofs.Edits.{rows-put, length-put, rows-without, length-without, rows-with}

-- the cell of a key that has a slot
record HasCell (cells : List (Option SlotNumber)) (key : Key) (n : SlotNumber) : Type 0 where
  cell : ℕ
  has : get_or cells cell None ≡ Some n
  own : key_at cell ≡ key

module _ {T : Type 0} where
  -- the rows of some slots and cells
  abbrev pub rows_in : Slab T → List (Option SlotNumber) → List (Row T)
  rows_in slots cells = rows_from (item_at slots) 0 cells

  pub number-at : (slots : Slab T) (cells : List (Option SlotNumber)) (room c : ℕ) → IsStored slots cells room → get_or cells c None ≡ number_of (rows_in slots cells) (key_at c)
  number-at slots cells room c s =
      sym (ap (option_map (λ (r : Row T). r.number)) (row-at (item_at slots) 0 cells c c (omega arith)) ∙ by (get_or cells c None) (λ n e. s.used c n e))
    where
      by : (o : Option SlotNumber) → ((n : SlotNumber) → o ≡ Some n → is_some (item_at slots n) ≡ true) → option_map (λ (r : Row T). r.number) (row_in (item_at slots) c o) ≡ o
      by None h = refl
      by (Some n) h = number-in (item_at slots) c n (h n refl)

  pub vacant-row : (slots : Slab T) (cells : List (Option SlotNumber)) (c : ℕ) → get_or cells c None ≡ None → row_of (rows_in slots cells) (key_at c) ≡ None
  vacant-row slots cells c e = row-at (item_at slots) 0 cells c c (omega arith) ∙ ap (row_in (item_at slots) c) e

  pub item-none : (slots : Slab T) (cells : List (Option SlotNumber)) (c : ℕ) → get_or cells c None ≡ None → item_of (rows_in slots cells) (key_at c) ≡ None
  item-none slots cells c e = ap (option_map (λ (r : Row T). r.item)) (row-at (item_at slots) 0 cells c c (omega arith) ∙ ap (row_in (item_at slots) c) e)

  pub item-some : (slots : Slab T) (cells : List (Option SlotNumber)) (c : ℕ) (n : SlotNumber) → get_or cells c None ≡ Some n → item_of (rows_in slots cells) (key_at c) ≡ slab_get slots n.0
  item-some slots cells c n e = ap (option_map (λ (r : Row T). r.item)) (row-at (item_at slots) 0 cells c c (omega arith) ∙ ap (row_in (item_at slots) c) e) ∙ item-in (item_at slots) c n

  -- the slot of a key's row has its item
  pub item-by : (slots : Slab T) (cells : List (Option SlotNumber)) (key : Key) (n : SlotNumber) → number_of (rows_in slots cells) key ≡ Some n → slab_get slots n.0 ≡ item_of (rows_in slots cells) key
  item-by slots cells key n h = by (row_of (rows_in slots cells) key) refl
    where
      by : (o : Option (Row T)) → row_of (rows_in slots cells) key ≡ o → slab_get slots n.0 ≡ option_map (λ (r : Row T). r.item) (row_of (rows_in slots cells) key)
      by None e = (let no = ap (option_map (λ (r : Row T). r.number)) e in absurd (cc))
      by (Some r) e =
          let s = stands-in (item_at slots) (has_key key) 0 cells r e in
          let one : Some r.number ≡ Some n = sym (ap (option_map (λ (x : Row T). x.number)) e) ∙ h in
          let same : r.number ≡ n = cc in
          ap (λ (m : SlotNumber). slab_get slots m.0) (sym same) ∙ s.item ∙ sym (ap (option_map (λ (x : Row T). x.item)) e)

  -- a slot that isn't in use isn't that of any key
  pub fresh-number : (slots : Slab T) (cells : List (Option SlotNumber)) (n : SlotNumber) (q : Key) → slab_get slots n.0 ≡ None → number_of (rows_in slots cells) q ≡ Some n → ⊥
  fresh-number slots cells n q free h = by (row_of (rows_in slots cells) q) refl
    where
      by : (o : Option (Row T)) → row_of (rows_in slots cells) q ≡ o → ⊥
      by None e = (let no = ap (option_map (λ (r : Row T). r.number)) e in cc)
      by (Some r) e =
          let s = stands-in (item_at slots) (has_key q) 0 cells r e in
          let one : Some r.number ≡ Some n = sym (ap (option_map (λ (x : Row T). x.number)) e) ∙ h in
          let same : r.number ≡ n = cc in
          let none : None ≡ Some r.item = sym free ∙ ap (λ (m : SlotNumber). slab_get slots m.0) (sym same) ∙ s.item in
          cc

  cell-by : (slots : Slab T) (cells : List (Option SlotNumber)) (key : Key) (n : SlotNumber) → number_of (rows_in slots cells) key ≡ Some n → HasCell cells key n
  cell-by slots cells key n h = by (row_of (rows_in slots cells) key) refl
    where
      by : (o : Option (Row T)) → row_of (rows_in slots cells) key ≡ o → HasCell cells key n
      by None e = (let no = ap (option_map (λ (r : Row T). r.number)) e in absurd (cc))
      by (Some r) e =
          let s = stands-in (item_at slots) (has_key key) 0 cells r e in
          let one : Some r.number ≡ Some n = sym (ap (option_map (λ (x : Row T). x.number)) e) ∙ h in
          let zero : 0 + s.cell ≡ s.cell = omega arith in
          record {
            cell = s.cell;
            has = s.has ∙ one;
            own = sym (ap key_at zero) ∙ sym s.key ∙ key-eq r.key key (passes (has_key key) (rows_in slots cells) r e);
          }

  -- no two keys have one slot, and each slot's number is below the capacity
  pub distinct-numbers : (slots : Slab T) (cells : List (Option SlotNumber)) (room : ℕ) → IsStored slots cells room → HasDistinctNumbers (rows_in slots cells)
  distinct-numbers slots cells room s k q n e f =
      let a = cell-by slots cells k n e in
      let b = cell-by slots cells q n f in
      sym a.own ∙ ap key_at (s.distinct a.cell b.cell n a.has b.has) ∙ b.own

  pub numbers-below : (slots : Slab T) (cells : List (Option SlotNumber)) (room : ℕ) → IsStored slots cells room → AreBelow slots.capacity (rows_in slots cells)
  numbers-below slots cells room s key n e = (let a = cell-by slots cells key n e in s.below a.cell n a.has)

  -- a slot in use is that of a key
  pub held-by : (slots : Slab T) (cells : List (Option SlotNumber)) (room : ℕ) (n : SlotNumber) → IsStored slots cells room → is_some (slab_get slots n.0) ≡ true → (key : Key) × (number_of (rows_in slots cells) key ≡ Some n)
  held-by slots cells room n s used =
      let there = s.held n used in
      (key_at there.0, sym (number-at slots cells room there.0 s) ∙ there.1)

  pub used-by : (slots : Slab T) (cells : List (Option SlotNumber)) (room : ℕ) (n : SlotNumber) (o : Option (Bor T)) → IsStored slots cells room → option_copied o ≡ slab_get slots n.0 → OnSome o ((key : Key) × (number_of (rows_in slots cells) key ≡ Some n))
  used-by slots cells room n None s h = tt
  used-by slots cells room n (Some b) s h = held-by slots cells room n s (ap is_some (sym h))

  -- the first row after a key is that of the first cell after its cell that has a number
  behind-low : (last : Option Key) (x : Row T) (c : ℕ) → ((key : Key) → last ≡ Some key → key_at (cell_of key) ≡ key) → x.key ≡ key_at c → c < cell_behind last → stands_behind last x ≡ false
  behind-low None x c h e low = absurd (omega (arith, low))
  behind-low (Some key) x c h e low =
      ap (λ k. nat_lt (key_place k) (key_place x.key)) (sym (h key refl)) ∙ ap (λ k. nat_lt (key_place (key_at (cell_of key))) (key_place k)) e
      ∙ place_order (cell_of key) c ∙ le-ltb (cell_of key) c (omega (arith, low))

  behind-high : (last : Option Key) (x : Row T) (c : ℕ) → ((key : Key) → last ≡ Some key → key_at (cell_of key) ≡ key) → x.key ≡ key_at c → cell_behind last ≤ c → stands_behind last x ≡ true
  behind-high None x c h e high = refl
  behind-high (Some key) x c h e high =
      ap (λ k. nat_lt (key_place k) (key_place x.key)) (sym (h key refl)) ∙ ap (λ k. nat_lt (key_place (key_at (cell_of key))) (key_place k)) e
      ∙ place_order (cell_of key) c ∙ lt-ltb (cell_of key) c (omega (arith, high))

  pub behind-some : (slots : Slab T) (cells : List (Option SlotNumber)) (room : ℕ) (last : Option Key) (i : ℕ) → IsStored slots cells room → ((key : Key) → last ≡ Some key → key_at (cell_of key) ≡ key)
      → cell_behind last ≤ i → is_some (get_or cells i None) ≡ true → ((k : ℕ) → cell_behind last ≤ k → k < i → get_or cells k None ≡ None)
      → option_map (λ (r : Row T). r.key) (find (stands_behind last) (rows_in slots cells)) ≡ Some (key_at i)
  behind-some slots cells room last i s key high used before = cell (get_or cells i None) refl
    where
      row : (n : SlotNumber) (o : Option T) → get_or cells i None ≡ Some n → item_at slots n ≡ o → is_some (item_at slots n) ≡ true → option_map (λ (r : Row T). r.key) (find (stands_behind last) (rows_in slots cells)) ≡ Some (key_at i)
      row n None e f g = absurd (cc)
      row n (Some t) e f g =
          let r : Row T = record { key = key_at i; number = n; item = t } in
          let here : row_in (item_at slots) (0 + i) (get_or cells i None) ≡ Some r = (let z : 0 + i ≡ i = omega arith in rw z (ap (row_in (item_at slots) i) e ∙ ap (option_map (λ u. record { key = key_at i; number = n; item = u })) f)) in
          ap (option_map (λ (x : Row T). x.key)) (first-from (item_at slots) (stands_behind last) (cell_behind last) 0 cells i r (λ x c. behind-low last x c key) (λ x c. behind-high last x c key) (omega (arith, high)) (λ j a b. before j (omega (arith, a)) b) here)

      cell : (o : Option SlotNumber) → get_or cells i None ≡ o → option_map (λ (r : Row T). r.key) (find (stands_behind last) (rows_in slots cells)) ≡ Some (key_at i)
      cell None e = absurd (cc)
      cell (Some n) e = row n (item_at slots n) e refl (s.used i n e)

  pub behind-none : (slots : Slab T) (cells : List (Option SlotNumber)) (last : Option Key) → ((key : Key) → last ≡ Some key → key_at (cell_of key) ≡ key) → ((k : ℕ) → cell_behind last ≤ k → get_or cells k None ≡ None)
      → option_map (λ (r : Row T). r.key) (find (stands_behind last) (rows_in slots cells)) ≡ None
  behind-none slots cells last key none =
      ap (option_map (λ (x : Row T). x.key)) (none-from (item_at slots) (stands_behind last) (cell_behind last) 0 cells (λ x c. behind-low last x c key) (λ j a. none j (omega (arith, a))))

  -- ---- changes

  pub record Changed (slots : Slab T) (cells : List (Option SlotNumber)) (places : ℕ) (rows : List (Row T)) : Type 0 where
    pub made : rows_in slots cells ≡ rows
    pub stored : IsStored slots cells places

  pub empty-stored : (slots : Slab T) (cells : List (Option SlotNumber)) (room : ℕ) → slots.slots ≡ [] → length cells ≡ 196608 → ((i : ℕ) → get_or cells i None ≡ None) → room ≤ slots.capacity → slots.capacity ≤ 2147483647 → Changed slots cells room []
  empty-stored slots cells room empty all none fits small =
      let rows = rows-none (item_at slots) 0 cells none in
      record {
        made = rows;
        stored = record {
          all = all;
          used = λ i n e. (let no = none i in absurd (cc));
          distinct = λ i j n e f. (let no = none i in absurd (cc));
          count = ap length rows ∙ sym (ap (λ xs. count_by is_some xs) empty);
          room = fits;
          below = λ i n e. (let no = none i in absurd (cc));
          held = λ n used. absurd (let no = ap (λ (xs : List (Option T)). is_some (get_or xs n.0 None)) empty in cc);
          small = small;
        };
      }

  pub insert-stored : (slots slots2 : Slab T) (cells : List (Option SlotNumber)) (room c : ℕ) (n : SlotNumber) (t : T) → IsStored slots cells room → c < 196608 → row_of (rows_in slots cells) (key_at c) ≡ None
      → slab_get slots n.0 ≡ None → n.0 < slots2.capacity → Updates slots slots2 n.0 (Some t) → slab_len slots2 ≡ slab_len slots + 1 → slots2.capacity ≡ slots.capacity
      → Changed slots2 (set cells c (Some n)) room (put_in (record { key = key_at c; number = n; item = t }) (rows_in slots cells))
  insert-stored slots slots2 cells room c n t s within vacant free low updates len capacity =
      let empty : get_or cells c None ≡ None = number-at slots cells room c s ∙ ap (option_map (λ (r : Row T). r.number)) vacant in
      let kept : (i : ℕ) (m : SlotNumber) → get_or cells i None ≡ Some m → item_at slots2 m ≡ item_at slots m =
      λ i m e. updates.others m.0 (λ same. (let used = s.used i m e in let no = ap (slab_get slots) same ∙ free in absurd (cc))) in
      let same = rows-same (item_at slots) (item_at slots2) 0 cells kept in
      let put = rows-put (item_at slots2) 0 cells c c n t (omega arith) (omega (arith, within, s.all)) empty updates.changed ∙ ap (put_in (record { key = key_at c; number = n; item = t })) same in
      let at-other : (i : ℕ) (m : SlotNumber) → get_or (set cells c (Some n)) i None ≡ Some m → ((i ≡ c) × (m ≡ n)) ⊎ ((i ≡ c → ⊥) × (get_or cells i None ≡ Some m)) =
      λ i m e. elim (cases_eq i c) [
        | inl z ↦ (let here = get_or-set_same cells c (Some n) None (omega (arith, within, s.all)) in let there = ap (λ j. get_or (set cells c (Some n)) j None) z in inl (z, cc))
        | inr z ↦ inr (z, sym (get_or-set_other cells c i (Some n) None z) ∙ e)
      ] in
      let clash : (i : ℕ) (m : SlotNumber) → m ≡ n → get_or cells i None ≡ Some m → ⊥ =
      λ i m z e. (let used = s.used i m e in let no = ap (λ (x : SlotNumber). slab_get slots x.0) z ∙ free in cc) in
      record {
        made = put;
        stored = record {
          all = length-set cells c (Some n) ∙ s.all;
          used = λ i m e. elim (at-other i m e) [
            | inl w ↦ ap (λ (x : SlotNumber). is_some (slab_get slots2 x.0)) w.1 ∙ ap is_some updates.changed
            | inr w ↦ ap is_some (kept i m w.1) ∙ s.used i m w.1
          ];
          distinct = λ i j m e f. elim (at-other i m e) [
            | inl w ↦ elim (at-other j m f) [ inl v ↦ w.0 ∙ sym v.0 | inr v ↦ absurd (clash j m w.1 v.1) ]
            | inr w ↦ elim (at-other j m f) [ inl v ↦ absurd (clash i m v.1 w.1) | inr v ↦ s.distinct i j m w.1 v.1 ]
          ];
          count = ap length put ∙ length-put _ (rows_in slots cells) ∙ (let k = s.count in omega (arith, k, len));
          room = (let r = s.room in omega (arith, r, capacity));
          below = λ i m e. elim (at-other i m e) [
            | inl w ↦ (let z = ap (λ (x : SlotNumber). x.0) w.1 in omega (arith, z, low))
            | inr w ↦ (let k = s.below i m w.1 in omega (arith, k, capacity))
          ];
          held = λ m used. elim (cases_eq m.0 n.0) [
            | inl z ↦ (c, get_or-set_same cells c (Some n) None (omega (arith, within, s.all)) ∙ ap (λ (k : ℕ). let x : SlotNumber = record { 0 = k } in Some x) (sym z))
            | inr z ↦ (
                let there = s.held m (ap is_some (sym (updates.others m.0 z)) ∙ used) in
                let other : there.0 ≡ c → ⊥ = λ w. (let no = ap (λ j. get_or cells j None) w ∙ empty in let has = there.1 in cc) in
                (there.0, get_or-set_other cells c there.0 (Some n) None other ∙ there.1))
          ];
          small = (let r = s.small in omega (arith, r, capacity));
        };
      }

  pub remove-stored : (slots slots2 : Slab T) (cells : List (Option SlotNumber)) (room c : ℕ) (n : SlotNumber) → IsStored slots cells room → c < 196608 → get_or cells c None ≡ Some n
      → Updates slots slots2 n.0 None → slab_len slots2 + 1 ≡ slab_len slots → slots2.capacity ≡ slots.capacity
      → Changed slots2 (set cells c None) room (without (key_at c) (rows_in slots cells))
  remove-stored slots slots2 cells room c n s within has updates len capacity =
      let at-other : (i : ℕ) (m : SlotNumber) → get_or (set cells c None) i None ≡ Some m → (i ≡ c → ⊥) × (get_or cells i None ≡ Some m) =
      λ i m e. elim (cases_eq i c) [
        | inl z ↦ (let here = get_or-set_same cells c None None (omega (arith, within, s.all)) in let there = ap (λ j. get_or (set cells c None) j None) z in absurd (cc))
        | inr z ↦ (z, sym (get_or-set_other cells c i None None z) ∙ e)
      ] in
      let kept : (i : ℕ) (m : SlotNumber) → get_or (set cells c None) i None ≡ Some m → item_at slots2 m ≡ item_at slots m =
      λ i m e. (let w = at-other i m e in updates.others m.0 (λ same. (let z : m ≡ n = ap (λ (k : ℕ). let x : SlotNumber = record { 0 = k } in x) same in w.0 (s.distinct i c n (w.1 ∙ ap Some z) has)))) in
      let same = rows-same (item_at slots) (item_at slots2) 0 (set cells c None) kept in
      let made = same ∙ rows-without (item_at slots) 0 cells c c (omega arith) in
      record {
        made = made;
        stored = record {
          all = length-set cells c None ∙ s.all;
          used = λ i m e. (let w = at-other i m e in ap is_some (kept i m e) ∙ s.used i m w.1);
          distinct = λ i j m e f. (let w = at-other i m e in let v = at-other j m f in s.distinct i j m w.1 v.1);
          count = (let fewer = gone (item_at slots n) refl in let k = s.count in let now = ap length same in omega (arith, fewer, k, len, now));
          room = (let r = s.room in omega (arith, r, capacity));
          below = λ i m e. (let w = at-other i m e in let k = s.below i m w.1 in omega (arith, k, capacity));
          held = λ m used. elim (cases_eq m.0 n.0) [
            | inl z ↦ absurd (let none = ap (λ k. is_some (slab_get slots2 k)) z ∙ ap is_some updates.changed in cc)
            | inr z ↦ (
                let there = s.held m (ap is_some (sym (updates.others m.0 z)) ∙ used) in
                let other : there.0 ≡ c → ⊥ = λ w. (let one = sym (ap (λ j. get_or cells j None) w ∙ has) ∙ there.1 in let same : n ≡ m = cc in z (ap (λ (x : SlotNumber). x.0) (sym same))) in
                (there.0, get_or-set_other cells c there.0 None None other ∙ there.1))
          ];
          small = (let r = s.small in omega (arith, r, capacity));
        };
      }
    where
      gone : (o : Option T) → item_at slots n ≡ o → length (rows_in slots cells) ≡ suc (length (rows_from (item_at slots) 0 (set cells c None)))
      gone None e = (let used = s.used c n has in absurd (cc))
      gone (Some t) e =
          length-without (item_at slots) 0 cells c c (record { key = key_at c; number = n; item = t }) (omega arith)
          (ap (row_in (item_at slots) c) has ∙ ap (option_map (λ u. record { key = key_at c; number = n; item = u })) e)

  pub write-stored : (slots slots2 : Slab T) (cells : List (Option SlotNumber)) (room c : ℕ) (n : SlotNumber) (t : T) → IsStored slots cells room → get_or cells c None ≡ Some n
      → Updates slots slots2 n.0 (Some t) → slab_len slots2 ≡ slab_len slots → slots2.capacity ≡ slots.capacity
      → Changed slots2 cells room (with_item (key_at c) t (rows_in slots cells))
  write-stored slots slots2 cells room c n t s has updates len capacity =
      record {
        made = made;
        stored = record {
          all = s.all;
          used = λ i m e. elim (cases_eq m.0 n.0) [
            | inl z ↦ ap (λ k. is_some (slab_get slots2 k)) z ∙ ap is_some updates.changed
            | inr z ↦ ap is_some (updates.others m.0 z) ∙ s.used i m e
          ];
          distinct = s.distinct;
          count = ap length made ∙ length-map _ _ ∙ s.count ∙ sym len;
          room = (let r = s.room in omega (arith, r, capacity));
          below = λ i m e. (let k = s.below i m e in omega (arith, k, capacity));
          held = λ m used. elim (cases_eq m.0 n.0) [
            | inl z ↦ (c, has ∙ ap (λ (k : ℕ). let x : SlotNumber = record { 0 = k } in Some x) (sym z))
            | inr z ↦ s.held m (ap is_some (sym (updates.others m.0 z)) ∙ used)
          ];
          small = (let r = s.small in omega (arith, r, capacity));
        };
      }
    where
      other : (j : ℕ) (m : SlotNumber) → (j ≡ c → ⊥) → get_or cells j None ≡ Some m → item_at slots2 m ≡ item_at slots m
      other j m d e = updates.others m.0 (λ same. (let z : m ≡ n = ap (λ (k : ℕ). let x : SlotNumber = record { 0 = k } in x) same in d (s.distinct j c n (e ∙ ap Some z) has)))

      old : (o : Option T) → item_at slots n ≡ o → rows_in slots2 cells ≡ with_item (key_at c) t (rows_in slots cells)
      old None e = (let used = s.used c n has in absurd (cc))
      old (Some u) e = rows-with (item_at slots) (item_at slots2) 0 cells c c n t u (omega arith) has e updates.changed other

      made : rows_in slots2 cells ≡ with_item (key_at c) t (rows_in slots cells)
      made = old (item_at slots n) refl

  -- slots are stored after a write through what `get_mut` lent
  pub lent-stored : (slots : Slab T) (cells : List (Option SlotNumber)) (room c : ℕ) (n : SlotNumber) (w : T) → IsStored slots cells room → Some n ≡ get_or cells c None
      → Changed (with_value slots n.0 w) cells room (with_item (key_at c) w (rows_in slots cells))
  lent-stored slots cells room c n w s is =
      let has = sym is in
      let used = s.used c n has in
      let within = ContainsKey-within slots n.0 used in
      let count = sum_by-set (λ (o : Option T). cond (is_some o) 1 0) slots.slots n.0 (Some w) None within in
      let one = ap (λ b. (let k : ℕ = cond b 1 0 in k)) used in
      write-stored slots (with_value slots n.0 w) cells room c n w s has (Updates-with_value slots n.0 w used) (omega (arith, count, one)) refl

-- a key is its cell's, as a clause says where there is one
pub key-of : (last : Option Key) → IfSome last (λ key. key_at (cell_of key) ≡ key) → (key : Key) → last ≡ Some key → key_at (cell_of key) ≡ key
key-of None h key e = absurd (cc)
key-of (Some k) h key e =
    let same : k ≡ key = cc in
    rw (← same) h
