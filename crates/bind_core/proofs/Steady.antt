-- Which records of a promised batch are still to come, while rows are carried out.
use Rattle.std.proofs.Common.{◌≡◌, ℕ, true, false, List, [], ◌∷◌, ◌++◌, Some, refl}
use Rattle.nat_types.specs.declared.records.Record.{Record}
use Rattle.nat_types.specs.declared.records.Record.TheVariants.{Done}
use Rattle.bindings.specs.Entries.{HasDistinctKeys}
use Rattle.bindings.specs.Lists.{put_in, with_state, without}
use Rattle.bindings.specs.Table.{Table}
use Rattle.resync.specs.Batch.{is_settled, owners_of, puts_of}
use Rattle.resync.specs.Cursor.{to_come, coming, runs_from, puts_behind}
use Rattle.resync.specs.declared.cursor.Cursor.{Cursor}
use Rattle.resync.specs.declared.cursor.Cursor.TheVariants as place
use Rattle.nat_types.specs.declared.pairs.EntryState.{EntryState}
use Rattle.nat_types.specs.declared.pairs.Key.{Key}
use Rattle.bindings.specs.declared.entries.Entry.{Entry}
use Rattle.bindings.specs.Entries.{slot_of}
use Rattle.spec_binding.specs.declared.changes.Change.{Change}
use Rattle.spec_binding.specs.declared.changes.Change.TheVariants.{Keep, Add, Turn, Renew, Drop, Yield, Want, Give, Gain}
use Rattle.spec_binding.specs.Books.{is_any}
use Rattle.bind_core.specs.Changes.{IsSteady, table_book, table_after}

-- the clauses of resync's steady_batch_law
pub record SteadyLaws : Type 0 where
  pub proposed : (c : Cursor) (owned : List ℕ) (es : List Entry) (e : Entry) → is_settled e.state ≡ false → to_come c owned (put_in e es) ≡ to_come c owned es
  pub turned : (c : Cursor) (owned : List ℕ) (es : List Entry) (key : Key) (s : EntryState) → HasDistinctKeys es → ((x : Entry) → slot_of es key ≡ Some x → is_settled x.state ≡ is_settled s) → to_come c owned (with_state key s es) ≡ to_come c owned es
  pub dropped : (c : Cursor) (owned : List ℕ) (es : List Entry) (key : Key) → HasDistinctKeys es → ((x : Entry) → slot_of es key ≡ Some x → is_settled x.state ≡ false) → to_come c owned (without key es) ≡ to_come c owned es

any-last : (xs : List Record) (r : Record) → is_any (xs ++ r ∷ []) ≡ true
any-last [] r = refl
any-last (x ∷ xs) r = refl

any-behind : (xs ys : List Record) → is_any ys ≡ true → is_any (xs ++ ys) ≡ true
any-behind [] ys h = h
any-behind (x ∷ xs) ys h = refl

-- a steady change leaves what is to come
steadily : (laws : SteadyLaws) (c : Cursor) (now : ℕ) (ch : Change) (t : Table) → HasDistinctKeys t.entries → IsSteady (table_book t) ch → coming c (table_after now ch t) ≡ coming c t
steadily laws c now Keep t keys is = refl
steadily laws c now (Add e) t keys is = laws.proposed c t.owned t.entries e is
steadily laws c now (Turn k s) t keys is = laws.turned c t.owned t.entries k s keys is
steadily laws c now (Renew k) t keys is = absurd is
steadily laws c now (Drop k) t keys is = laws.dropped c t.owned t.entries k keys is
steadily laws c now (Yield q p) t keys is = absurd is
steadily laws c now Want t keys is = refl
steadily laws c now (Give g) t keys is = absurd is
steadily laws c now (Gain g) t keys is = absurd is

-- a change leaves what is to come, if it is steady while anything is still to come
pub still-coming : (laws : SteadyLaws) (c : Cursor) (now : ℕ) (ch : Change) (t : Table) → HasDistinctKeys t.entries → (is_any (coming c t) ≡ true → IsSteady (table_book t) ch) → coming c (table_after now ch t) ≡ coming c t
still-coming laws place.Begin now ch t keys is = steadily laws place.Begin now ch t keys (is refl)
still-coming laws (place.Owners from) now ch t keys is =
    steadily laws (place.Owners from) now ch t keys (is (any-behind (owners_of (runs_from from t.owned)) (puts_of t.entries ++ Done ∷ []) (any-last (puts_of t.entries) Done)))
still-coming laws (place.Puts last) now ch t keys is = steadily laws (place.Puts last) now ch t keys (is (any-last (puts_behind last t.entries) Done))
still-coming laws place.Over now ch t keys is = refl

-- where no record is to come, none is, whatever the table
pub none-coming : (c : Cursor) (t t2 : Table) → (is_any (coming c t) ≡ true → ⊥) → coming c t2 ≡ coming c t
none-coming place.Begin t t2 none = absurd (none refl)
none-coming (place.Owners from) t t2 none = absurd (none (any-behind (owners_of (runs_from from t.owned)) (puts_of t.entries ++ Done ∷ []) (any-last (puts_of t.entries) Done)))
none-coming (place.Puts last) t t2 none = absurd (none (any-last (puts_behind last t.entries) Done))
none-coming place.Over t t2 none = refl
