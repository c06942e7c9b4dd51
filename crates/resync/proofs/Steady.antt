-- What leaves the settled pairs as they are leaves what is still to be drawn.
use Rattle.std.proofs.Common.{◌≡◌, ℕ, Bool, true, false, cond, not, nat_lt, Option, Some, None, List, [], ◌∷◌, ◌++◌, map, refl, sym, ap, ◌∙◌}
use Rattle.std.specs.List.{filter}
use Rattle.std.proofs.lemmas.Bool.{cond-true, cond-false}
use Rattle.nat_types.specs.declared.pairs.EntryState.{EntryState}
use Rattle.nat_types.specs.declared.pairs.Key.{Key}
use Rattle.nat_types.specs.declared.pairs.Pair.{Pair}
use Rattle.nat_types.specs.declared.records.Record.TheVariants.{Done, Begin}
use Rattle.bindings.specs.declared.entries.Entry.{Entry}
use Rattle.bindings.specs.Entries.{has_key, slot_of, entry_in, pairs_in, place_of, HasDistinctKeys}
use Rattle.bindings.specs.Lists.{put_in, with_state, without}
use Rattle.bindings.specs.Runs.{runs_of}
use Rattle.bindings.proofs.Offered.{turn-none, rest-none}
use Rattle.resync.specs.Batch.{is_settled, owners_of, record_for, records_for}
use Rattle.resync.specs.Cursor.{runs_from, is_behind, to_come}
use Rattle.resync.specs.declared.cursor.Cursor.{Cursor}
use Rattle.resync.specs.declared.cursor.Cursor.TheVariants as at

pub steady : (c : Cursor) (owned : List ℕ) (es fs : List Entry) → pairs_in is_settled es ≡ pairs_in is_settled fs → to_come c owned es ≡ to_come c owned fs
steady at.Begin owned es fs h = ap (λ (ps : List Pair). Begin ∷ owners_of (runs_of owned) ++ (records_for ps ++ Done ∷ [])) h
steady (at.Owners from) owned es fs h = ap (λ (ps : List Pair). owners_of (runs_from from owned) ++ (records_for ps ++ Done ∷ [])) h
steady (at.Puts last) owned es fs h = ap (λ (ps : List Pair). map (record_for ps) (filter (is_behind last) ps) ++ Done ∷ []) h
steady at.Over owned es fs h = refl

-- the settled pairs of a list, by whether its first entry is settled
abbrev pairs_by : Bool → Entry → List Entry → List Pair
pairs_by b x xs = map (λ (e : Entry). e.pair) (cond b (x ∷ filter (λ (e : Entry). is_settled e.state) xs) (filter (λ (e : Entry). is_settled e.state) xs))

more-alike : (b : Bool) (x : Entry) (xs ys : List Entry) → pairs_in is_settled xs ≡ pairs_in is_settled ys → pairs_by b x xs ≡ pairs_by b x ys
more-alike true x xs ys h = ap (λ ps. x.pair ∷ ps) h
more-alike false x xs ys h = h

pub pairs-put : (e : Entry) (es : List Entry) → is_settled e.state ≡ false → pairs_in is_settled (put_in e es) ≡ pairs_in is_settled es
pairs-put e [] h = ap (λ b. pairs_by b e []) h
pairs-put e (x ∷ xs) h = at (nat_lt (place_of e.pair) (place_of x.pair)) (pairs-put e xs h)
  where
    at : (b : Bool) → pairs_in is_settled (put_in e xs) ≡ pairs_in is_settled xs → pairs_in is_settled (cond b (e ∷ x ∷ xs) (x ∷ put_in e xs)) ≡ pairs_in is_settled (x ∷ xs)
    at true ih = ap (λ b. pairs_by b e (x ∷ xs)) h
    at false ih = more-alike (is_settled x.state) x (put_in e xs) xs ih

-- the same pair in another state counts as before, where its first state and the new one do
restated : (b : Bool) (s : EntryState) (x : Entry) (xs : List Entry) → pairs_by b (entry_in s x.pair) xs ≡ pairs_by b x xs
restated true s x xs = refl
restated false s x xs = refl

pub pairs-turn : (key : Key) (s : EntryState) (es : List Entry) → HasDistinctKeys es → ((x : Entry) → slot_of es key ≡ Some x → is_settled x.state ≡ is_settled s) → pairs_in is_settled (with_state key s es) ≡ pairs_in is_settled es
pairs-turn key s [] keys alike = refl
pairs-turn key s (x ∷ xs) keys alike = at (has_key key x) refl (λ none. pairs-turn key s xs keys.1 (λ y h. alike y (none ∙ h)))
  where
    at : (b : Bool) → has_key key x ≡ b → ((slot_of (x ∷ xs) key ≡ slot_of xs key) → pairs_in is_settled (with_state key s xs) ≡ pairs_in is_settled xs)
        → (let y : Entry = cond b (entry_in s x.pair) x in pairs_in is_settled (y ∷ with_state key s xs)) ≡ pairs_in is_settled (x ∷ xs)
    at true here ih =
        restated (is_settled s) s x (with_state key s xs)
        ∙ ap (λ (es : List Entry). pairs_by (is_settled s) x es) (turn-none key s xs (rest-none key x xs here keys.0))
        ∙ sym (ap (λ b. pairs_by b x xs) (alike x (cond-true (has_key key x) (Some x) (slot_of xs key) here)))
    at false other ih = more-alike (is_settled x.state) x (with_state key s xs) xs (ih (cond-false (has_key key x) (Some x) (slot_of xs key) other))

none-some : (o : Option Entry) (y : Entry) → o ≡ None → o ≡ Some y → ⊥
none-some o y a b = cc

pub pairs-drop : (key : Key) (es : List Entry) → HasDistinctKeys es → ((x : Entry) → slot_of es key ≡ Some x → is_settled x.state ≡ false) → pairs_in is_settled (without key es) ≡ pairs_in is_settled es
pairs-drop key [] keys from = refl
pairs-drop key (x ∷ xs) keys from = at (has_key key x) refl (pairs-drop key xs keys.1)
  where
    at : (b : Bool) → has_key key x ≡ b → (((y : Entry) → slot_of xs key ≡ Some y → is_settled y.state ≡ false) → pairs_in is_settled (without key xs) ≡ pairs_in is_settled xs)
        → pairs_in is_settled (cond (not b) (x ∷ without key xs) (without key xs)) ≡ pairs_in is_settled (x ∷ xs)
    at true here ih =
        ih (λ y h. absurd (none-some (slot_of xs key) y (rest-none key x xs here keys.0) h))
        ∙ sym (ap (λ b. pairs_by b x xs) (from x (cond-true (has_key key x) (Some x) (slot_of xs key) here)))
    at false other ih = more-alike (is_settled x.state) x (without key xs) xs (ih (λ y h. from y (cond-false (has_key key x) (Some x) (slot_of xs key) other ∙ h)))
