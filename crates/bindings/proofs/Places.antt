-- The place of an entry in the list.
use Rattle.std.proofs.Common.{◌≡◌, ℕ, suc, ◌<◌, ◌≤◌, Bool, true, false, cond, not, nat_lt, Some, None, List, [], ◌∷◌, length, get_or, position, refl, sym, ap, ◌∙◌, arith}
use Rattle.std.specs.List.{filter}
use Rattle.std.proofs.lemmas.List.Quantifiers.{position-Some}
use Rattle.addresses.specs.declared.transport.Protocol.TheVariants.{Tcp}
use Rattle.nat_types.specs.declared.pairs.EntryState.{EntryState}
use Rattle.nat_types.specs.declared.pairs.EntryState.TheVariants.{Doomed}
use Rattle.nat_types.specs.declared.pairs.Key.{Key}
use Rattle.nat_types.specs.declared.pairs.Pair.{Pair}
use Rattle.nat_types.proofs.Offered.{key-eq}
use Rattle.bindings.specs.declared.entries.Entry.{Entry}
use Rattle.bindings.specs.Entries.{has_key, slot_of, entry_in, place_of}
use Rattle.bindings.specs.Lists.{put_in, without, with_state}
use Rattle.bindings.proofs.Found.{find-none}

-- ---- the place of a new entry

pub length-put : (e : Entry) (es : List Entry) → length (put_in e es) ≡ suc (length es)
length-put e [] = refl
length-put e (x ∷ xs) = at (nat_lt (place_of e.pair) (place_of x.pair)) (length-put e xs)
  where
    at : (b : Bool) → length (put_in e xs) ≡ suc (length xs) → length (cond b (e ∷ x ∷ xs) (x ∷ put_in e xs)) ≡ suc (suc (length xs))
    at true ih = refl
    at false ih = ap suc ih

pub length-keep : (p : Entry → Bool) (es : List Entry) → length (filter p es) ≤ length es
length-keep p [] = omega arith
length-keep p (x ∷ xs) = at (p x) (length-keep p xs)
  where
    at : (b : Bool) → length (filter p xs) ≤ length xs → length (cond b (x ∷ filter p xs) (filter p xs)) ≤ suc (length xs)
    at true ih = omega arith
    at false ih = omega arith

-- ---- the place of a key's entry

-- any entry, as the default of a read past the end of a list
pub any_entry : Entry
any_entry =
    let pair : Pair = record { key = record { protocol = Tcp; port = record { 0 = 0 } }; endpoint = record { protocol = Tcp; address = record { 0 = 0 }; port = record { 0 = 0 } } } in
    entry_in Doomed pair

-- the key's entry is at this place, and is the first one that has the key
pub record IsAt (key : Key) (es : List Entry) (i : ℕ) (d : Entry) : Type 0 where
  pub low : i < length es
  pub here : has_key key (get_or es i d) ≡ true
  pub first : (k : ℕ) → k < i → has_key key (get_or es k d) ≡ false

pub at-position : (key : Key) (es : List Entry) (i : ℕ) (d : Entry) → position (has_key key) es ≡ Some i → IsAt key es i d
at-position key es i d h = let parts = position-Some (has_key key) es i d h in record { low = parts.0; here = parts.1; first = parts.2 }

-- a place after the first is one less in the rest
pub at-rest : (key : Key) (x : Entry) (xs : List Entry) (i : ℕ) (d : Entry) → IsAt key (x ∷ xs) (suc i) d → IsAt key xs i d
at-rest key x xs i d at = record { low = (let h = at.low in omega arith); here = at.here; first = λ k low. at.first (suc k) (omega arith) }

pub at-not_first : (key : Key) (x : Entry) (xs : List Entry) (i : ℕ) (d : Entry) → IsAt key (x ∷ xs) (suc i) d → has_key key x ≡ false
at-not_first key x xs i d at = at.first 0 (omega arith)

-- a list where the key has no entry is the same without it
pub without-none : (key : Key) (es : List Entry) → slot_of es key ≡ None → without key es ≡ es
without-none key [] h = refl
without-none key (x ∷ xs) h =
    let parts = find-none (has_key key) x xs h in
    ap (λ b. cond (not b) (x ∷ without key xs) (without key xs)) parts.0 ∙ ap (λ zs. x ∷ zs) (without-none key xs parts.1)

pub rest-none : (key : Key) (x : Entry) (xs : List Entry) → has_key key x ≡ true → slot_of xs x.pair.key ≡ None → slot_of xs key ≡ None
rest-none key x xs here none = ap (slot_of xs) (sym (key-eq x.pair.key key here)) ∙ none

-- a list where the key has no entry is the same after its state is set
pub turn-none : (key : Key) (s : EntryState) (es : List Entry) → slot_of es key ≡ None → with_state key s es ≡ es
turn-none key s [] h = refl
turn-none key s (x ∷ xs) h =
    let parts = find-none (has_key key) x xs h in
    ap (λ b. let y : Entry = cond b (entry_in s x.pair) x in y ∷ with_state key s xs) parts.0 ∙ ap (λ zs. x ∷ zs) (turn-none key s xs parts.1)
