-- A walk over a table's entries in their order.
use Rattle.std.proofs.Common.{◌≡◌, ℕ, suc, ◌<◌, ◌≤◌, nat_lt, Bool, true, false, cond, ◌&&◌, Option, Some, None, inl, inr, List, [], ◌∷◌, ◌++◌, map, refl, sym, ap, ◌∙◌, arith, append_assoc}
use Rattle.std.specs.List.{filter}
use Rattle.std.proofs.lemmas.Bool.{and_parts, cond-true, cond-false, ltb-true, lt-ltb, le-ltb}
use Rattle.std.proofs.lemmas.List.{map-append}
use Rattle.nat_types.specs.declared.gateways.GatewayId.{GatewayId}
use Rattle.nat_types.specs.declared.notes.Note.{Note}
use Rattle.nat_types.specs.declared.notes.NoteKind.TheVariants.{Retaken}
use Rattle.nat_types.specs.declared.pairs.EntryState.{EntryState}
use Rattle.nat_types.specs.declared.pairs.Key.{Key}
use Rattle.nat_types.specs.declared.pairs.Pair.{Pair}
use Rattle.bindings.specs.declared.entries.Entry.{Entry}
use Rattle.bindings.specs.Entries.{place_of}
use Rattle.bindings.specs.Lists.{key_place, stands_behind, after_key, first_after}
use Rattle.bindings.proofs.Offered.{find-none, find-some}
use Rattle.bindings.specs.Revivals.{comes_back}
use Rattle.spec_binding.specs.Ledgers.{keys_in}
use Rattle.spec_binding.specs.Resets.{back_in, retaken}
use Rattle.resync.proofs.Offered.{IsStrict}

-- the entries after a key
abbrev pub behind : Option Key → List Entry → List Entry
behind last es = filter (stands_behind last) es

-- all entries from a place on are after a key below it
all-behind : (k : Key) (low : ℕ) (es : List Entry) → key_place k < low → IsStrict low es → behind (Some k) es ≡ es
all-behind k low [] h s = refl
all-behind k low (x ∷ xs) h s =
    let from = s.0 in
    cond-true (nat_lt (key_place k) (place_of x.pair)) (x ∷ behind (Some k) xs) (behind (Some k) xs) (lt-ltb (key_place k) (place_of x.pair) (omega (arith, from, h)))
    ∙ ap (λ (z : List Entry). x ∷ z) (all-behind k (suc (place_of x.pair)) xs (omega (arith, from, h)) s.1)

pub none-all : (es : List Entry) → behind None es ≡ es
none-all [] = refl
none-all (x ∷ xs) = ap (λ (z : List Entry). x ∷ z) (none-all xs)

-- once one entry is after a key, all that follow are
rest-behind : (last : Option Key) (x : Entry) (xs : List Entry) → IsStrict (suc (place_of x.pair)) xs → stands_behind last x ≡ true → behind last xs ≡ xs
rest-behind None x xs s h = none-all xs
rest-behind (Some k) x xs s h = let before = ltb-true (key_place k) (place_of x.pair) h in all-behind k (suc (place_of x.pair)) xs (omega (arith, before)) s

above : (low : ℕ) (es : List Entry) (e : Entry) (last : Option Key) → IsStrict low es → after_key last es ≡ Some e → low ≤ place_of e.pair
above low [] e last s h = cc
above low (x ∷ xs) e last s h =
    let from = s.0 in
    elim (find-some (stands_behind last x) x (after_key last xs) e h) [
      | inl w ↦ (let same : place_of x.pair ≡ place_of e.pair = ap (λ (z : Entry). place_of z.pair) w.1 in omega (arith, from, same))
      | inr w ↦ (let more = above (suc (place_of x.pair)) xs e last s.1 w.1 in omega (arith, from, more))
    ]

-- the entries after a key are the next one and those after that
pub behind-next : (last : Option Key) (low : ℕ) (es : List Entry) (e : Entry) → IsStrict low es → after_key last es ≡ Some e → behind last es ≡ e ∷ behind (Some e.pair.key) es
behind-next last low [] e s h = cc
behind-next last low (x ∷ xs) e s h =
    elim (find-some (stands_behind last x) x (after_key last xs) e h) [
      | inl w ↦ (
          cond-true (stands_behind last x) (x ∷ behind last xs) (behind last xs) w.0
          ∙ ap (λ (z : List Entry). x ∷ z) (rest-behind last x xs s.1 w.0)
          ∙ ap (λ (z : List Entry). x ∷ z) (sym (cond-false (nat_lt (place_of x.pair) (place_of x.pair)) (x ∷ behind (Some x.pair.key) xs) (behind (Some x.pair.key) xs) (le-ltb (place_of x.pair) (place_of x.pair) (omega arith)) ∙ all-behind x.pair.key (suc (place_of x.pair)) xs (omega arith) s.1))
          ∙ ap (λ (z : Entry). z ∷ behind (Some z.pair.key) (x ∷ xs)) w.1)
      | inr w ↦
          (let on = above (suc (place_of x.pair)) xs e last s.1 w.1 in
          cond-false (stands_behind last x) (x ∷ behind last xs) (behind last xs) w.0
          ∙ behind-next last (suc (place_of x.pair)) xs e s.1 w.1
          ∙ ap (λ (z : List Entry). e ∷ z) (sym (cond-false (nat_lt (place_of e.pair) (place_of x.pair)) (x ∷ behind (Some e.pair.key) xs) (behind (Some e.pair.key) xs) (le-ltb (place_of e.pair) (place_of x.pair) (omega (arith, on))))))
    ]

pub behind-none : (last : Option Key) (es : List Entry) → after_key last es ≡ None → behind last es ≡ []
behind-none last [] h = refl
behind-none last (x ∷ xs) h =
    let parts = find-none (stands_behind last) x xs h in
    cond-false (stands_behind last x) (x ∷ behind last xs) (behind last xs) parts.0 ∙ behind-none last xs parts.1

-- ---- what a tick seeks

keys-passing : (test : EntryState → Bool) (x : Entry) (xs : List Entry) → test x.state ≡ true → keys_in test (x ∷ xs) ≡ x.pair.key ∷ keys_in test xs
keys-passing test x xs passes =
    ap (λ (b : Bool). map (λ (z : Entry). z.pair.key) (cond b (x ∷ filter (λ (z : Entry). test z.state) xs) (filter (λ (z : Entry). test z.state) xs))) passes

keys-failing : (test : EntryState → Bool) (x : Entry) (xs : List Entry) → test x.state ≡ false → keys_in test (x ∷ xs) ≡ keys_in test xs
keys-failing test x xs fails =
    ap (λ (b : Bool). map (λ (z : Entry). z.pair.key) (cond b (x ∷ filter (λ (z : Entry). test z.state) xs) (filter (λ (z : Entry). test z.state) xs))) fails

-- an entry that isn't after a key, or doesn't pass, is none of those that are sought after the key
keys-skip : (test : EntryState → Bool) (last : Option Key) (x : Entry) (xs : List Entry) → (stands_behind last x && test x.state) ≡ false → keys_in test (behind last (x ∷ xs)) ≡ keys_in test (behind last xs)
keys-skip test last x xs skips = at (stands_behind last x) skips
  where
    at : (b : Bool) → (b && test x.state) ≡ false → keys_in test (let zs : List Entry = cond b (x ∷ behind last xs) (behind last xs) in zs) ≡ keys_in test (behind last xs)
    at true fails = keys-failing test x (behind last xs) fails
    at false fails = refl

-- after the first entry come all others
own-behind : (x : Entry) (xs : List Entry) → IsStrict (suc (place_of x.pair)) xs → behind (Some x.pair.key) (x ∷ xs) ≡ xs
own-behind x xs s =
    cond-false (nat_lt (place_of x.pair) (place_of x.pair)) (x ∷ behind (Some x.pair.key) xs) (behind (Some x.pair.key) xs) (le-ltb (place_of x.pair) (place_of x.pair) (omega arith))
    ∙ all-behind x.pair.key (suc (place_of x.pair)) xs (omega arith) s

sought-above : (test : EntryState → Bool) (low : ℕ) (es : List Entry) (e : Entry) (last : Option Key) → IsStrict low es → first_after test last es ≡ Some e → low ≤ place_of e.pair
sought-above test low [] e last s h = cc
sought-above test low (x ∷ xs) e last s h =
    let from = s.0 in
    elim (find-some (stands_behind last x && test x.state) x (first_after test last xs) e h) [
      | inl w ↦ (let same : place_of x.pair ≡ place_of e.pair = ap (λ (z : Entry). place_of z.pair) w.1 in omega (arith, from, same))
      | inr w ↦ (let more = sought-above test (suc (place_of x.pair)) xs e last s.1 w.1 in omega (arith, from, more))
    ]

-- the keys that are sought after a key are that of the next entry and those after that
pub sought-next : (test : EntryState → Bool) (last : Option Key) (low : ℕ) (es : List Entry) (e : Entry) → IsStrict low es → first_after test last es ≡ Some e → keys_in test (behind last es) ≡ e.pair.key ∷ keys_in test (behind (Some e.pair.key) es)
sought-next test last low [] e s h = cc
sought-next test last low (x ∷ xs) e s h =
    elim (find-some (stands_behind last x && test x.state) x (first_after test last xs) e h) [
      | inl w ↦
          (let parts = and_parts (stands_behind last x) (test x.state) w.0 in
          ap (keys_in test) (cond-true (stands_behind last x) (x ∷ behind last xs) (behind last xs) parts.0)
          ∙ ap (λ (z : List Entry). keys_in test (x ∷ z)) (rest-behind last x xs s.1 parts.0)
          ∙ keys-passing test x xs parts.1
          ∙ ap (λ (z : List Entry). x.pair.key ∷ keys_in test z) (sym (own-behind x xs s.1))
          ∙ ap (λ (z : Entry). z.pair.key ∷ keys_in test (behind (Some z.pair.key) (x ∷ xs))) w.1)
      | inr w ↦
          (let on = sought-above test (suc (place_of x.pair)) xs e last s.1 w.1 in
          keys-skip test last x xs w.0
          ∙ sought-next test last (suc (place_of x.pair)) xs e s.1 w.1
          ∙ ap (λ (z : List Entry). e.pair.key ∷ keys_in test z) (sym (cond-false (nat_lt (place_of e.pair) (place_of x.pair)) (x ∷ behind (Some e.pair.key) xs) (behind (Some e.pair.key) xs) (le-ltb (place_of e.pair) (place_of x.pair) (omega (arith, on))))))
    ]

-- no key is left where no entry after the key passes
pub sought-none : (test : EntryState → Bool) (last : Option Key) (es : List Entry) → first_after test last es ≡ None → keys_in test (behind last es) ≡ []
sought-none test last [] h = refl
sought-none test last (x ∷ xs) h =
    let parts = find-none (λ (z : Entry). stands_behind last z && test z.state) x xs h in
    keys-skip test last x xs parts.0 ∙ sought-none test last xs parts.1

-- ---- notes

back-cons : (e : Entry) (es : List Entry) → back_in (e ∷ es) ≡ back_in (e ∷ []) ++ back_in es
back-cons e es = at (comes_back e.state)
  where
    at : (b : Bool) → map (λ (x : Entry). x.pair) (cond b (e ∷ filter (λ (x : Entry). comes_back x.state) es) (filter (λ (x : Entry). comes_back x.state) es))
        ≡ map (λ (x : Entry). x.pair) (let xs : List Entry = cond b (e ∷ []) [] in xs) ++ map (λ (x : Entry). x.pair) (filter (λ (x : Entry). comes_back x.state) es)
    at true = refl
    at false = refl

pub noted-next : (i : GatewayId) (at : ℕ) (e : Entry) (all rest : List Entry) (ns ns2 : List Note) → all ≡ e ∷ rest → ns2 ≡ ns ++ retaken i at (back_in (e ∷ [])) → ns2 ++ retaken i at (back_in rest) ≡ ns ++ retaken i at (back_in all)
noted-next i at e all rest ns ns2 here is =
    ap (λ (z : List Note). z ++ retaken i at (back_in rest)) is
    ∙ append_assoc ns (retaken i at (back_in (e ∷ []))) (retaken i at (back_in rest))
    ∙ ap (λ (z : List Note). ns ++ z) (sym (map-append (λ (p : Pair). let n : Note = record { by = i; at = at; what = Retaken p; counts = true } in n) (back_in (e ∷ [])) (back_in rest)))
    ∙ ap (λ (z : List Pair). ns ++ retaken i at z) (sym (back-cons e rest))
    ∙ ap (λ (z : List Entry). ns ++ retaken i at (back_in z)) (sym here)
