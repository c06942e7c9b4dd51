-- A pair is listed where its slot holds it.
use Rattle.std.proofs.Common.{◌≡◌, Bool, true, false, cond, Some, None, ◌⊎◌, inl, inr, List, [], ◌∷◌, map, refl, ap, ◌∙◌, sym, subst, arith}
use Rattle.std.specs.List.{find, filter, Contains}
use Rattle.std.proofs.lemmas.Bool.{cond-true, cond-false}
use Rattle.std.proofs.lemmas.List.Elements.{Contains-append_right, Contains-append_cases, Contains-push_cases}
use Rattle.nat_types.specs.declared.pairs.EntryState.{EntryState}
use Rattle.nat_types.specs.declared.pairs.Pair.{Pair}
use Rattle.nat_types.specs.Same.{same_key}
use Rattle.nat_types.proofs.Offered.{key-true, key-false}
use Rattle.bindings.specs.declared.entries.Entry.{Entry}
use Rattle.bindings.specs.Entries.{has_key, slot_of, HasDistinctKeys, entry_in, pairs_in}
use Rattle.bindings.proofs.Found.{find-some}

abbrev pair_of : Entry → Pair
pair_of e = e.pair

first : (b : Bool) (x : Entry) (rest : List Entry) → b ≡ true → Contains (map pair_of (cond b (x ∷ rest) rest)) x.pair
first true x rest h = (0, omega arith, refl)
first false x rest h = cc

later : (b : Bool) (x : Entry) (rest : List Entry) (p : Pair) → Contains (map pair_of rest) p → Contains (map pair_of (cond b (x ∷ rest) rest)) p
later true x rest p h = Contains-append_right (x.pair ∷ []) (map pair_of rest) p h
later false x rest p h = h

either : (b : Bool) (x : Entry) (rest : List Entry) (p : Pair) → Contains (map pair_of (cond b (x ∷ rest) rest)) p → ((b ≡ true) × (x.pair ≡ p)) ⊎ Contains (map pair_of rest) p
either true x rest p h =
    elim (Contains-append_cases (x.pair ∷ []) (map pair_of rest) p h) [
      | inl one ↦ elim (Contains-push_cases [] x.pair p one) [ inl none ↦ absurd (omega (arith, none.1)) | inr same ↦ inl (refl, same) ]
      | inr more ↦ inr more
    ]
either false x rest p h = inr h

-- an entry that is found, in a state that passes, has its pair listed
pub listed-found : (test : EntryState → Bool) (p : Entry → Bool) (es : List Entry) (e : Entry) → find p es ≡ Some e → test e.state ≡ true → Contains (pairs_in test es) e.pair
listed-found test p [] e h passes = cc
listed-found test p (x ∷ xs) e h passes =
    elim (find-some (p x) x (find p xs) e h) [
      | inl w ↦ (let P : Entry → Type 0 = λ a. Contains (pairs_in test (x ∷ xs)) a.pair in
          subst P w.1 (first (test x.state) x (filter (λ a. test a.state) xs) (ap (λ (a : Entry). test a.state) w.1 ∙ passes)))
      | inr w ↦ later (test x.state) x (filter (λ a. test a.state) xs) e.pair (listed-found test p xs e w.1 passes)
    ]

-- a pair in the slot of its key, in a state that passes, is listed
pub listed-slot : (test : EntryState → Bool) (es : List Entry) (p : Pair) (s : EntryState) → slot_of es p.key ≡ Some (entry_in s p) → test s ≡ true → Contains (pairs_in test es) p
listed-slot test es p s h passes = listed-found test (has_key p.key) es (entry_in s p) h passes

-- a listed pair is in the slot of its key, in a state that passes
pub slot-listed : (test : EntryState → Bool) (es : List Entry) (p : Pair) → HasDistinctKeys es → Contains (pairs_in test es) p → (s : EntryState) × (slot_of es p.key ≡ Some (entry_in s p)) × (test s ≡ true)
slot-listed test [] p d h = absurd (omega (arith, h.1))
slot-listed test (x ∷ xs) p d h =
    elim (either (test x.state) x (filter (λ a. test a.state) xs) p h) [
      | inl w ↦
          (let here : slot_of (x ∷ xs) p.key ≡ Some x = cond-true (same_key x.pair.key p.key) (Some x) (slot_of xs p.key) (key-true x.pair.key p.key (ap (λ (q : Pair). q.key) w.1)) in
          (x.state, here ∙ ap (λ (q : Pair). Some (entry_in x.state q)) w.1, w.0))
      | inr w ↦
          (let rest = slot-listed test xs p d.1 w in
          let other : same_key x.pair.key p.key ≡ false = key-false x.pair.key p.key (λ same. let clash : slot_of xs p.key ≡ None = ap (slot_of xs) (sym same) ∙ d.0 in let found : slot_of xs p.key ≡ Some (entry_in rest.0 p) = rest.1 in cc) in
          (rest.0, cond-false (same_key x.pair.key p.key) (Some x) (slot_of xs p.key) other ∙ rest.1, rest.2))
    ]
