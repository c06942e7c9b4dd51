-- The rules of a list of entries still hold after the state of one entry was changed.
use Rattle.std.proofs.Common.{◌≡◌, Bool, true, false, cond, ◌&&◌, Some, None, List, [], ◌∷◌, length, refl, ap, ◌∙◌}
use Rattle.std.proofs.lemmas.Bool.{cond-true, cond-false, and_right, both_ways}
use Rattle.std.proofs.lemmas.List.{length-map}
use Rattle.nat_types.specs.declared.pairs.EntryState.{EntryState}
use Rattle.nat_types.specs.declared.pairs.Endpoint.{Endpoint}
use Rattle.nat_types.specs.declared.pairs.Key.{Key}
use Rattle.nat_types.specs.declared.pairs.Pair.{Pair}
use Rattle.nat_types.specs.Same.{same_endpoint}
use Rattle.bindings.specs.declared.entries.Entry.{Entry}
use Rattle.slots.specs.declared.ranks.Rank.{Rank}
use Rattle.bindings.specs.Entries.{is_of_rank, has_key, serves, slot_of, entry_on, entry_in, HasDistinctKeys, HasDistinctEndpoints}
use Rattle.bindings.specs.Lists.{with_state}
use Rattle.bindings.proofs.Found.{find-none}
use Rattle.bindings.proofs.Slots.{keys-map}
use Rattle.bindings.proofs.Orders.{turned-pair}
use Rattle.bindings.proofs.Places.{turn-none, rest-none}

-- the key's entry, if there is one, is of each rank that the new state has
abbrev pub KeepsRank : Key → EntryState → List Entry → Type 0
KeepsRank key s es = (x : Entry) → slot_of es key ≡ Some x → (rank : Rank) → is_of_rank rank s ≡ true → is_of_rank rank x.state ≡ true

in-rest : (key : Key) (s : EntryState) (x : Entry) (xs : List Entry) → has_key key x ≡ false → KeepsRank key s (x ∷ xs) → KeepsRank key s xs
in-rest key s x xs other is y h = is y (cond-false (has_key key x) (Some x) (slot_of xs key) other ∙ h)

unserved : (b : Bool) (s : Bool) (e : Bool) → (b && e) ≡ false → (s ≡ true → b ≡ true) → (s && e) ≡ false
unserved true s e h back = and_right s e h
unserved false true e h back = absurd (both_ways false refl (back refl))
unserved false false e h back = refl

-- an endpoint without a pair of a rank has none after the state of an entry was changed
none-turned : (rank : Rank) (key : Key) (s : EntryState) (es : List Entry) (q : Endpoint) → HasDistinctKeys es → KeepsRank key s es → entry_on rank es q ≡ None → entry_on rank (with_state key s es) q ≡ None
none-turned rank key s [] q keys is h = refl
none-turned rank key s (x ∷ xs) q keys is h = at (has_key key x) refl (λ other. none-turned rank key s xs q keys.1 (in-rest key s x xs other is) parts.1)
  where
    parts : (serves rank q x ≡ false) × (entry_on rank xs q ≡ None)
    parts = find-none (serves rank q) x xs h

    at : (b : Bool) → has_key key x ≡ b → (has_key key x ≡ false → entry_on rank (with_state key s xs) q ≡ None) → entry_on rank ((let y : Entry = cond b (entry_in s x.pair) x in y) ∷ with_state key s xs) q ≡ None
    at true here ih =
        cond-false (serves rank q (entry_in s x.pair)) (Some (entry_in s x.pair)) (entry_on rank (with_state key s xs) q)
        (unserved (is_of_rank rank x.state) (is_of_rank rank s) (same_endpoint x.pair.endpoint q) parts.0 (is x (cond-true (has_key key x) (Some x) (slot_of xs key) here) rank))
        ∙ ap (λ zs. entry_on rank zs q) (turn-none key s xs (rest-none key x xs here keys.0)) ∙ parts.1
    at false other ih = cond-false (serves rank q x) (Some x) (entry_on rank (with_state key s xs) q) parts.0 ∙ ih other

pub endpoints-turn : (key : Key) (s : EntryState) (es : List Entry) → HasDistinctKeys es → KeepsRank key s es → HasDistinctEndpoints es → HasDistinctEndpoints (with_state key s es)
endpoints-turn key s [] keys is d = tt
endpoints-turn key s (x ∷ xs) keys is d = at (has_key key x) refl (λ other. endpoints-turn key s xs keys.1 (in-rest key s x xs other is) d.1)
  where
    at : (b : Bool) → has_key key x ≡ b → (has_key key x ≡ false → HasDistinctEndpoints (with_state key s xs)) → HasDistinctEndpoints ((let y : Entry = cond b (entry_in s x.pair) x in y) ∷ with_state key s xs)
    at true here ih =
        let same = turn-none key s xs (rest-none key x xs here keys.0) in
        let back = is x (cond-true (has_key key x) (Some x) (slot_of xs key) here) in
        rw same (λ rank live. d.0 rank (back rank live), d.1)
    at false other ih = (λ rank live. none-turned rank key s xs x.pair.endpoint keys.1 (in-rest key s x xs other is) (d.0 rank live), ih other)

turned-key : (k : Key) (s : EntryState) (x : Entry) → (let y : Entry = cond (has_key k x) (entry_in s x.pair) x in y).pair.key ≡ x.pair.key
turned-key k s x = ap (λ (p : Pair). p.key) (turned-pair k s x)

pub keys-turn : (k : Key) (s : EntryState) (es : List Entry) → HasDistinctKeys es → HasDistinctKeys (with_state k s es)
keys-turn k s es d = keys-map (λ x. cond (has_key k x) (entry_in s x.pair) x) es (turned-key k s) d

pub length-turn : (k : Key) (s : EntryState) (es : List Entry) → length (with_state k s es) ≡ length es
length-turn k s es = length-map es (λ x. cond (has_key k x) (entry_in s x.pair) x)
