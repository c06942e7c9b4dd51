-- A pair is the second of its endpoint exactly where one of the endpoint's two pairs, own or Held, is settled and before it.
use Rattle.std.proofs.Common.{◌≡◌, nat_lt, Bool, true, false, cond, ◌&&◌, ◌||◌, is_some, Option, Some, None, List, [], ◌∷◌, map, refl, sym, ap, ◌∙◌}
use Rattle.std.specs.List.{filter, list_any}
use Rattle.std.proofs.lemmas.Bool.{and_parts}
use Rattle.nat_types.specs.declared.pairs.EntryState.{EntryState}
use Rattle.nat_types.specs.declared.pairs.EntryState.TheVariants.{Pending, Doomed, Live, Closing, Alone, Held}
use Rattle.nat_types.specs.declared.pairs.Endpoint.{Endpoint}
use Rattle.nat_types.specs.declared.pairs.Pair.{Pair}
use Rattle.nat_types.specs.Same.{same_endpoint}
use Rattle.nat_types.proofs.Offered.{endpoint-eq}
use Rattle.slots.specs.declared.ranks.Rank.{Rank}
use Rattle.slots.specs.declared.ranks.Rank.TheVariants.{First, Second}
use Rattle.bindings.specs.declared.entries.Entry.{Entry}
use Rattle.bindings.specs.Entries.{is_of_rank, serves, entry_on, entry_of, own_entry_of, held_entry_of, place_of, pairs_in, HasDistinctEndpoints}
use Rattle.bindings.proofs.Offered.{find-passes}
use Rattle.std.specs.Option.{option_or}
use Rattle.resync.specs.Batch.{is_settled, is_ahead, is_second}
use Rattle.resync.specs.Cursor.{is_settled_below}
use Rattle.resync.specs.Loading.{is_own_entry}

or-false : (a : Bool) → (a || false) ≡ a
or-false true = refl
or-false false = refl

or-turned : (a b : Bool) → (a || b) ≡ (b || a)
or-turned true true = refl
or-turned true false = refl
or-turned false true = refl
or-turned false false = refl

-- ---- the ranks of a state

one-rank : (s : EntryState) → (is_of_rank First s && is_of_rank Second s) ≡ false
one-rank (Pending m) = refl
one-rank Doomed = refl
one-rank Live = refl
one-rank (Closing m) = refl
one-rank Alone = refl
one-rank Held = refl

some-rank : (s : EntryState) → is_settled s ≡ true → (is_of_rank First s || is_of_rank Second s) ≡ true
some-rank (Pending m) h = absurd cc
some-rank Doomed h = absurd cc
some-rank Live h = refl
some-rank (Closing m) h = refl
some-rank Alone h = absurd cc
some-rank Held h = refl

not-both : (f g b : Bool) → (f && g) ≡ false → ((f && b) && (g && b)) ≡ false
not-both true true b h = absurd cc
not-both true false true h = refl
not-both true false false h = refl
not-both false g b h = refl

-- an entry that serves the endpoint in neither rank doesn't count
neither : (s f g b lt : Bool) → (s ≡ true → (f || g) ≡ true) → (f && b) ≡ false → (g && b) ≡ false → (s && (b && lt)) ≡ false
neither false f g b lt some u v = refl
neither true f g false lt some u v = refl
neither true true g true lt some u v = absurd cc
neither true false true true lt some u v = absurd cc
neither true false false true lt some u v = let none = some refl in absurd cc

-- ---- one entry more

-- e is in front of entries of which all says whether one counts, and of which first and second are those that serve the
-- endpoint; u and v: e serves it in the first rank, or in the second; n: it counts
one-more : (is : Option Entry → Bool) (e : Entry) (u v n all : Bool) (first second : Option Entry)
    → (u ≡ true → first ≡ None) → (v ≡ true → second ≡ None) → (u && v) ≡ false
    → (u ≡ true → is (Some e) ≡ n) → (v ≡ true → is (Some e) ≡ n) → (u ≡ false → v ≡ false → n ≡ false)
    → is None ≡ false → all ≡ (is first || is second) → (n || all) ≡ (is (cond u (Some e) first) || is (cond v (Some e) second))
one-more is e true true n all first second f g one here there away none ih = absurd cc
one-more is e true false n all first second f g one here there away none ih =
    ap (λ (x : Bool). x || all) (sym (here refl))
    ∙ ap (λ (x : Bool). is (Some e) || x) (ih ∙ ap (λ (o : Option Entry). is o || is second) (f refl) ∙ ap (λ (x : Bool). x || is second) none)
one-more is e false true n all first second f g one here there away none ih =
    ap (λ (x : Bool). x || all) (sym (there refl))
    ∙ ap (λ (x : Bool). is (Some e) || x)
    (ih ∙ ap (λ (o : Option Entry). is first || is o) (g refl) ∙ ap (λ (x : Bool). is first || x) none ∙ or-false (is first))
    ∙ or-turned (is (Some e)) (is first)
one-more is e false false n all first second f g one here there away none ih = ap (λ (x : Bool). x || all) (away refl refl) ∙ ih

either-is : (p : Pair) (es : List Entry) → HasDistinctEndpoints es
    → list_any (is_ahead p) (pairs_in is_settled es) ≡ (is_settled_below p.key (entry_on First es p.endpoint) || is_settled_below p.key (entry_on Second es p.endpoint))
either-is p [] d = refl
either-is p (e ∷ es) d =
    counted (is_settled e.state)
    ∙ one-more (is_settled_below p.key) e (serves First p.endpoint e) (serves Second p.endpoint e) (is_settled e.state && is_ahead p e.pair) (list_any (is_ahead p) (pairs_in is_settled es))
    (entry_on First es p.endpoint) (entry_on Second es p.endpoint) (gone First) (gone Second)
    (not-both (is_of_rank First e.state) (is_of_rank Second e.state) (same_endpoint e.pair.endpoint p.endpoint) (one-rank e.state))
    (here First) (here Second)
    (neither (is_settled e.state) (is_of_rank First e.state) (is_of_rank Second e.state) (same_endpoint e.pair.endpoint p.endpoint) (nat_lt (place_of e.pair) (place_of p)) (some-rank e.state))
    refl (either-is p es d.1)
  where
    counted : (s : Bool) → list_any (is_ahead p) (map (λ (x : Entry). x.pair) (cond s (e ∷ filter (λ (x : Entry). is_settled x.state) es) (filter (λ (x : Entry). is_settled x.state) es)))
        ≡ ((s && is_ahead p e.pair) || list_any (is_ahead p) (pairs_in is_settled es))
    counted true = refl
    counted false = refl

    parts : (rank : Rank) → serves rank p.endpoint e ≡ true → (is_of_rank rank e.state ≡ true) × (same_endpoint e.pair.endpoint p.endpoint ≡ true)
    parts rank h = and_parts (is_of_rank rank e.state) (same_endpoint e.pair.endpoint p.endpoint) h

    gone : (rank : Rank) → serves rank p.endpoint e ≡ true → entry_on rank es p.endpoint ≡ None
    gone rank h =
        ap (λ (x : Endpoint). entry_on rank es x) (sym (endpoint-eq e.pair.endpoint p.endpoint (parts rank h).1))
        ∙ d.0 rank (parts rank h).0

    here : (rank : Rank) → serves rank p.endpoint e ≡ true → is_settled_below p.key (Some e) ≡ (is_settled e.state && is_ahead p e.pair)
    here rank h = ap (λ (b : Bool). is_settled e.state && (b && nat_lt (place_of e.pair) (place_of p))) (sym (parts rank h).1)

-- ---- the endpoint's pair, and its Held one

or-self : (a : Bool) → (a || a) ≡ a
or-self true = refl
or-self false = refl

-- the endpoint's pair, its Held one where there is no own one, and the Held one tell as much as both
pub second-is : (p : Pair) (es : List Entry) → HasDistinctEndpoints es
    → is_second (pairs_in is_settled es) p ≡ (is_settled_below p.key (entry_of es p.endpoint) || is_settled_below p.key (held_entry_of es p.endpoint))
second-is p es d = either-is p es d ∙ at (own_entry_of es p.endpoint)
  where
    at : (own : Option Entry) → (is_settled_below p.key own || is_settled_below p.key (held_entry_of es p.endpoint))
        ≡ (is_settled_below p.key (option_or own (held_entry_of es p.endpoint)) || is_settled_below p.key (held_entry_of es p.endpoint))
    at None = sym (or-self (is_settled_below p.key (held_entry_of es p.endpoint)))
    at (Some e) = refl

only-second : (f g : Bool) → (f && g) ≡ false → g ≡ true → f ≡ false
only-second true g one h = absurd (both-are g one h)
  where
    both-are : (g : Bool) → g ≡ false → g ≡ true → ⊥
    both-are true a b = cc
    both-are false a b = cc
only-second false g one h = refl

-- the endpoint has an own pair exactly where its pair is one
pub own-is : (es : List Entry) (x : Endpoint) → is_own_entry (entry_of es x) ≡ is_some (own_entry_of es x)
own-is es x = at (own_entry_of es x) (held_entry_of es x) refl refl
  where
    of-rank : (rank : Rank) (e : Entry) → entry_on rank es x ≡ Some e → is_of_rank rank e.state ≡ true
    of-rank rank e h = (and_parts (is_of_rank rank e.state) (same_endpoint e.pair.endpoint x) (find-passes (serves rank x) es e h)).0

    at : (own held : Option Entry) → own_entry_of es x ≡ own → held_entry_of es x ≡ held → is_own_entry (option_or own held) ≡ is_some own
    at (Some e) held h k = of-rank First e h
    at None (Some e) h k = only-second (is_of_rank First e.state) (is_of_rank Second e.state) (one-rank e.state) (of-rank Second e k)
    at None None h k = refl
