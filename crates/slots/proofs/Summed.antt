-- A sum over the endpoints of an index, after the slots of one of them were changed.
use Rattle.std.proofs.Common.{◌≡◌, ℕ, ◌+◌, ◌<◌, Bool, true, false, cond, Option, Some, None, List, [], ◌∷◌, length, get_or, is_some, refl, ap, sym, ◌∙◌, arith}
use Rattle.std.specs.List.{sum_by, position}
use Rattle.std.specs.Map.{lookup, keys_of, values_of, set_value}
use Rattle.std.specs.Option.{unwrap_or}
use Rattle.std.proofs.lemmas.List.{get_or-map, length-map}
use Rattle.std.proofs.lemmas.List.Quantifiers.{position-Some}
use Rattle.std.proofs.lemmas.List.Sums.{sum_by-cons, sum_by-swap_remove}
use Rattle.std.proofs.lemmas.Option.{slice_get-get_or}
use Rattle.indexmap.specs.IndexMap.{insert_entry, swap_remove_entry}
use Rattle.indexmap.proofs.MapLemmas.{some_index, Found-position, swap_remove_entry-found, swap_remove_entry-missing}
use Rattle.nat_types.specs.declared.pairs.Endpoint.{Endpoint}
use Rattle.nat_types.specs.contracts.pairs.EndpointPartialEq.TheImpl.{eq-value as endpoint_eq}
use Rattle.nat_types.specs.Same.{same_endpoint}
use Rattle.nat_types.proofs.Offered.{endpoint-eq}
use Rattle.slots.specs.declared.ranks.Places.{Places}
use Rattle.slots.specs.Ranks.{no_places}
use Rattle.slots.specs.Endpoints.{look_up}
use Rattle.slots.proofs.LookUps.{equal, looked-up}

nothing : (o : Option Places) → is_some o ≡ false → unwrap_or o no_places ≡ no_places
nothing None h = refl
nothing (Some p) h = absurd (cc)

-- what each endpoint adds for its slots; one without slots adds nothing
module _ (f : Endpoint → Places → ℕ) (none : (x : Endpoint) → f x no_places ≡ 0) where
  abbrev part : Endpoint × Places → ℕ
  part e = f e.0 e.1

  abbrev total : List (Endpoint × Places) → ℕ
  total es = sum_by part es

  same-part : (x y : Endpoint) (p : Places) → same_endpoint x y ≡ true → f x p ≡ f y p
  same-part x y p h = ap (λ (z : Endpoint). f z p) (endpoint-eq x y h)

  pub sum-put : (es : List (Endpoint × Places)) (x : Endpoint) (p : Places) → total (insert_entry endpoint_eq.it es x p) + f x (look_up es x) ≡ total es + f x p
  sum-put [] x p = (let first = sum_by-cons part (x, p) [] in let zero = none x in omega (arith, first, zero))
  sum-put (e ∷ es) x p = by (endpoint_eq.it x e.0) (same_endpoint x e.0) (equal x e.0) refl (sum-put es x p)
    where
      by : (b c : Bool) → b ≡ c → same_endpoint x e.0 ≡ c → total (insert_entry endpoint_eq.it es x p) + f x (look_up es x) ≡ total es + f x p
          → total (cond b ((e.0, p) ∷ es) (e ∷ insert_entry endpoint_eq.it es x p)) + f x (cond c e.1 (look_up es x)) ≡ total (e ∷ es) + f x p
      by true true h s rest =
          let old = sum_by-cons part e es in
          let new = sum_by-cons part (e.0, p) es in
          let mine = same-part x e.0 p s in
          let its = same-part x e.0 e.1 s in
          omega (arith, old, new, mine, its)
      by true false h s rest = absurd (cc)
      by false true h s rest = absurd (cc)
      by false false h s rest =
          let old = sum_by-cons part e es in
          let new = sum_by-cons part e (insert_entry endpoint_eq.it es x p) in
          omega (arith, old, new, rest)

  pub sum-set : (es : List (Endpoint × Places)) (x : Endpoint) (p q : Places) → lookup (endpoint_eq.it x) es ≡ Some q → total (set_value (endpoint_eq.it x) es p) + f x q ≡ total es + f x p
  sum-set [] x p q h = absurd (cc)
  sum-set (e ∷ es) x p q h = by (endpoint_eq.it x e.0) (equal x e.0) h (sum-set es x p q)
    where
      by : (b : Bool) → b ≡ same_endpoint x e.0 → cond b (Some e.1) (lookup (endpoint_eq.it x) es) ≡ Some q → (lookup (endpoint_eq.it x) es ≡ Some q → total (set_value (endpoint_eq.it x) es p) + f x q ≡ total es + f x p)
          → total (cond b ((e.0, p) ∷ es) (e ∷ set_value (endpoint_eq.it x) es p)) + f x q ≡ total (e ∷ es) + f x p
      by true s h rest =
          let held : e.1 ≡ q = cc in
          let old = sum_by-cons part e es in
          let new = sum_by-cons part (e.0, p) es in
          let mine = same-part x e.0 p (sym s) in
          let its = same-part x e.0 e.1 (sym s) in
          let same = ap (f x) held in
          omega (arith, old, new, mine, its, same)
      by false s h rest =
          let old = sum_by-cons part e es in
          let new = sum_by-cons part e (set_value (endpoint_eq.it x) es p) in
          let less = rest h in
          omega (arith, old, new, less)

  pub sum-out : (es : List (Endpoint × Places)) (x : Endpoint) → total es ≡ total (swap_remove_entry (endpoint_eq.it x) es) + f x (look_up es x)
  sum-out [] x = (let zero = none x in omega (arith, zero))
  sum-out (e ∷ es) x = by (position (endpoint_eq.it x) (keys_of (e ∷ es))) refl
    where
      by : (r : Option ℕ) → position (endpoint_eq.it x) (keys_of (e ∷ es)) ≡ r → total (e ∷ es) ≡ total (swap_remove_entry (endpoint_eq.it x) (e ∷ es)) + f x (look_up (e ∷ es) x)
      by None p =
          let absent = sym (some_index (endpoint_eq.it x) (e ∷ es)) ∙ ap is_some p in
          let is : look_up (e ∷ es) x ≡ no_places = sym (looked-up (e ∷ es) x) ∙ nothing (lookup (endpoint_eq.it x) (e ∷ es)) absent in
          let zero = ap (f x) is ∙ none x in
          rw (swap_remove_entry-missing (endpoint_eq.it x) (e ∷ es) p) (omega (arith, zero))
      by (Some i) p =
          let found = position-Some (endpoint_eq.it x) (keys_of (e ∷ es)) i e.0 p in
          let within : i < length (e ∷ es) = (let w = found.0 in omega (arith, w, length-map (e ∷ es) (λ d. d.0))) in
          let there : i < length (values_of (e ∷ es)) = omega (arith, within, length-map (e ∷ es) (λ d. d.1)) in
          let own = get_or-map (λ (d : Endpoint × Places). d.0) (e ∷ es) i e e.0 within in
          let value = get_or-map (λ (d : Endpoint × Places). d.1) (e ∷ es) i e e.1 within in
          let key : same_endpoint x (get_or (e ∷ es) i e).0 ≡ true = sym (equal x (get_or (e ∷ es) i e).0) ∙ ap (endpoint_eq.it x) (sym own) ∙ found.1 in
          let held = (Found-position (endpoint_eq.it x) (e ∷ es) i p).value ∙ slice_get-get_or (values_of (e ∷ es)) i e.1 there in
          let is : look_up (e ∷ es) x ≡ (get_or (e ∷ es) i e).1 = sym (looked-up (e ∷ es) x) ∙ ap (λ o. unwrap_or o no_places) held ∙ value in
          let mine : f x (look_up (e ∷ es) x) ≡ part (get_or (e ∷ es) i e) = ap (f x) is ∙ same-part x (get_or (e ∷ es) i e).0 (get_or (e ∷ es) i e).1 key in
          let fewer = sum_by-swap_remove part (e ∷ es) i e within in
          rw (swap_remove_entry-found (endpoint_eq.it x) (e ∷ es) i e p) (omega (arith, fewer, mine))
