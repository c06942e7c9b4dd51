-- Entries of a map whose values all have a property.
use Rattle.std.proofs.Common.{◌≡◌, ℕ, ◌-◌, ◌<◌, Bool, true, false, Option, Some, None, List, [], ◌∷◌, length, get_or, set, refl, sym, subst, arith}
use Rattle.std.specs.Prelude.{All}
use Rattle.std.specs.List.{AllByRecursion, position}
use Rattle.std.specs.Map.{keys_of, set_value}
use Rattle.std.proofs.lemmas.List.Elements.{All-from_recursion, recursion_from_All, All-get_or, All-set, All-take}
use Rattle.indexmap.specs.IndexMap.{insert_entry, swap_remove_entry}
use Rattle.indexmap.proofs.MapLemmas.{swap_remove_entry-found, swap_remove_entry-missing}

module _ {K V : Type 0} (P : V → Type 0) where
  insert-rows : (same : K → K → Bool) (es : List (K × V)) (k : K) (v : V) → P v → AllByRecursion (λ (e : K × V). P e.1) es → AllByRecursion (λ (e : K × V). P e.1) (insert_entry same es k v)
  insert-rows same [] k v has h = (has, tt)
  insert-rows same (e ∷ es) k v has h = by (same k e.0) refl (insert-rows same es k v has h.1)
    where
      by : (b : Bool) → same k e.0 ≡ b → AllByRecursion (λ (e : K × V). P e.1) (insert_entry same es k v) → AllByRecursion (λ (e : K × V). P e.1) (insert_entry same (e ∷ es) k v)
      by true t rest = rw t (has, h.1)
      by false t rest = rw t (h.0, rest)

  set-rows : (test : K → Bool) (es : List (K × V)) (v : V) → P v → AllByRecursion (λ (e : K × V). P e.1) es → AllByRecursion (λ (e : K × V). P e.1) (set_value test es v)
  set-rows test [] v has h = tt
  set-rows test (e ∷ es) v has h = by (test e.0) refl (set-rows test es v has h.1)
    where
      by : (b : Bool) → test e.0 ≡ b → AllByRecursion (λ (e : K × V). P e.1) (set_value test es v) → AllByRecursion (λ (e : K × V). P e.1) (set_value test (e ∷ es) v)
      by true t rest = rw t (has, h.1)
      by false t rest = rw t (h.0, rest)

  -- all values have the property after one that has it is inserted
  pub held-put : (same : K → K → Bool) (es fs : List (K × V)) (k : K) (v : V) → fs ≡ insert_entry same es k v → P v → All (λ (e : K × V). P e.1) es → All (λ (e : K × V). P e.1) fs
  held-put same es fs k v h has all =
      subst (All (λ (e : K × V). P e.1)) (sym h) (All-from_recursion (λ (e : K × V). P e.1) (insert_entry same es k v) (insert-rows same es k v has (recursion_from_All (λ (e : K × V). P e.1) es all)))

  -- all values have the property after one is replaced by one that has it
  pub held-set : (test : K → Bool) (es fs : List (K × V)) (v : V) → fs ≡ set_value test es v → P v → All (λ (e : K × V). P e.1) es → All (λ (e : K × V). P e.1) fs
  held-set test es fs v h has all =
      subst (All (λ (e : K × V). P e.1)) (sym h) (All-from_recursion (λ (e : K × V). P e.1) (set_value test es v) (set-rows test es v has (recursion_from_All (λ (e : K × V). P e.1) es all)))

  out-held : (test : K → Bool) (es : List (K × V)) → All (λ (e : K × V). P e.1) es → All (λ (e : K × V). P e.1) (swap_remove_entry test es)
  out-held test [] all = all
  out-held test (e ∷ es) all = by (position test (keys_of (e ∷ es))) refl
    where
      by : (r : Option ℕ) → position test (keys_of (e ∷ es)) ≡ r → All (λ (e : K × V). P e.1) (swap_remove_entry test (e ∷ es))
      by None p = subst (All (λ (e : K × V). P e.1)) (sym (swap_remove_entry-missing test (e ∷ es) p)) all
      by (Some i) p =
          let last = All-get_or (λ (d : K × V). P d.1) (e ∷ es) (length (e ∷ es) - 1) e (omega arith) all in
          subst (All (λ (e : K × V). P e.1)) (sym (swap_remove_entry-found test (e ∷ es) i e p))
          (All-take (λ (d : K × V). P d.1) (length (e ∷ es) - 1) (set (e ∷ es) i (get_or (e ∷ es) (length (e ∷ es) - 1) e)) (All-set (λ (d : K × V). P d.1) (e ∷ es) i (get_or (e ∷ es) (length (e ∷ es) - 1) e) last all))

  -- all values have the property after one is removed
  pub held-out : (test : K → Bool) (es fs : List (K × V)) → fs ≡ swap_remove_entry test es → All (λ (e : K × V). P e.1) es → All (λ (e : K × V). P e.1) fs
  held-out test es fs h all = subst (All (λ (e : K × V). P e.1)) (sym h) (out-held test es all)
