-- A search for the next entry whose state passes a test.
use Rattle.std.proofs.Common.{◌≡◌, ◌+◌, Bool, true, false, cond, ◌&&◌, Option, Some, None, List, [], ◌∷◌, refl, ap, ◌∙◌, arith}
use Rattle.std.specs.List.{find}
use Rattle.std.proofs.lemmas.Bool.{cond-true, cond-false}
use Rattle.std.proofs.lemmas.List.Sums.{sum_by-cons}
use Rattle.nat_types.specs.declared.pairs.EntryState.{EntryState}
use Rattle.nat_types.specs.declared.pairs.Key.{Key}
use Rattle.bindings.specs.declared.entries.Entry.{Entry}
use Rattle.bindings.specs.Entries.{state_count}
use Rattle.bindings.specs.Lists.{stands_behind, after_key, first_after, RisesUp}
use Rattle.bindings.proofs.Walks.{behind, behind-first, behind-end}

module _ (test : EntryState → Bool) where
  -- the first entry of a list whose state passes
  abbrev pub first_passing : List Entry → Option Entry
  first_passing es = find (λ e. test e.state) es

  -- the first entry after a key that passes is the first that passes of those after the key
  pub first-behind : (last : Option Key) (es : List Entry) → first_after test last es ≡ first_passing (behind last es)
  first-behind last [] = refl
  first-behind last (x ∷ xs) = by (stands_behind last x) (first-behind last xs)
    where
      by : (b : Bool) → first_after test last xs ≡ first_passing (behind last xs) → cond (b && test x.state) (Some x) (first_after test last xs) ≡ first_passing (cond b (x ∷ behind last xs) (behind last xs))
      by true rest = ap (cond (test x.state) (Some x)) rest
      by false rest = rest

  -- where none passes, there is none after a key
  pub none-counted : (last : Option Key) (es : List Entry) → state_count test es ≡ 0 → first_after test last es ≡ None
  none-counted last [] h = refl
  none-counted last (x ∷ xs) h = by (test x.state) (stands_behind last x) (sum_by-cons (λ (e : Entry). cond (test e.state) 1 0) x xs) (none-counted last xs)
    where
      by : (b a : Bool) → state_count test (x ∷ xs) ≡ cond b 1 0 + state_count test xs → (state_count test xs ≡ 0 → first_after test last xs ≡ None) → cond (a && b) (Some x) (first_after test last xs) ≡ None
      by true a n rest = absurd (omega (arith, n, h))
      by false true n rest = rest (omega (arith, n, h))
      by false false n rest = rest (omega (arith, n, h))

  -- the first entry after a key passes, or the search goes on after it
  pub found-next : (last : Option Key) (es : List Entry) (e : Entry) → RisesUp 0 es → after_key last es ≡ Some e → test e.state ≡ true → first_passing (behind last es) ≡ Some e
  found-next last es e rises h passes = ap first_passing (behind-first 0 last es e rises h) ∙ cond-true (test e.state) (Some e) (first_passing (behind (Some e.pair.key) es)) passes

  pub skip-next : (last : Option Key) (es : List Entry) (e : Entry) → RisesUp 0 es → after_key last es ≡ Some e → test e.state ≡ false → first_passing (behind last es) ≡ first_passing (behind (Some e.pair.key) es)
  skip-next last es e rises h fails = ap first_passing (behind-first 0 last es e rises h) ∙ cond-false (test e.state) (Some e) (first_passing (behind (Some e.pair.key) es)) fails

  -- the search ends where there is no entry after the key
  pub none-next : (last : Option Key) (es : List Entry) → after_key last es ≡ None → first_passing (behind last es) ≡ None
  none-next last es h = ap first_passing (behind-end last es h)
