-- What holds of each key's entry holds of each entry.
use Rattle.std.proofs.Common.{◌≡◌, false, Some, None, List, [], ◌∷◌, sym, ap, ◌∙◌}
use Rattle.std.specs.List.{AllByRecursion}
use Rattle.std.proofs.lemmas.Bool.{cond-true, cond-false, false_from_ne_true}
use Rattle.nat_types.specs.declared.pairs.Key.{Key}
use Rattle.nat_types.specs.Same.{same_key}
use Rattle.nat_types.proofs.Offered.{key-self, key-eq}
use Rattle.bindings.specs.declared.entries.Entry.{Entry}
use Rattle.bindings.specs.Entries.{has_key, slot_of, HasDistinctKeys}

none-some : (x y : Entry) → None ≡ Some x → ⊥
none-some x y h = cc

pub all-slots : (P : Entry → Type 0) (es : List Entry) → HasDistinctKeys es → ((key : Key) (x : Entry) → slot_of es key ≡ Some x → P x) → AllByRecursion P es
all-slots P [] keys h = tt
all-slots P (x ∷ xs) keys h = (
  h x.pair.key x (cond-true (has_key x.pair.key x) (Some x) (slot_of xs x.pair.key) (key-self x.pair.key)),
  all-slots P xs keys.1 (λ k y is. h k y (cond-false (has_key k x) (Some x) (slot_of xs k) (other k y is) ∙ is)),
)
  where
    other : (k : Key) (y : Entry) → slot_of xs k ≡ Some y → has_key k x ≡ false
    other k y is = false_from_ne_true (same_key x.pair.key k) (λ same. none-some y y (sym keys.0 ∙ ap (slot_of xs) (key-eq x.pair.key k same) ∙ is))
