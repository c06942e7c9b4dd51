-- What the function `find` finds.
use Rattle.std.proofs.Common.{◌≡◌, Bool, true, false, cond, Option, Some, None, ◌⊎◌, inl, inr, List, [], ◌∷◌, refl, ap, ◌∙◌, sym}
use Rattle.std.specs.List.{find}
use Rattle.std.specs.Option.{is_some, is_none}

-- a conditional that begins with an item is None only where its test fails and the rest is None
pub cond_none : {X : Type 0} (b : Bool) (x : X) (o : Option X) → cond b (Some x) o ≡ None → (b ≡ false) × (o ≡ None)
cond_none true x o h = cc
cond_none false x o h = (refl, h)

pub none_from_is_some : {X : Type 0} (o : Option X) → is_some o ≡ false → o ≡ None
none_from_is_some None h = refl
none_from_is_some (Some x) h = cc

pub none_from_is_none : {X : Type 0} (o : Option X) → is_none o ≡ true → o ≡ None
none_from_is_none None h = refl
none_from_is_none (Some x) h = cc

-- where nothing is found in a list, its first item fails the test and nothing is found in the rest
pub find-none : {X : Type 0} (p : X → Bool) (x : X) (xs : List X) → find p (x ∷ xs) ≡ None → (p x ≡ false) × (find p xs ≡ None)
find-none p x xs h = cond_none (p x) x (find p xs) h

past : {X : Type 0} (b : Bool) (x : X) (o o2 r : Option X) → (o ≡ None → o2 ≡ r) → cond b (Some x) o ≡ None → cond b (Some x) o2 ≡ r
past true x o o2 r f h = cc
past false x o o2 r f h = f h

-- the first of a list is found, or it doesn't pass
pub find-some : {X : Type 0} (b : Bool) (x : X) (o : Option X) (y : X) → cond b (Some x) o ≡ Some y → ((b ≡ true) × (x ≡ y)) ⊎ ((b ≡ false) × (o ≡ Some y))
find-some true x o y h = inl (refl, cc)
find-some false x o y h = inr (refl, h)

-- what is found passes
pub find-passes : {X : Type 0} (p : X → Bool) (xs : List X) (y : X) → find p xs ≡ Some y → p y ≡ true
find-passes p [] y h = cc
find-passes p (x ∷ xs) y h = elim (find-some (p x) x (find p xs) y h) [ inl w ↦ ap p (sym w.1) ∙ w.0 | inr w ↦ find-passes p xs y w.1 ]
