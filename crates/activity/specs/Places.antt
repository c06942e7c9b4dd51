-- The place of a packet's session among those that a pair keeps.
use Rattle.std.specs.Prelude.{ℕ, zero, suc, Bool, true, false, nat_lt, Option, Some, None, List, [], ◌∷◌, ◌++◌, length, position}
use Rattle.activity.specs.declared.places.Place.{Place}
use Rattle.activity.specs.declared.places.Place.TheVariants.{Known, Free, Passed, Nowhere}
use Rattle.activity.specs.declared.TheConstants.{MAX_SESSIONS}

-- a packet's session is kept already, or a place is free, or a session whose limit has passed gives its place, the
-- first of these in the list
abbrev pub placed : Option ℕ → Bool → Option ℕ → Place
placed (Some i) room passed = Known i
placed None true passed = Free
placed None false (Some i) = Passed i
placed None false None = Nowhere

abbrev pub place_by : {A : Type 0} → (A → Bool) → (A → Bool) → List A → Place
place_by known passed xs = placed (position known xs) (nat_lt (length xs) MAX_SESSIONS) (position passed xs)

abbrev pub is_nowhere : Place → Bool
is_nowhere (Known i) = false
is_nowhere Free = false
is_nowhere (Passed i) = false
is_nowhere Nowhere = true

-- the list with one item changed
abbrev pub changed_at : {A : Type 0} → ℕ → (A → A) → List A → List A
changed_at i f [] = []
changed_at zero f (x ∷ xs) = f x ∷ xs
changed_at (suc i) f (x ∷ xs) = x ∷ changed_at i f xs

-- the list after a place was filled: the item there is changed, or a new one takes the place
abbrev pub put_at : {A : Type 0} → Place → (A → A) → A → List A → List A
put_at (Known i) change new xs = changed_at i change xs
put_at Free change new xs = xs ++ new ∷ []
put_at (Passed i) change new xs = changed_at i (λ x. new) xs
put_at Nowhere change new xs = xs
