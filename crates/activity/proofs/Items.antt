-- Lists of which one item is changed, and their images.
use Rattle.std.proofs.Common.{◌≡◌, ℕ, zero, suc, ◌+◌, ◌<◌, Bool, true, false, cond, not, nat_lt, Option, Some, None, List, [], ◌∷◌, length, map, get_or, set, position, refl, ap, ◌∙◌, sym, arith}
use Rattle.std.specs.List.{position_or_len, prefix_len}
use Rattle.std.proofs.lemmas.List.{length-map, map_push}
use Rattle.std.proofs.lemmas.List.Quantifiers.{position-Some}
use Rattle.activity.specs.declared.TheConstants.{MAX_SESSIONS}
use Rattle.activity.specs.declared.places.Place.{Place}
use Rattle.activity.specs.declared.places.Place.TheVariants.{Known, Free, Passed, Nowhere}
use Rattle.activity.specs.Places.{placed, place_by, changed_at, put_at}

-- a write of an item changes the item there
pub set-changed : {A : Type 0} (f : A → A) (xs : List A) (i : ℕ) (d : A) → i < length xs → set xs i (f (get_or xs i d)) ≡ changed_at i f xs
set-changed f [] i d h = absurd (omega (arith, h))
set-changed f (x ∷ xs) zero d h = refl
set-changed f (x ∷ xs) (suc i) d h = ap (λ ys. x ∷ ys) (set-changed f xs i d (omega arith))

pub set-new : {A : Type 0} (y : A) (xs : List A) (i : ℕ) → i < length xs → set xs i y ≡ changed_at i (λ x. y) xs
set-new y [] i h = absurd (omega (arith, h))
set-new y (x ∷ xs) zero h = refl
set-new y (x ∷ xs) (suc i) h = ap (λ ys. x ∷ ys) (set-new y xs i (omega arith))

-- ---- images

changed-map : {A B : Type 0} (f : A → B) (g : A → A) (g2 : B → B) (xs : List A) (i : ℕ) → ((x : A) → g2 (f x) ≡ f (g x)) → changed_at i g2 (map f xs) ≡ map f (changed_at i g xs)
changed-map f g g2 [] i same = refl
changed-map f g g2 (x ∷ xs) zero same = ap (λ y. y ∷ map f xs) (same x)
changed-map f g g2 (x ∷ xs) (suc i) same = ap (λ ys. f x ∷ ys) (changed-map f g g2 xs i same)

-- an image after a place was filled is the image of the list after it was filled
pub put-map : {A B : Type 0} (f : A → B) (place : Place) (g : A → A) (g2 : B → B) (new : A) (xs : List A) → ((x : A) → g2 (f x) ≡ f (g x)) → put_at place g2 (f new) (map f xs) ≡ map f (put_at place g new xs)
put-map f (Known i) g g2 new xs same = changed-map f g g2 xs i same
put-map f Free g g2 new xs same = sym (map_push f xs new)
put-map f (Passed i) g g2 new xs same = changed-map f (λ x. new) (λ x. f new) xs i (λ x. refl)
put-map f Nowhere g g2 new xs same = refl

prefix-map : {A B : Type 0} (f : A → B) (p : B → Bool) (xs : List A) → prefix_len p (map f xs) ≡ prefix_len (λ x. p (f x)) xs
prefix-map f p [] = refl
prefix-map f p (x ∷ xs) = ap (λ (n : ℕ). cond (p (f x)) (1 + n) 0) (prefix-map f p xs)

position-map : {A B : Type 0} (f : A → B) (p : B → Bool) (xs : List A) → position p (map f xs) ≡ position (λ x. p (f x)) xs
position-map f p xs =
    ap (λ n. cond (nat_lt n (length (map f xs))) (Some n) None) (prefix-map f (λ y. not (p y)) xs)
    ∙ ap (λ n. cond (nat_lt (position_or_len (λ x. p (f x)) xs) n) (Some (position_or_len (λ x. p (f x)) xs)) None) (length-map xs f)

-- the place in an image is the place in the list
pub place-map : {A B : Type 0} (f : A → B) (p q : B → Bool) (xs : List A) → place_by p q (map f xs) ≡ place_by (λ x. p (f x)) (λ x. q (f x)) xs
place-map f p q xs =
    ap (λ o. placed o (nat_lt (length (map f xs)) MAX_SESSIONS) (position q (map f xs))) (position-map f p xs)
    ∙ ap (λ n. placed (position (λ x. p (f x)) xs) (nat_lt n MAX_SESSIONS) (position q (map f xs))) (length-map xs f)
    ∙ ap (placed (position (λ x. p (f x)) xs) (nat_lt (length xs) MAX_SESSIONS)) (position-map f q xs)

-- ---- what a place says of the list

known-there : (o : Option ℕ) (room : Bool) (q : Option ℕ) (i : ℕ) → Known i ≡ placed o room q → o ≡ Some i
known-there (Some j) room q i h = cc
known-there None true q i h = cc
known-there None false (Some j) i h = cc
known-there None false None i h = cc

passed-there : (o : Option ℕ) (room : Bool) (q : Option ℕ) (i : ℕ) → Passed i ≡ placed o room q → q ≡ Some i
passed-there (Some j) room q i h = cc
passed-there None true q i h = cc
passed-there None false (Some j) i h = cc
passed-there None false None i h = cc

pub known-within : {A : Type 0} (p q : A → Bool) (xs : List A) (i : ℕ) (d : A) → Known i ≡ place_by p q xs → i < length xs
known-within p q xs i d h = (position-Some p xs i d (known-there (position p xs) (nat_lt (length xs) MAX_SESSIONS) (position q xs) i h)).0

pub passed-within : {A : Type 0} (p q : A → Bool) (xs : List A) (i : ℕ) (d : A) → Passed i ≡ place_by p q xs → i < length xs
passed-within p q xs i d h = (position-Some q xs i d (passed-there (position p xs) (nat_lt (length xs) MAX_SESSIONS) (position q xs) i h)).0
