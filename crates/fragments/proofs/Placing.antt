-- The first item of a list that passes a test: found, taken out, changed, by its position.
use Rattle.std.proofs.Common.{◌≡◌, ℕ, zero, suc, ◌+◌, ◌<◌, ◌≤◌, Bool, true, false, not, cond, ◌||◌, nat_lt, Option, Some, None, List, [], ◌∷◌, ◌++◌, length, get_or, set, refl, ap, subst, arith}
use Rattle.std.specs.List.{count_by, find, list_any, position, position_or_len, remove}
use Rattle.std.proofs.lemmas.Bool.{ltb-false}
use Rattle.std.proofs.lemmas.List.Quantifiers.{position-Some}
use Rattle.std.proofs.lemmas.List.Sums.{sum_by-cons}
use Rattle.fragments.specs.Gathered.{with_first, without_first}

-- the item at this index is the first that passes
pub record IsFirst {X : Type 0} (p : X → Bool) (xs : List X) (i : ℕ) (d : X) : Type 0 where
  pub within : i < length xs
  pub passes : p (get_or xs i d) ≡ true
  pub before : (k : ℕ) → k < i → p (get_or xs k d) ≡ false

pub first-at : {X : Type 0} (p : X → Bool) (xs : List X) (i : ℕ) (d : X) → position p xs ≡ Some i → IsFirst p xs i d
first-at p xs i d is =
    let known = position-Some p xs i d is in
    record { within = known.0; passes = known.1; before = known.2 }

later-first : {X : Type 0} (p : X → Bool) (x : X) (xs : List X) (i : ℕ) (d : X) → IsFirst p (x ∷ xs) (suc i) d → IsFirst p xs i d
later-first p x xs i d is = record {
  within = let w = is.within in omega arith;
  passes = is.passes;
  before = λ k below. is.before (suc k) (omega (arith, below));
}

not-yet : {X : Type 0} (p : X → Bool) (x : X) (xs : List X) (i : ℕ) (d : X) → IsFirst p (x ∷ xs) (suc i) d → p x ≡ false
not-yet p x xs i d is = is.before 0 (omega arith)

pub removed-at : {X : Type 0} (p : X → Bool) (xs : List X) (i : ℕ) (d : X) → IsFirst p xs i d → without_first p xs ≡ remove xs i
removed-at p [] i d is = absurd (let w = is.within in omega arith)
removed-at p (x ∷ xs) zero d is = rw is.passes refl
removed-at {X} p (x ∷ xs) (suc i) d is =
    rw (not-yet p x xs i d is) (ap (λ (ys : List X). x ∷ ys) (removed-at p xs i d (later-first p x xs i d is)))

pub changed-at : {X : Type 0} (p : X → Bool) (f : X → X) (xs : List X) (i : ℕ) (d : X) → IsFirst p xs i d → with_first p f xs ≡ set xs i (f (get_or xs i d))
changed-at p f [] i d is = absurd (let w = is.within in omega arith)
changed-at p f (x ∷ xs) zero d is = rw is.passes refl
changed-at {X} p f (x ∷ xs) (suc i) d is =
    rw (not-yet p x xs i d is) (ap (λ (ys : List X). x ∷ ys) (changed-at p f xs i d (later-first p x xs i d is)))

pub found-at : {X : Type 0} (p : X → Bool) (xs : List X) (i : ℕ) (d : X) → IsFirst p xs i d → find p xs ≡ Some (get_or xs i d)
found-at p [] i d is = absurd (let w = is.within in omega arith)
found-at p (x ∷ xs) zero d is = rw is.passes refl
found-at p (x ∷ xs) (suc i) d is = rw (not-yet p x xs i d is) (found-at p xs i d (later-first p x xs i d is))

no-place : (b : Bool) (n : ℕ) → (let o : Option ℕ = cond b (Some n) None in o) ≡ None → b ≡ false
no-place true n e = cc
no-place false n e = refl

-- no item passes: what the first place that passes says of a longer list
past-all : {X : Type 0} (p : X → Bool) (x : X) (xs : List X) → length (x ∷ xs) ≤ position_or_len p (x ∷ xs) → (p x ≡ false) × (length xs ≤ position_or_len p xs)
past-all {X} p x xs past = by (p x) refl
  where
    past-if : (b : Bool) → p x ≡ b → length (x ∷ xs) ≤ cond (not b) (1 + position_or_len p xs) 0
    past-if b is = subst (λ (t : Bool). length (x ∷ xs) ≤ cond (not t) (1 + position_or_len p xs) 0) is past

    by : (b : Bool) → p x ≡ b → (p x ≡ false) × (length xs ≤ position_or_len p xs)
    by true is = absurd (let none : length (x ∷ xs) ≤ 0 = past-if true is in omega arith)
    by false is = (is, let more : length (x ∷ xs) ≤ 1 + position_or_len p xs = past-if false is in omega arith)

unremoved : {X : Type 0} (p : X → Bool) (xs : List X) → length xs ≤ position_or_len p xs → without_first p xs ≡ xs
unremoved p [] past = refl
unremoved {X} p (x ∷ xs) past =
    let known = past-all p x xs past in
    rw known.0 (ap (λ (ys : List X). x ∷ ys) (unremoved p xs known.1))

unfound : {X : Type 0} (p : X → Bool) (xs : List X) → length xs ≤ position_or_len p xs → find p xs ≡ None
unfound p [] past = refl
unfound p (x ∷ xs) past =
    let known = past-all p x xs past in
    rw known.0 (unfound p xs known.1)

past-none : {X : Type 0} (p : X → Bool) (xs : List X) → position p xs ≡ None → length xs ≤ position_or_len p xs
past-none p xs none = ltb-false (position_or_len p xs) (length xs) (no-place (nat_lt (position_or_len p xs) (length xs)) (position_or_len p xs) none)

pub none-removed : {X : Type 0} (p : X → Bool) (xs : List X) → position p xs ≡ None → without_first p xs ≡ xs
none-removed p xs none = unremoved p xs (past-none p xs none)

pub none-found : {X : Type 0} (p : X → Bool) (xs : List X) → position p xs ≡ None → find p xs ≡ None
none-found p xs none = unfound p xs (past-none p xs none)

-- ---- a list with one item behind it
-- the first that passes is found, else the last item, where it passes
pub found-before : {X : Type 0} (p : X → Bool) (xs : List X) (y : X) (i : ℕ) (d : X) → IsFirst p xs i d → find p (xs ++ y ∷ []) ≡ Some (get_or xs i d)
found-before p [] y i d is = absurd (let w = is.within in omega arith)
found-before p (x ∷ xs) y zero d is = rw is.passes refl
found-before p (x ∷ xs) y (suc i) d is = rw (not-yet p x xs i d is) (found-before p xs y i d (later-first p x xs i d is))

found-past : {X : Type 0} (p : X → Bool) (xs : List X) (y : X) → length xs ≤ position_or_len p xs → find p (xs ++ y ∷ []) ≡ (let o : Option X = cond (p y) (Some y) None in o)
found-past p [] y past = refl
found-past p (x ∷ xs) y past =
    let known = past-all p x xs past in
    rw known.0 (found-past p xs y known.1)

pub found-behind : {X : Type 0} (p : X → Bool) (xs : List X) (y : X) → position p xs ≡ None → find p (xs ++ y ∷ []) ≡ (let o : Option X = cond (p y) (Some y) None in o)
found-behind p xs y none = found-past p xs y (past-none p xs none)

pub any-before : {X : Type 0} (p : X → Bool) (xs : List X) (y : X) (i : ℕ) (d : X) → IsFirst p xs i d → list_any p (xs ++ y ∷ []) ≡ true
any-before p [] y i d is = absurd (let w = is.within in omega arith)
any-before p (x ∷ xs) y zero d is = rw is.passes refl
any-before p (x ∷ xs) y (suc i) d is = rw (not-yet p x xs i d is) (any-before p xs y i d (later-first p x xs i d is))

any-past : {X : Type 0} (p : X → Bool) (xs : List X) (y : X) → length xs ≤ position_or_len p xs → list_any p (xs ++ y ∷ []) ≡ p y
any-past p [] y past = or-false (p y)
  where
    or-false : (b : Bool) → (b || false) ≡ b
    or-false true = refl
    or-false false = refl
any-past p (x ∷ xs) y past =
    let known = past-all p x xs past in
    rw known.0 (any-past p xs y known.1)

pub any-behind : {X : Type 0} (p : X → Bool) (xs : List X) (y : X) → position p xs ≡ None → list_any p (xs ++ y ∷ []) ≡ p y
any-behind p xs y none = any-past p xs y (past-none p xs none)

pub any-last : {X : Type 0} (p : X → Bool) (xs : List X) (y : X) → p y ≡ true → list_any p (xs ++ y ∷ []) ≡ true
any-last p [] y is = rw is refl
any-last {X} p (x ∷ xs) y is = by (p x) (any-last p xs y is)
  where
    by : (b : Bool) → list_any p (xs ++ y ∷ []) ≡ true → (b || list_any p (xs ++ y ∷ [])) ≡ true
    by true rest = refl
    by false rest = rest

-- where none passes, none is counted
uncounted : {X : Type 0} (p : X → Bool) (xs : List X) → length xs ≤ position_or_len p xs → count_by p xs ≡ 0
uncounted p [] past = refl
uncounted {X} p (x ∷ xs) past =
    let known = past-all p x xs past in
    omega (arith, sum_by-cons (λ (y : X). cond (p y) 1 0) x xs, ap {B = ℕ} (λ (b : Bool). cond b 1 0) known.0, uncounted p xs known.1)

pub none-counted : {X : Type 0} (p : X → Bool) (xs : List X) → position p xs ≡ None → count_by p xs ≡ 0
none-counted p xs none = uncounted p xs (past-none p xs none)
