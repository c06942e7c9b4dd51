-- Places in lists.
use Rattle.std.proofs.Common.{◌≡◌, ℕ, zero, suc, List, [], ◌∷◌, ◌++◌, length, ◌+◌, Some, take, drop, refl, ap, ◌∙◌, arith}
use Rattle.spec_pair.specs.Box.{Letter, nth}
use Rattle.spec_pair.proofs.Invariant.{Within}
use Rattle.spec_pair.specs.Talk.{MachineRecord}

pub nth_left : {A : Type 0} (xs ys : List A) (n : ℕ) (r : A) → nth xs n ≡ Some r → nth (xs ++ ys) n ≡ Some r
nth_left [] ys n r h = absurd (cc)
nth_left (x ∷ xs) ys zero r h = h
nth_left (x ∷ xs) ys (suc n) r h = nth_left xs ys n r h

pub nth_at : {A : Type 0} (xs ys : List A) → nth (xs ++ ys) (length xs) ≡ nth ys 0
nth_at [] ys = refl
nth_at (x ∷ xs) ys = nth_at xs ys

-- the value at place 0 of a list is its first
pub nth_first : {A : Type 0} (ys : List A) (r : A) → nth ys 0 ≡ Some r → (rest : List A) × (ys ≡ r ∷ rest)
nth_first [] r h = absurd (cc)
nth_first (y ∷ ys) r h = (ys, cc)

pub within_more : (l : Letter) (xs ys : List MachineRecord) → Within l xs → Within l (xs ++ ys)
within_more l xs ys w n r h = nth_left xs ys (l.first + n) r (w n r h)

pub nil_left : {A : Type 0} (xs ys : List A) → xs ++ ys ≡ [] → xs ≡ []
nil_left [] ys h = refl
nil_left (x ∷ xs) ys h = absurd (cc)

pub nil_right : {A : Type 0} (xs ys : List A) → xs ++ ys ≡ [] → ys ≡ []
nil_right [] ys h = h
nil_right (x ∷ xs) ys h = absurd (cc)

pub length_last : {A : Type 0} (xs : List A) (r : A) → length (xs ++ r ∷ []) ≡ suc (length xs)
length_last [] r = refl
length_last (x ∷ xs) r = ap suc (length_last xs r)

pub nth_take : {A : Type 0} (c : ℕ) (xs : List A) (n : ℕ) (r : A) → nth (take c xs) n ≡ Some r → nth xs n ≡ Some r
nth_take zero xs n r h = absurd (cc)
nth_take (suc c) [] n r h = absurd (cc)
nth_take (suc c) (x ∷ xs) zero r h = h
nth_take (suc c) (x ∷ xs) (suc n) r h = nth_take c xs n r h

pub nth_drop : {A : Type 0} (c : ℕ) (xs : List A) (n : ℕ) (r : A) → nth (drop c xs) n ≡ Some r → nth xs (c + n) ≡ Some r
nth_drop zero xs n r h = let e : 0 + n ≡ n = omega arith in ap (nth xs) e ∙ h
nth_drop (suc c) [] n r h = absurd (cc)
nth_drop (suc c) (x ∷ xs) n r h = let e : suc c + n ≡ suc (c + n) = omega arith in ap (nth (x ∷ xs)) e ∙ nth_drop c xs n r h

pub none_of_nil : {A : Type 0} (first count n : ℕ) (r : A) → nth (take count (drop first [])) n ≡ Some r → ⊥
none_of_nil first count n r h = let a : nth (drop first []) n ≡ Some r = nth_take count (drop first []) n r h in let b : nth [] (first + n) ≡ Some r = nth_drop first [] n r a in cc

pub nil_part : {A : Type 0} (first count : ℕ) → take count (drop first (let x : List A = [] in x)) ≡ []
nil_part zero zero = refl
nil_part zero (suc count) = refl
nil_part (suc first) zero = refl
nil_part (suc first) (suc count) = refl
