-- Lists that are made of places: which item passes a test.
use Rattle.std.proofs.Common.{◌≡◌, ◌⊎◌, inl, inr, ℕ, zero, suc, ◌+◌, ◌<◌, ◌≤◌, Bool, true, false, ◌||◌, Option, Some, List, map, refl, ap, ◌∙◌, arith}
use Rattle.std.specs.List.{count_by, find, list_any, range_with_len}
use Rattle.std.proofs.lemmas.Bool.{cases_eq}
use Rattle.fragments.proofs.Counting.{count-cons, tally}

abbrev pub Items : (ℕ → List ℕ) → ℕ → ℕ → List (List ℕ)
Items f a n = map f (range_with_len a n)

pub counts-none : (p : List ℕ → Bool) (f : ℕ → List ℕ) (a n : ℕ) → ((k : ℕ) → a ≤ k → k < a + n → p (f k) ≡ false) → count_by p (Items f a n) ≡ 0
counts-none p f a zero none = refl
counts-none p f a (suc n) none =
    let here : p (f a) ≡ false = none a (omega arith) (omega arith) in
    let rest = counts-none p f (a + 1) n (λ k low high. none k (omega (arith, low)) (omega (arith, high))) in
    omega (arith, count-cons p (f a) (Items f (a + 1) n), ap tally here, rest)

-- just one passes: it is counted once, and found
pub record PassesOnce (p : List ℕ → Bool) (f : ℕ → List ℕ) (fs : List (List ℕ)) (j : ℕ) : Type 0 where
  pub counted : count_by p fs ≡ 1
  pub found : find p fs ≡ Some (f j)

pub counts-one : (p : List ℕ → Bool) (f : ℕ → List ℕ) (a n j : ℕ) → a ≤ j → j < a + n → p (f j) ≡ true → ((k : ℕ) → a ≤ k → k < a + n → (k ≡ j → ⊥) → p (f k) ≡ false) → PassesOnce p f (Items f a n) j
counts-one p f a zero j low high is others = absurd (omega (arith, low, high))
counts-one p f a (suc n) j low high is others = by (cases_eq a j) (λ above below rest. counts-one p f (a + 1) n j above below is rest)
  where
    by : (a ≡ j) ⊎ (a ≡ j → ⊥) → (a + 1 ≤ j → j < a + 1 + n → ((k : ℕ) → a + 1 ≤ k → k < a + 1 + n → (k ≡ j → ⊥) → p (f k) ≡ false) → PassesOnce p f (Items f (a + 1) n) j) → PassesOnce p f (Items f a (suc n)) j
    by (inl same) rest =
        let here : p (f a) ≡ true = ap (λ (k : ℕ). p (f k)) same ∙ is in
        let none = counts-none p f (a + 1) n (λ k above below. others k (omega (arith, above)) (omega (arith, below)) (λ equal. omega (arith, above, same, equal))) in
        record {
          counted = omega (arith, count-cons p (f a) (Items f (a + 1) n), ap tally here, none);
          found = rw here (ap (λ (k : ℕ). let o : Option (List ℕ) = Some (f k) in o) same);
        }
    by (inr differs) rest =
        let here : p (f a) ≡ false = others a (omega arith) (omega arith) differs in
        let more = rest (omega (arith, low, differs)) (omega (arith, high)) (λ k above below other. others k (omega (arith, above)) (omega (arith, below)) other) in
        record {
          counted = omega (arith, count-cons p (f a) (Items f (a + 1) n), ap tally here, more.counted);
          found = rw here more.found;
        }

-- one that passes is one of them
pub any-one : (p : List ℕ → Bool) (f : ℕ → List ℕ) (a n : ℕ) → list_any p (Items f a n) ≡ true → (k : ℕ) × (a ≤ k) × (k < a + n) × (p (f k) ≡ true)
any-one p f a zero any = absurd (cc)
any-one p f a (suc n) any = by (p (f a)) refl any (λ behind. any-one p f (a + 1) n behind)
  where
    by : (b : Bool) → p (f a) ≡ b → (b || list_any p (Items f (a + 1) n)) ≡ true → (list_any p (Items f (a + 1) n) ≡ true → (k : ℕ) × (a + 1 ≤ k) × (k < a + 1 + n) × (p (f k) ≡ true))
        → (k : ℕ) × (a ≤ k) × (k < a + suc n) × (p (f k) ≡ true)
    by true is some rest = (a, omega arith, omega arith, is)
    by false is some rest = let known = rest some in (known.0, omega (arith, known.1), omega (arith, known.2), known.3)
