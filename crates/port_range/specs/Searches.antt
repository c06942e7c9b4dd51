-- The number at which a search for numbers that pass a test ends.
use Rattle.std.specs.Prelude.{◌≡◌, ℕ, ◌<◌, ◌≤◌, Bool, true, false}

-- the number passes, and is the first from a start on
pub record IsFirstFrom (test : ℕ → Bool) (start number : ℕ) : Type 0 where
  pub passes : test number ≡ true
  pub from : start ≤ number
  pub first : (q : ℕ) → start ≤ q → q < number → test q ≡ false

-- the number passes, and is the last below an end
pub record IsLastBelow (test : ℕ → Bool) (end number : ℕ) : Type 0 where
  pub passes : test number ≡ true
  pub below : number < end
  pub last : (q : ℕ) → number < q → q < end → test q ≡ false
