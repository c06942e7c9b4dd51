-- How many numbers pass a test, and the number that so many others stand before.
use Rattle.std.specs.Prelude.{◌≡◌, ℕ, ◌+◌, ◌*◌, ◌%◌, ◌<◌, ◌≤◌, ◌⊎◌, Bool, true, false, List, length, slice_index}
use Rattle.port_range.specs.Marks.{ports_where}
use Rattle.port_range.specs.Searches.{IsFirstFrom}
use Rattle.port_range.specs.Words.{has_bit}

-- how many numbers below an end pass a test
abbrev pub count_below : (ℕ → Bool) → ℕ → ℕ
count_below test end = length (ports_where test 0 end)

-- 1 where it holds, else 0
abbrev pub one_if : Bool → ℕ
one_if true = 1
one_if false = 0

-- the place passes, and so many numbers below it do
pub record IsNth (test : ℕ → Bool) (number place : ℕ) : Type 0 where
  pub passes : test place ≡ true
  pub below : count_below test place ≡ number

-- for each of 16 words, how many bits are set up to its end
abbrev pub AreEnds : List ℕ → List ℕ → Type 0
AreEnds words ends = (index : ℕ) → index < 16 → slice_index ends index ≡ count_below (has_bit words) (64 * (index + 1))

-- the bit is the first from a place on that passes, or, where none of 64 is, the first of all
abbrev pub IsFirstRound : (ℕ → Bool) → ℕ → ℕ → Type 0
IsFirstRound test place bit = IsFirstFrom test place bit ⊎ (((i : ℕ) → place ≤ i → i < 64 → test i ≡ false) × IsFirstFrom test 0 bit)

-- the bit of a free word that is drawn: the place is the owned bit with the number y modulo their count
pub record IsDrawnBit (owned free : ℕ → Bool) (y bit : ℕ) : Type 0 where
  pub place : ℕ
  pub nth : IsNth owned (y % count_below owned 64) place
  pub low : place < 64
  pub within : bit < 64
  pub first : IsFirstRound free place bit
