-- Numbers as bits of words of 64.
use Rattle.std.specs.Prelude.{◌≡◌, ℕ, ◌/◌, ◌%◌, ◌<◌, ◌==◌, Bool, true, false, not, List, slice_index}
use Rattle.std.specs.Int.{bit_at}

-- the bit of a word is set
unfoldable pub is_set : ℕ → ℕ → Bool
is_set word bit = bit_at word bit == 1

-- the bit of a number is set
unfoldable pub has_bit : List ℕ → ℕ → Bool
has_bit words number = is_set (slice_index words (number / 64)) (number % 64)

-- a bit agrees with a flag
abbrev pub agrees : Bool → Bool → Bool
agrees true bit = bit
agrees false bit = not bit

-- the number is the lowest whose bit is set
pub record IsLowestBit (words : List ℕ) (number : ℕ) : Type 0 where
  pub here : has_bit words number ≡ true
  pub lowest : (q : ℕ) → q < number → has_bit words q ≡ false

-- two lists of words agree but for one word
abbrev pub AreOthers : ℕ → List ℕ → List ℕ → Type 0
AreOthers index old new = (other : ℕ) → (other ≡ index → ⊥) → slice_index new other ≡ slice_index old other
