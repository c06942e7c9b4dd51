-- The number of a slot, or none, by one number.
use Rattle.std.specs.Prelude.{◌≡◌, ℕ, zero, suc, Option, None, Some, refl}
use Rattle.slots.specs.declared.numbers.SlotNumber.{SlotNumber}

-- 0 stands for None, and each greater number for the slot number below it
abbrev pub small_number : ℕ → Option SlotNumber
small_number zero = None
small_number (suc n) = Some (record { 0 = n })

-- the small number of a slot number, or of None
abbrev pub code_of : Option SlotNumber → ℕ
code_of None = 0
code_of (Some n) = suc n.0

-- the small number of what a number stands for is that number
pub code_back : (n : ℕ) → code_of (small_number n) ≡ n
code_back zero = refl
code_back (suc n) = refl
