-- Addresses as texts: four decimal numbers, or six pairs of hexadecimal digits.
use Rattle.std.specs.Prelude.{ℕ, ◌+◌, ◌-◌, ◌*◌, ◌==◌, ◌&&◌, nat_le, nat_lt, if◌then◌else◌, List, [], ◌∷◌, Option, Some, None, option_map, option_and_then}
use Rattle.std.specs.Option.{option_or}
use Rattle.std.specs.List.{slice_split}
use Rattle.std.specs.Int.{w32, from_be_bytes}

-- a decimal digit
abbrev pub digit_of : ℕ → Option ℕ
digit_of b = if nat_le 48 b && nat_le b 57 then Some (b - 48) else None

-- a hexadecimal digit of either case
abbrev pub nibble_of : ℕ → Option ℕ
nibble_of b =
    if nat_le 48 b && nat_le b 57 then Some (b - 48)
    else if nat_le 65 b && nat_le b 70 then Some (b - 65 + 10)
    else if nat_le 97 b && nat_le b 102 then Some (b - 97 + 10)
    else None

-- what two digits make in a base
abbrev pub joined : ℕ → Option ℕ → Option ℕ → Option ℕ
joined base high low = option_and_then (λ h. option_map (λ l. base * h + l) low) high

-- a digit that is not 0
abbrev pub above_zero : Option ℕ → Option ℕ
above_zero digit = option_and_then (λ n. if n == 0 then None else Some n) digit

-- a number of two digits that doesn't begin with 0
abbrev pub two_digits_of : ℕ → ℕ → Option ℕ
two_digits_of a b = joined 10 (above_zero (digit_of a)) (digit_of b)

-- of three
abbrev pub three_digits_of : ℕ → ℕ → ℕ → Option ℕ
three_digits_of a b c = joined 10 (two_digits_of a b) (digit_of c)

-- a decimal number without leading zeros, of one to three digits
abbrev pub number_of : List ℕ → Option ℕ
number_of (a ∷ []) = digit_of a
number_of (a ∷ b ∷ []) = two_digits_of a b
number_of (a ∷ b ∷ c ∷ []) = three_digits_of a b c
number_of _ = None

-- a decimal number from 0 to 255 without leading zeros
unfoldable pub octet_of : List ℕ → Option ℕ
octet_of word = option_and_then (λ n. if nat_lt n 256 then Some n else None) (number_of word)

-- a pair of hexadecimal digits
abbrev pub pair_at : List ℕ → Option ℕ
pair_at (a ∷ b ∷ []) = joined 16 (nibble_of a) (nibble_of b)
pair_at _ = None

unfoldable pub pair_of : List ℕ → Option ℕ
pair_of word = pair_at word

-- all values, where each is there
abbrev pub all_of : List (Option ℕ) → Option (List ℕ)
all_of [] = Some []
all_of (o ∷ rest) = option_and_then (λ x. option_map (λ xs. x ∷ xs) (all_of rest)) o

-- what stands between the separators
abbrev pub parts_at : ℕ → List ℕ → List (List ℕ)
parts_at separator text = slice_split (λ b. b == separator) text

-- the address of four parts
abbrev pub address_in : List (List ℕ) → Option ℕ
address_in (a ∷ b ∷ c ∷ d ∷ []) =
    option_map (from_be_bytes w32) (all_of (octet_of a ∷ octet_of b ∷ octet_of c ∷ octet_of d ∷ []))
address_in _ = None

-- an IPv4 address as a number: four decimal numbers with a dot between two
unfoldable pub address_of : List ℕ → Option ℕ
address_of text = address_in (parts_at 46 text)

-- the six bytes of six parts
abbrev pub mac_in : List (List ℕ) → Option (List ℕ)
mac_in (a ∷ b ∷ c ∷ d ∷ e ∷ f ∷ []) =
    all_of (pair_of a ∷ pair_of b ∷ pair_of c ∷ pair_of d ∷ pair_of e ∷ pair_of f ∷ [])
mac_in _ = None

-- an Ethernet address: six pairs of hexadecimal digits with a dash between each two, or with a colon between each two
unfoldable pub mac_of : List ℕ → Option (List ℕ)
mac_of text = option_or (mac_in (parts_at 45 text)) (mac_in (parts_at 58 text))
