-- The checksum of the internet protocols (RFC 1071), by whole sums.
use Rattle.std.specs.Prelude.{◌≡◌, ℕ, ◌+◌, ◌-◌, ◌*◌, ◌/◌, ◌%◌, ◌<◌, List, [], ◌∷◌}

-- the 16-bit words added up, an odd last byte followed by a zero
abbrev pub word_sum : List ℕ → ℕ
word_sum [] = 0
word_sum (a ∷ []) = 256 * a
word_sum (a ∷ b ∷ rest) = 256 * a + b + word_sum rest

-- a number as a one's complement sum: each carry out of 16 bits is added back in, so that 0 gives 0
-- and any other number one from 1 to 65535
abbrev pub ones_sum : ℕ → ℕ
ones_sum n = n - 65535 * ((n - 1) / 65535)

-- the complement of the whole sum: the field's value where these bytes have 0 for it
abbrev pub checksum_of : List ℕ → ℕ
checksum_of bytes = 65535 - ones_sum (word_sum bytes)

-- the whole sum, the field counted, is 0 modulo 65535, and not all words are 0
abbrev pub IsRight : List ℕ → Type 0
IsRight bytes = (word_sum bytes % 65535 ≡ 0) × (0 < word_sum bytes)

-- u is c + old - new modulo 65535, from 0 to 65534 (RFC 1624)
abbrev pub IsUpdate : ℕ → ℕ → ℕ → ℕ → Type 0
IsUpdate c old new u = (u < 65535) × ((u + new) % 65535 ≡ (c + old) % 65535)
