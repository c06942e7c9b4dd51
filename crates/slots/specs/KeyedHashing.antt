-- What a keyed hasher computes, and how rare collisions are.
use Rattle.std.specs.Prelude.{◌≡◌, ℕ, ◌+◌, ◌-◌, ◌*◌, ◌/◌, ◌%◌, ◌<◌, ◌≤◌, ◌^◌, List, fold}
use Rattle.slots.specs.declared.keyed_hasher.Keys.{Keys}
use Rattle.slots.specs.declared.keyed_hasher.KeyedHasher.{KeyedHasher}

-- a number with one more byte at its end, of which 64 bits are kept
abbrev pub with_byte : ℕ → ℕ → ℕ
with_byte number byte = (256 * number + byte) % 18446744073709551616

-- a number with these bytes at its end
abbrev pub written_from : ℕ → List ℕ → ℕ
written_from = fold with_byte

abbrev pub written : KeyedHasher → List ℕ → KeyedHasher
written h bytes = record h { number = written_from h.number bytes }

-- the upper 32 of 128 bits of factor times number plus summand
abbrev pub hash_by : ℕ → ℕ → ℕ → ℕ
hash_by factor summand number = (factor * number + summand) % 2 ^ 128 / 2 ^ 96

abbrev pub finished : KeyedHasher → ℕ
finished h = hash_by h.keys.factor h.keys.summand h.number

abbrev pub fixed_keys : Keys
fixed_keys = record { factor = 48181483302151357469556550866566148932; summand = 218041260502029686424876337516140981385 }

-- a hasher to which nothing was written
abbrev pub new_hasher : Keys → KeyedHasher
new_hasher keys = record { keys = keys; number = 0 }

-- two numbers fall into one of so many buckets
abbrev pub FallTogether : (buckets factor summand x y : ℕ) → Type 0
FallTogether buckets factor summand x y = hash_by factor summand x % buckets ≡ hash_by factor summand y % buckets

-- Buckets are a power of two. While factor times y - x grows by 2^96 for each bucket but two, x and y fall together only
-- within a stretch in which it grows by 2^97: under one factor of buckets / 2 - 1.
abbrev pub AreCollisionsRare : Type 0
AreCollisionsRare =
    (buckets k summand x y a b : ℕ) → buckets * k ≡ 2 ^ 32 → x ≤ y → a ≤ b
    → (b - a) * (y - x) + 2 ^ 97 ≤ 2 ^ 96 * buckets
    → FallTogether buckets a summand x y → FallTogether buckets b summand x y
    → (b - a) * (y - x) < 2 ^ 97
