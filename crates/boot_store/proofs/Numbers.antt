-- The numbers of slots and of files.
use Rattle.std.proofs.Common.{◌≡◌, ◌⊎◌, inl, inr, ℕ, ◌+◌, ◌-◌, ◌^◌, ◌<◌, ◌≤◌, max, cond, ◌==◌, if◌then◌else◌, List, ◌++◌, length, drop, Option, Some, None, refl, sym, ◌∙◌, ap, arith, append_assoc, length-append}
use Rattle.std.proofs.lemmas.Bool.{cases_lt, le-ltb}
use Rattle.std.proofs.lemmas.Bool.Decides.{nat_tests}
use Rattle.std.proofs.lemmas.List.{drop_at}
use Rattle.byteorder.specs.Endian.{big_number, big_bytes}
use Rattle.byteorder.specs.Numbers.{big_number-reads_back, length-bytes_high_first}
use Rattle.boot_store.specs.BootFile.{slot_number, slot_at, greater, number_of, next_place, slot_bytes}
use Rattle.boot_store.specs.Crash.{HasAtLeast}

-- the number of a file of at least 32 bytes is the greater of its slots' numbers
pub number_is : (file : List ℕ) → 32 ≤ length file → number_of file ≡ greater (slot_at 0 file) (slot_at 16 file)
number_is file long = ap (λ b. cond b None (greater (slot_at 0 file) (slot_at 16 file))) (le-ltb (length file) 32 long)

greater_first : (m n : ℕ) (b : Option ℕ) → m ≤ n → (k : ℕ) × (greater (Some n) b ≡ Some k) × (m ≤ k)
greater_first m n None h = (n, refl, h)
greater_first m n (Some b) h = (max n b, refl, omega arith)

greater_second : (m n : ℕ) (a : Option ℕ) → m ≤ n → (k : ℕ) × (greater a (Some n) ≡ Some k) × (m ≤ k)
greater_second m n None h = (n, refl, h)
greater_second m n (Some a) h = (max a n, refl, omega arith)

-- a file with one valid slot of a number has at least that number
pub has_first : (m n : ℕ) (file : List ℕ) → 32 ≤ length file → slot_at 0 file ≡ Some n → m ≤ n → HasAtLeast m file
has_first m n file long is h =
    let k = greater_first m n (slot_at 16 file) h in
    (k.0, number_is file long ∙ ap (λ a. greater a (slot_at 16 file)) is ∙ k.1, k.2)

pub has_second : (m n : ℕ) (file : List ℕ) → 32 ≤ length file → slot_at 16 file ≡ Some n → m ≤ n → HasAtLeast m file
has_second m n file long is h =
    let k = greater_second m n (slot_at 0 file) h in
    (k.0, number_is file long ∙ ap (greater (slot_at 0 file)) is ∙ k.1, k.2)

max_left : (x y : ℕ) → y < x → max x y ≡ x
max_left x y h = omega arith

max_right : (x y : ℕ) → x ≤ y → max x y ≡ y
max_right x y h = omega arith

-- the slot that isn't written over has the file's number
pub kept_slot : (a b : Option ℕ) (n : ℕ) → greater a b ≡ Some n → ((next_place a b ≡ 0) × (b ≡ Some n)) ⊎ ((next_place a b ≡ 16) × (a ≡ Some n))
kept_slot None b n is = inl (refl, is)
kept_slot (Some x) None n is = inr (refl, is)
kept_slot (Some x) (Some y) n is = elim (cases_lt y x) [
  | inl lower ↦ inr (grind (arith, nat_tests), ap Some (sym (max_left x y lower)) ∙ is)
  | inr above ↦ inl (grind (arith, nat_tests), ap Some (sym (max_right x y above)) ∙ is)
]

pub length-slot : (n : ℕ) → length (slot_bytes n) ≡ 16
unfolding slot_bytes
length-slot n =
    let rest = 18446744073709551615 - n in
    omega (arith, length-append (big_bytes 8 n) (big_bytes 8 rest), length-bytes_high_first 8 n, length-bytes_high_first 8 rest)

fits : (n : ℕ) → n < 2 ^ 64 → n < 256 ^ 8
fits n h = omega (arith, h)

-- a slot that was written is valid
pub slot_reads : (n : ℕ) (rest : List ℕ) → n < 2 ^ 64 → slot_number (slot_bytes n ++ rest) ≡ Some n
unfolding slot_bytes slot_number
slot_reads n rest h =
    let other = 18446744073709551615 - n in
    let first : big_number 8 (slot_bytes n ++ rest) ≡ n = ap (big_number 8) (append_assoc (big_bytes 8 n) (big_bytes 8 other) rest) ∙ big_number-reads_back 8 n (big_bytes 8 other ++ rest) (fits n h) in
    let tail : drop 8 (slot_bytes n ++ rest) ≡ big_bytes 8 other ++ rest = ap (drop 8) (append_assoc (big_bytes 8 n) (big_bytes 8 other) rest) ∙ drop_at (big_bytes 8 n) (big_bytes 8 other ++ rest) 8 (length-bytes_high_first 8 n) in
    let second : big_number 8 (drop 8 (slot_bytes n ++ rest)) ≡ other = ap (big_number 8) tail ∙ big_number-reads_back 8 other rest (fits other (omega arith)) in
    joined n other _ _ first second (omega arith)
  where
    joined : (n other x y : ℕ) → x ≡ n → y ≡ other → n + other ≡ 18446744073709551615 → (if x + y == 18446744073709551615 then Some x else None) ≡ Some n
    joined n other x y a b e = grind (arith, nat_tests)
