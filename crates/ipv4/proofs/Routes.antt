-- Source routes, one option after another.
use Rattle.std.proofs.Common.{◌≡◌, ℕ, zero, suc, ◌-◌, ◌<◌, ◌≤◌, Bool, true, false, not, ◌&&◌, ◌||◌, ◌==◌, List, [], ◌∷◌, length, take, drop, slice_index, refl, ap, ap₂, ◌∙◌, arith}
use Rattle.std.proofs.lemmas.Bool.Decides.{nat_tests}
use Rattle.ipv4.specs.Header.{header_of, options_of}
use Rattle.ipv4.specs.Options.{has_source_route, has_route_behind, is_source_route, option_size}

-- what is skipped isn't looked at
skipped : (n : ℕ) (bytes : List ℕ) → has_route_behind n bytes ≡ has_route_behind 0 (drop n bytes)
skipped zero bytes = refl
skipped (suc n) [] = refl
skipped (suc n) (byte ∷ rest) = skipped n rest

pub route-none : has_source_route [] ≡ false
unfolding has_source_route
route-none = refl

-- the first option is a source route
pub route-first : (options : List ℕ) → is_source_route (slice_index options 0) ≡ true → has_source_route options ≡ true
unfolding has_source_route
route-first [] is = is
route-first (kind ∷ rest) is = ap (λ (b : Bool). b || (not (option_size (kind ∷ rest) == 0) && has_route_behind (option_size (kind ∷ rest) - 1) rest)) is

-- where the options end, no further one is looked at
pub route-ends : (options : List ℕ) → is_source_route (slice_index options 0) ≡ false → option_size options ≡ 0 → has_source_route options ≡ false
unfolding has_source_route
route-ends [] none ends = refl
route-ends (kind ∷ rest) none ends = ap₂ (λ (b : Bool) (n : ℕ). b || (not (n == 0) && has_route_behind (n - 1) rest)) none ends

-- an option that is no source route is passed over
pub route-goes : (options : List ℕ) → is_source_route (slice_index options 0) ≡ false → 0 < option_size options → has_source_route options ≡ has_source_route (drop (option_size options) options)
unfolding has_source_route
route-goes [] none some = absurd (omega arith)
route-goes (kind ∷ rest) none some =
    ap (λ (b : Bool). b || (not (option_size (kind ∷ rest) == 0) && has_route_behind (option_size (kind ∷ rest) - 1) rest)) none
    ∙ by (option_size (kind ∷ rest)) some
  where
    by : (n : ℕ) → 0 < n → (not (n == 0) && has_route_behind (n - 1) rest) ≡ has_route_behind 0 (drop n (kind ∷ rest))
    by zero h = absurd (omega arith)
    by (suc n) h =
        let some : not (suc n == 0) ≡ true = grind (arith, nat_tests) in
        let less : suc n - 1 ≡ n = omega arith in
        ap₂ (λ (b : Bool) (m : ℕ). b && has_route_behind m rest) some less ∙ skipped n rest

-- a header of 20 bytes has no options
pub route-short : (bytes : List ℕ) → (header_of bytes).header_length ≤ 20 → has_source_route (options_of bytes) ≡ false
route-short bytes short =
    let none : (header_of bytes).header_length - 20 ≡ 0 = omega arith in
    ap (λ (n : ℕ). has_source_route (take n (drop 20 bytes))) none ∙ route-none

pub route-past : (options : List ℕ) → length options < 1 → has_source_route options ≡ false
route-past [] none = route-none
route-past (kind ∷ rest) none = absurd (omega arith)
