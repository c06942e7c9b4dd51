-- Source routes in the options of later fragments.
use Rattle.std.proofs.Common.{◌≡◌, ℕ, zero, suc, ◌<◌, ◌≤◌, Bool, true, false, cond, ◌==◌, ◌&&◌, nat_le, List, [], ◌∷◌, ◌++◌, length, take, drop, replicate, refl, ap, ◌∙◌, sym, arith}
use Rattle.std.proofs.lemmas.Bool.Decides.{nat_tests}
use Rattle.std.proofs.lemmas.List.{drop_at, length-append, length-take-le}
use Rattle.ipv4.specs.Options.{has_source_route, is_source_route, option_size}
use Rattle.ipv4.proofs.Offered.{route-first, route-goes}
use Rattle.fragments.specs.Options.{later_from, later_options, option_later}
use Rattle.fragments.proofs.Later.{size-within, some-size}

-- No Operation is passed over
blank-route : (size : ℕ) (more : List ℕ) → has_source_route (replicate size 1 ++ more) ≡ has_source_route more
blank-route zero more = refl
blank-route (suc size) more = route-goes (1 ∷ (replicate size 1 ++ more)) refl (omega arith) ∙ blank-route size more

-- ---- an option that is copied
-- the bytes of an option that begins with these two bytes, where so many bytes are there
abbrev size_in : (kind second long : ℕ) → ℕ
size_in kind second long =
    cond (kind == 0) 0 (cond (kind == 1) 1 (cond (nat_le 2 second && nat_le second long) second 0))

size-there : (kind second long long2 : ℕ) → nat_le 128 kind ≡ true → 0 < size_in kind second long → size_in kind second long ≤ long2 → size_in kind second long2 ≡ size_in kind second long
size-there kind second long long2 high some fits = grind (arith, nat_tests)

size-two : (kind second long : ℕ) → nat_le 128 kind ≡ true → 0 < size_in kind second long → 2 ≤ size_in kind second long
size-two kind second long high some = grind (arith, nat_tests)

size-none : (kind long : ℕ) → nat_le 128 kind ≡ true → size_in kind 0 long ≡ 0
size-none kind long high = grind (arith, nat_tests)

-- it is as long whatever stands behind it
copied-size : (kind : ℕ) (rest more : List ℕ) → nat_le 128 kind ≡ true → 0 < option_size (kind ∷ rest) → option_size (take (option_size (kind ∷ rest)) (kind ∷ rest) ++ more) ≡ option_size (kind ∷ rest)
copied-size kind [] more high some = absurd (omega (arith, some, size-none kind 1 high))
copied-size kind (second ∷ rest) more high some = by (option_size (kind ∷ second ∷ rest)) (size-two kind second (length (kind ∷ second ∷ rest)) high some) refl
  where
    by : (size : ℕ) → 2 ≤ size → option_size (kind ∷ second ∷ rest) ≡ size → option_size (take size (kind ∷ second ∷ rest) ++ more) ≡ size
    by zero two is = absurd (omega arith)
    by (suc zero) two is = absurd (omega arith)
    by (suc (suc n)) two is =
        let within : suc (suc n) ≤ length (kind ∷ second ∷ rest) = omega (arith, is, size-within (kind ∷ second ∷ rest)) in
        let front : length (take n rest) ≡ n = length-take-le n rest (omega (arith, within)) in
        size-there kind second (length (kind ∷ second ∷ rest)) (length (kind ∷ second ∷ (take n rest ++ more))) high some
        (omega (arith, is, front, length-append (take n rest) more))
        ∙ is

-- it is passed over where it is no source route
copied-route : (kind : ℕ) (rest more : List ℕ) → nat_le 128 kind ≡ true → is_source_route kind ≡ false → 0 < option_size (kind ∷ rest) → has_source_route (take (option_size (kind ∷ rest)) (kind ∷ rest) ++ more) ≡ has_source_route more
copied-route kind rest more high none some = by (option_size (kind ∷ rest)) refl some (copied-size kind rest more high some)
  where
    by : (size : ℕ) → option_size (kind ∷ rest) ≡ size → 0 < size → option_size (take size (kind ∷ rest) ++ more) ≡ size → has_source_route (take size (kind ∷ rest) ++ more) ≡ has_source_route more
    by zero is some2 same = absurd (omega arith)
    by (suc n) is some2 same =
        let front : length (take (suc n) (kind ∷ rest)) ≡ suc n = length-take-le (suc n) (kind ∷ rest) (omega (arith, is, size-within (kind ∷ rest))) in
        route-goes (kind ∷ (take n rest ++ more)) none (omega (arith, same))
        ∙ ap (λ (m : ℕ). has_source_route (drop m (take (suc n) (kind ∷ rest) ++ more))) same
        ∙ ap has_source_route (drop_at (take (suc n) (kind ∷ rest)) more (suc n) front)

copied-first : (size kind : ℕ) (rest more : List ℕ) → 0 < size → is_source_route kind ≡ true → has_source_route (take size (kind ∷ rest) ++ more) ≡ true
copied-first zero kind rest more some is = absurd (omega arith)
copied-first (suc size) kind rest more some is = route-first (kind ∷ (take size rest ++ more)) is

-- ---- one option after another
-- an option that isn't copied is no source route
low-route : (kind : ℕ) → nat_le 128 kind ≡ false → is_source_route kind ≡ false
low-route kind low = grind (arith, nat_tests)

route-from : (most : ℕ) (options : List ℕ) → has_source_route (later_from most options) ≡ has_source_route options
unfolding later_from
route-from zero options = refl
route-from (suc most) [] = refl
route-from (suc most) (kind ∷ rest) = by (option_size (kind ∷ rest) == 0) refl (route-from most (drop (option_size (kind ∷ rest)) (kind ∷ rest)))
  where
    high : (more : List ℕ) → nat_le 128 kind ≡ true → 0 < option_size (kind ∷ rest) → has_source_route more ≡ has_source_route (drop (option_size (kind ∷ rest)) (kind ∷ rest)) → (b : Bool) → is_source_route kind ≡ b
        → has_source_route (take (option_size (kind ∷ rest)) (kind ∷ rest) ++ more) ≡ has_source_route (kind ∷ rest)
    high more copied some behind true is = copied-first (option_size (kind ∷ rest)) kind rest more some is ∙ sym (route-first (kind ∷ rest) is)
    high more copied some behind false is = copied-route kind rest more copied is some ∙ behind ∙ sym (route-goes (kind ∷ rest) is some)

    both : (more : List ℕ) → 0 < option_size (kind ∷ rest) → has_source_route more ≡ has_source_route (drop (option_size (kind ∷ rest)) (kind ∷ rest)) → (b : Bool) → nat_le 128 kind ≡ b
        → has_source_route (cond b (take (option_size (kind ∷ rest)) (kind ∷ rest)) (replicate (option_size (kind ∷ rest)) 1) ++ more) ≡ has_source_route (kind ∷ rest)
    both more some behind true is = high more is some behind (is_source_route kind) refl
    both more some behind false is = blank-route (option_size (kind ∷ rest)) more ∙ behind ∙ sym (route-goes (kind ∷ rest) (low-route kind is) some)

    by : (b : Bool) → (option_size (kind ∷ rest) == 0) ≡ b → has_source_route (later_from most (drop (option_size (kind ∷ rest)) (kind ∷ rest))) ≡ has_source_route (drop (option_size (kind ∷ rest)) (kind ∷ rest))
        → has_source_route (cond b (kind ∷ rest) (option_later (option_size (kind ∷ rest)) (kind ∷ rest) ++ later_from most (drop (option_size (kind ∷ rest)) (kind ∷ rest)))) ≡ has_source_route (kind ∷ rest)
    by true is behind = refl
    by false is behind = both (later_from most (drop (option_size (kind ∷ rest)) (kind ∷ rest))) (some-size (option_size (kind ∷ rest)) is) behind (nat_le 128 kind) refl

-- later options have a source route exactly where the first ones have one
pub later-route : (options : List ℕ) → has_source_route (later_options options) ≡ has_source_route options
later-route options = route-from (length options) options
