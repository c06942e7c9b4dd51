-- The options of later fragments, one option after another.
use Rattle.std.proofs.Common.{◌≡◌, ℕ, zero, suc, ◌+◌, ◌<◌, ◌≤◌, Bool, true, false, cond, ◌==◌, ◌&&◌, nat_le, List, [], ◌∷◌, ◌++◌, length, take, drop, replicate, slice_index, refl, ap, ap₂, ◌∙◌, sym, arith, append_assoc, length-append, length-drop}
use Rattle.std.proofs.lemmas.Bool.{leb-true, and_parts}
use Rattle.std.proofs.lemmas.Bool.Decides.{nat_tests}
use Rattle.std.proofs.lemmas.List.{length-replicate, length-take-le, take-take, take-append-drop, take_at, drop_at, drop-drop, drop_all, get_or-take}
use Rattle.ipv4.specs.Options.{option_size}
use Rattle.fragments.specs.Options.{later_from, later_options, option_later}

-- an option lies within the options
pub size-within : (options : List ℕ) → option_size options ≤ length options
size-within [] = omega arith
size-within (kind ∷ rest) = by (kind == 0) (kind == 1) (nat_le 2 (slice_index rest 0) && nat_le (slice_index rest 0) (length (kind ∷ rest))) refl
  where
    by : (a b c : Bool) → (nat_le 2 (slice_index rest 0) && nat_le (slice_index rest 0) (length (kind ∷ rest))) ≡ c
        → cond a 0 (cond b 1 (cond c (slice_index rest 0) 0)) ≤ length (kind ∷ rest)
    by true b c is = omega arith
    by false true c is = omega arith
    by false false true is = leb-true (slice_index rest 0) (length (kind ∷ rest)) (and_parts (nat_le 2 (slice_index rest 0)) (nat_le (slice_index rest 0) (length (kind ∷ rest))) is).1
    by false false false is = omega arith

pub length-option : (size : ℕ) (options : List ℕ) → size ≤ length options → length (option_later size options) ≡ size
length-option size options fits = by (nat_le 128 (slice_index options 0))
  where
    by : (b : Bool) → length (cond b (take size options) (replicate size 1)) ≡ size
    by true = length-take-le size options fits
    by false = length-replicate size 1

pub some-size : (n : ℕ) → (n == 0) ≡ false → 0 < n
some-size n some = grind (arith, nat_tests)

-- later options take as much room as the first ones
room : (most : ℕ) (options : List ℕ) → length (later_from most options) ≡ length options
unfolding later_from
room zero options = refl
room (suc most) options = by (option_size options == 0) (room most (drop (option_size options) options))
  where
    size : ℕ
    size = option_size options

    by : (b : Bool) → length (later_from most (drop size options)) ≡ length (drop size options) → length (cond b options (option_later size options ++ later_from most (drop size options))) ≡ length options
    by true rest = refl
    by false rest = omega (
      arith,
      length-append (option_later size options) (later_from most (drop size options)),
      length-option size options (size-within options),
      rest,
      length-drop size options,
      size-within options,
    )

pub same_room : (options : List ℕ) → length (later_options options) ≡ length options
same_room options = room (length options) options

later-none : (most : ℕ) (options : List ℕ) → length options ≤ 0 → later_from most options ≡ options
unfolding later_from
later-none zero options none = refl
later-none (suc most) [] none = refl
later-none (suc most) (x ∷ options) none = absurd (omega arith)

-- it doesn't matter how many options are allowed for, where it is no fewer than there are bytes
fuel : (m n : ℕ) (options : List ℕ) → length options ≤ m → length options ≤ n → later_from m options ≡ later_from n options
unfolding later_from
fuel zero zero options one two = refl
fuel zero (suc n) options one two = sym (later-none (suc n) options one)
fuel (suc m) zero options one two = later-none (suc m) options two
fuel (suc m) (suc n) options one two = by (option_size options == 0) refl (fuel m n (drop (option_size options) options))
  where
    size : ℕ
    size = option_size options

    by : (b : Bool) → (size == 0) ≡ b → (length (drop size options) ≤ m → length (drop size options) ≤ n → later_from m (drop size options) ≡ later_from n (drop size options))
        → cond b options (option_later size options ++ later_from m (drop size options)) ≡ cond b options (option_later size options ++ later_from n (drop size options))
    by true is rest = refl
    by false is rest =
        let some = some-size size is in
        ap (λ (xs : List ℕ). option_later size options ++ xs)
        (rest (omega (arith, length-drop size options, some, one)) (omega (arith, length-drop size options, some, two)))

-- where the options end, all stays
pub later-ends : (options : List ℕ) → option_size options ≡ 0 → later_options options ≡ options
unfolding later_from
later-ends options ends = by (length options) options ends
  where
    by : (most : ℕ) (xs : List ℕ) → option_size xs ≡ 0 → later_from most xs ≡ xs
    by zero xs ends = refl
    by (suc most) xs ends = ap (λ (n : ℕ). cond (n == 0) xs (option_later (option_size xs) xs ++ later_from most (drop (option_size xs) xs))) ends

-- an option, and those behind it
pub later-goes : (options : List ℕ) → 0 < option_size options → later_options options ≡ option_later (option_size options) options ++ later_options (drop (option_size options) options)
unfolding later_from
later-goes options some = by (length options) refl
  where
    size : ℕ
    size = option_size options

    not-zero : (size == 0) ≡ false
    not-zero = grind (arith, nat_tests)

    by : (most : ℕ) → length options ≡ most → later_from most options ≡ option_later size options ++ later_options (drop size options)
    by zero is = absurd (omega (arith, size-within options, some, is))
    by (suc most) is =
        ap (λ (b : Bool). cond b options (option_later size options ++ later_from most (drop size options))) not-zero
        ∙ ap (λ (xs : List ℕ). option_later size options ++ xs)
        (fuel most (length (drop size options)) (drop size options) (omega (arith, length-drop size options, is, some)) (omega arith))

-- an option is read from its own bytes
pub option-alone : (size : ℕ) (options : List ℕ) → 0 < size → option_later size (take size options) ≡ option_later size options
option-alone size options some =
    let first : slice_index (take size options) 0 ≡ slice_index options 0 = get_or-take size options 0 0 some in
    ap₂ (λ (k : ℕ) (xs : List ℕ). cond (nat_le 128 k) xs (replicate size 1)) first (take-take size size options (omega arith))

-- ---- a loop that writes over one option after another
-- the options up to a place are as in later fragments; those ahead are as they were
pub record IsBlanking (all now : List ℕ) (at : ℕ) : Type 0 where
  pub within : at ≤ length now
  pub long : length now ≡ length all
  pub ahead : drop at now ≡ drop at all
  pub so_far : take at now ++ later_options (drop at all) ≡ later_options all

pub blanking-begins : (all : List ℕ) → IsBlanking all all 0
blanking-begins all = record { within = omega arith; long = refl; ahead = refl; so_far = refl }

pub blanking-ends : (all now : List ℕ) (at : ℕ) → IsBlanking all now at → option_size (drop at now) ≡ 0 → now ≡ later_options all
blanking-ends all now at is ends =
    let rest : later_options (drop at all) ≡ drop at now =
    ap later_options (sym is.ahead) ∙ later-ends (drop at now) ends in
    sym (take-append-drop at now) ∙ ap (λ (xs : List ℕ). take at now ++ xs) (sym rest) ∙ is.so_far

pub blanking-past : (all now : List ℕ) (at : ℕ) → IsBlanking all now at → length now ≤ at → now ≡ later_options all
blanking-past all now at is past =
    blanking-ends all now at is (ap option_size (drop_all at now past))

pub blanking-goes : (all now part new : List ℕ) (at size : ℕ) → IsBlanking all now at → size ≡ option_size (drop at now) → 0 < size
    → part ≡ option_later size (take size (drop at now)) → new ≡ take at now ++ (part ++ drop size (drop at now)) → IsBlanking all new (at + size)
blanking-goes all now part new at size is is_size some is_part is_new =
    let ahead = drop at now in
    let fits : size ≤ length ahead = omega (arith, is_size, size-within ahead) in
    let front : length (take at now) ≡ at = length-take-le at now is.within in
    let cut : length (take size ahead) ≡ size = length-take-le size ahead fits in
    let wide : length part ≡ size = ap length is_part ∙ length-option size (take size ahead) (omega (arith, cut)) in
    let both : length (take at now ++ part) ≡ at + size = omega (arith, length-append (take at now) part, front, wide) in
    let joined : new ≡ (take at now ++ part) ++ drop size ahead = is_new ∙ sym (append_assoc (take at now) part (drop size ahead)) in
    let before : take (at + size) new ≡ take at now ++ part = ap (take (at + size)) joined ∙ take_at (take at now ++ part) (drop size ahead) (at + size) both in
    let behind : drop (at + size) new ≡ drop size ahead = ap (drop (at + size)) joined ∙ drop_at (take at now ++ part) (drop size ahead) (at + size) both in
    let rest : drop size ahead ≡ drop (at + size) all = ap (drop size) is.ahead ∙ drop-drop size at all in
    let option : part ≡ option_later size (drop at all) = is_part ∙ option-alone size ahead some ∙ ap (option_later size) is.ahead in
    let there : size ≡ option_size (drop at all) = is_size ∙ ap option_size is.ahead in
    let goes : later_options (drop at all) ≡ part ++ later_options (drop (at + size) all) =
    later-goes (drop at all) (omega (arith, some, there))
    ∙ ap (λ (n : ℕ). option_later n (drop at all) ++ later_options (drop n (drop at all))) (sym there)
    ∙ ap₂ (λ (xs ys : List ℕ). xs ++ later_options ys) (sym option) (drop-drop size at all) in
    record {
      within = omega (arith, ap length joined, length-append (take at now ++ part) (drop size ahead), both);
      long = omega (arith, ap length joined, length-append (take at now ++ part) (drop size ahead), both, length-drop size ahead, length-drop at now, is.long, fits, is.within);
      ahead = behind ∙ rest;
      so_far =
          ap (λ (xs : List ℕ). xs ++ later_options (drop (at + size) all)) before
          ∙ append_assoc (take at now) part (later_options (drop (at + size) all))
          ∙ ap (λ (xs : List ℕ). take at now ++ xs) (sym goes)
          ∙ is.so_far;
    }
