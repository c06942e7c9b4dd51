-- What is known of the fragments of a datagram with one more behind them.
use Rattle.std.proofs.Common.{◌≡◌, ℕ, ◌+◌, ◌<◌, Bool, true, false, not, cond, ◌&&◌, ◌||◌, ◌==◌, nat_le, nat_lt, Option, Some, None, unwrap_or, List, [], ◌∷◌, ◌++◌, length, get_or, refl, ap, ◌∙◌, sym, arith}
use Rattle.std.specs.Option.{is_some}
use Rattle.std.specs.List.{count_by, find, list_any, position}
use Rattle.std.proofs.lemmas.Bool.{or_right}
use Rattle.std.proofs.lemmas.List.Folds.{list_any-append}
use Rattle.std.proofs.lemmas.List.Sums.{sum_by_push}
use Rattle.ipv4.specs.Header.{header_of}
use Rattle.fragments.specs.Fragment.{carried, contradicts, end_of, first_of, ipv4_in, is_last, is_same, starts}
use Rattle.fragments.specs.Gathered.{effect_of}
use Rattle.fragments.specs.Whole.{carried_by, first_fragment, first_header_length, is_marked, is_whole, payload_end, whole_length}
use Rattle.fragments.specs.declared.datagrams.Effect.{Effect}
use Rattle.fragments.specs.declared.datagrams.Effect.TheVariants.{Repeats, Contradicts, Waits, TooLong, Completes}
use Rattle.fragments.proofs.Placing.{any-before, any-behind, first-at, found-at, found-before, found-behind, none-counted}

-- the first that passes, of these and one more
with-before : (p : List ℕ → Bool) (fs : List (List ℕ)) (new : List ℕ) (at : ℕ) (d : List ℕ) → position p fs ≡ Some at → unwrap_or (find p (fs ++ new ∷ [])) [] ≡ get_or fs at d
with-before p fs new at d is = ap (λ (o : Option (List ℕ)). unwrap_or o []) (found-before p fs new at d (first-at p fs at d is))

with-new : (p : List ℕ → Bool) (fs : List (List ℕ)) (new : List ℕ) → position p fs ≡ None → p new ≡ true → unwrap_or (find p (fs ++ new ∷ [])) [] ≡ new
with-new p fs new none is =
    ap (λ (o : Option (List ℕ)). unwrap_or o []) (found-behind p fs new none)
    ∙ ap (λ (b : Bool). unwrap_or (let o : Option (List ℕ) = cond b (Some new) None in o) []) is

with-none : (p : List ℕ → Bool) (fs : List (List ℕ)) (new : List ℕ) → position p fs ≡ None → p new ≡ false → unwrap_or (find p (fs ++ new ∷ [])) [] ≡ []
with-none p fs new none isnt =
    ap (λ (o : Option (List ℕ)). unwrap_or o []) (found-behind p fs new none)
    ∙ ap (λ (b : Bool). unwrap_or (let o : Option (List ℕ) = cond b (Some new) None in o) []) isnt

-- the one with offset 0
pub first-before : (fs : List (List ℕ)) (new : List ℕ) (at : ℕ) (d : List ℕ) → position starts fs ≡ Some at → first_fragment (fs ++ new ∷ []) ≡ get_or fs at d
first-before fs new at d is = with-before starts fs new at d is

pub first-behind : (fs : List (List ℕ)) (new : List ℕ) → position starts fs ≡ None → count_by starts (fs ++ new ∷ []) ≡ 1 → first_fragment (fs ++ new ∷ []) ≡ new
first-behind fs new none once = by (starts new) refl
  where
    by : (b : Bool) → starts new ≡ b → first_fragment (fs ++ new ∷ []) ≡ new
    by true is = with-new starts fs new none is
    by false isnt = absurd (omega (arith, once, none-counted starts fs none, sum_by_push (λ (f : List ℕ). cond (starts f) 1 0) fs new, ap {B = ℕ} (λ (b : Bool). cond b 1 0) isnt))

-- one of them met congestion
pub marked-with : (fs : List (List ℕ)) (new : List ℕ) → list_any is_marked (fs ++ new ∷ []) ≡ (list_any is_marked fs || is_marked new)
marked-with fs new = list_any-append is_marked fs (new ∷ []) ∙ ap (λ (b : Bool). list_any is_marked fs || b) (or-false (is_marked new))
  where
    or-false : (b : Bool) → (b || false) ≡ b
    or-false true = refl
    or-false false = refl

-- the end that the last one gives
pub end-before : (fs : List (List ℕ)) (new : List ℕ) (at : ℕ) (d : List ℕ) → position is_last fs ≡ Some at → payload_end (fs ++ new ∷ []) ≡ end_of (get_or fs at d)
unfolding payload_end
end-before fs new at d is = ap (λ (f : List ℕ). end_of f) (with-before is_last fs new at d is)

pub end-behind : (fs : List (List ℕ)) (new : List ℕ) → position is_last fs ≡ None → payload_end (fs ++ new ∷ []) ≡ cond (is_last new) (end_of new) 0
unfolding payload_end first_of carried
end-behind fs new none = by (is_last new) refl
  where
    by : (b : Bool) → is_last new ≡ b → payload_end (fs ++ new ∷ []) ≡ cond b (end_of new) 0
    by true is = ap (λ (f : List ℕ). end_of f) (with-new is_last fs new none is)
    by false isnt = ap (λ (f : List ℕ). end_of f) (with-none is_last fs new none isnt)

-- the header of the one with offset 0
pub header-before : (fs : List (List ℕ)) (new : List ℕ) (at : ℕ) (d : List ℕ) → position starts fs ≡ Some at → first_header_length (fs ++ new ∷ []) ≡ (header_of (ipv4_in (get_or fs at d))).header_length
unfolding first_header_length
header-before fs new at d is = ap (λ (f : List ℕ). (header_of (ipv4_in f)).header_length) (with-before starts fs new at d is)

pub header-behind : (fs : List (List ℕ)) (new : List ℕ) → position starts fs ≡ None → first_header_length (fs ++ new ∷ []) ≡ cond (starts new) (header_of (ipv4_in new)).header_length 0
unfolding first_header_length
header-behind fs new none = by (starts new) refl
  where
    by : (b : Bool) → starts new ≡ b → first_header_length (fs ++ new ∷ []) ≡ cond b (header_of (ipv4_in new)).header_length 0
    by true is = ap (λ (f : List ℕ). (header_of (ipv4_in f)).header_length) (with-new starts fs new none is)
    by false isnt = ap (λ (f : List ℕ). (header_of (ipv4_in f)).header_length) (with-none starts fs new none isnt)

-- whether the last one is there
pub last-with : (fs : List (List ℕ)) (new : List ℕ) → list_any is_last (fs ++ new ∷ []) ≡ (is_last new || is_some (position is_last fs))
last-with fs new = by (position is_last fs) refl
  where
    or-false : (b : Bool) → b ≡ (b || false)
    or-false true = refl
    or-false false = refl

    by : (o : Option ℕ) → position is_last fs ≡ o → list_any is_last (fs ++ new ∷ []) ≡ (is_last new || is_some o)
    by None none = any-behind is_last fs new none ∙ or-false (is_last new)
    by (Some at) is = any-before is_last fs new at [] (first-at is_last fs at [] is) ∙ sym (or_right (is_last new) true refl)

pub last-there : (fs : List (List ℕ)) (new : List ℕ) → is_last new ≡ false → list_any is_last (fs ++ new ∷ []) ≡ is_some (position is_last fs)
last-there fs new isnt = last-with fs new ∙ ap (λ (b : Bool). b || is_some (position is_last fs)) isnt

pub last-comes : (fs : List (List ℕ)) (new : List ℕ) → is_last new ≡ true → list_any is_last (fs ++ new ∷ []) ≡ true
last-comes fs new is = last-with fs new ∙ ap (λ (b : Bool). b || is_some (position is_last fs)) is

-- whether nothing is missing
pub whole-with : (fs : List (List ℕ)) (new : List ℕ) → is_whole (fs ++ new ∷ []) ≡ (list_any is_last (fs ++ new ∷ []) && (carried_by fs + length (carried new) == payload_end (fs ++ new ∷ [])))
unfolding is_whole
whole-with fs new = ap (λ (n : ℕ). list_any is_last (fs ++ new ∷ []) && (n == payload_end (fs ++ new ∷ []))) (sum_by_push (λ (f : List ℕ). length (carried f)) fs new)

-- the first that passes, by its place
pub found-place : (p : List ℕ → Bool) (fs : List (List ℕ)) (at : ℕ) (d : List ℕ) → position p fs ≡ Some at → unwrap_or (find p fs) [] ≡ get_or fs at d
found-place p fs at d is = ap (λ (o : Option (List ℕ)). unwrap_or o []) (found-at p fs at d (first-at p fs at d is))

pub place-within : (p : List ℕ → Bool) (fs : List (List ℕ)) (at : ℕ) → position p fs ≡ Some at → at < length fs
place-within p fs at is = (first-at p fs at [] is).within

pub not-whole-with : (fs : List (List ℕ)) (new : List ℕ) → list_any is_last (fs ++ new ∷ []) ≡ false → is_whole (fs ++ new ∷ []) ≡ false
not-whole-with fs new none = whole-with fs new ∙ ap (λ (b : Bool). b && (carried_by fs + length (carried new) == payload_end (fs ++ new ∷ []))) none

pub counts-with : (fs : List (List ℕ)) (new : List ℕ) → list_any is_last (fs ++ new ∷ []) ≡ true → is_whole (fs ++ new ∷ []) ≡ (carried_by fs + length (carried new) == payload_end (fs ++ new ∷ []))
counts-with fs new any = whole-with fs new ∙ ap (λ (b : Bool). b && (carried_by fs + length (carried new) == payload_end (fs ++ new ∷ []))) any

-- what one more does, by the tests
pub effect-is : (there : List (List ℕ)) (f : List ℕ) (a b c d : Bool) → list_any (is_same f) there ≡ a → (list_any (λ g. contradicts g f) there || nat_le 64 (length there)) ≡ b → is_whole (there ++ f ∷ []) ≡ c → nat_lt 65535 (whole_length (there ++ f ∷ [])) ≡ d
    → effect_of there f ≡ (let e : Effect = cond a Repeats (cond b Contradicts (cond (not c) Waits (cond d TooLong Completes))) in e)
unfolding effect_of
effect-is there f a b c d one two three four =
    rw (one, two, three, four) refl
