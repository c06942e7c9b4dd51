-- Positions in a list with one more at its end, and the last note that passes a test.
use Rattle.std.proofs.Common.{◌≡◌, ℕ, zero, suc, ◌<◌, ◌⊎◌, inl, inr, Bool, true, false, cond, List, [], ◌∷◌, ◌++◌, length, take, Option, Some, None, refl, sym, ap, subst, ◌∙◌, arith}
use Rattle.std.specs.Prelude.{reverse}
use Rattle.std.proofs.lemmas.Grind.{reverse_onto}
use Rattle.std.proofs.lemmas.List.{take-append-le, take_at}
use Rattle.std.proofs.lemmas.Bool.{cases_Bool, cases_order, both_ways}
use Rattle.nat_types.specs.declared.notes.Note.{Note}
use Rattle.spec_trace.specs.Position.{note_at, LastIs, NoneIs}

pub at_within : (xs : List Note) (k : ℕ) (m : Note) → note_at xs k ≡ Some m → k < length xs
at_within [] k m h = absurd (cc)
at_within (x ∷ xs) zero m h = omega arith
at_within (x ∷ xs) (suc k) m h = let r : k < length xs = at_within xs k m h in omega arith

pub at_old : (xs ys : List Note) (k : ℕ) (m : Note) → note_at xs k ≡ Some m → note_at (xs ++ ys) k ≡ Some m
at_old [] ys k m h = absurd (cc)
at_old (x ∷ xs) ys zero m h = h
at_old (x ∷ xs) ys (suc k) m h = at_old xs ys k m h

pub at_last : (xs : List Note) (x : Note) → note_at (xs ++ x ∷ []) (length xs) ≡ Some x
at_last [] x = refl
at_last (y ∷ xs) x = at_last xs x

-- a note of the longer list is one of the shorter list, or the last
pub at_cases : (xs : List Note) (x : Note) (k : ℕ) (m : Note) → note_at (xs ++ x ∷ []) k ≡ Some m → (note_at xs k ≡ Some m) ⊎ ((k ≡ length xs) × (x ≡ m))
at_cases [] x zero m h = inr (refl, cc)
at_cases [] x (suc k) m h = absurd (cc)
at_cases (y ∷ xs) x zero m h = inl h
at_cases (y ∷ xs) x (suc k) m h = elim (at_cases xs x k m h) [ inl a ↦ inl a | inr b ↦ inr (ap suc b.0, b.1) ]

-- the notes before a note of the shorter list are the same in the longer one
pub take_old : (xs : List Note) (x : Note) (k : ℕ) (m : Note) → note_at xs k ≡ Some m → take k (xs ++ x ∷ []) ≡ take k xs
take_old xs x k m h = let w : k < length xs = at_within xs k m h in take-append-le k xs (x ∷ []) (omega arith)

pub take_here : (xs : List Note) (x : Note) (k : ℕ) → k ≡ length xs → take k (xs ++ x ∷ []) ≡ xs
take_here xs x k e = take_at xs (x ∷ []) k (sym e)

-- the last note that passes a test, in a list with the newest note first
abbrev pub last_of : (Note → Bool) → List Note → Option Note
last_of test [] = None
last_of test (n ∷ t) = cond (test n) (Some n) (last_of test t)

abbrev pub Says : (Note → Bool) → List Note → Option Note → Type 0
Says test t None = NoneIs test t
Says test t (Some n) = LastIs test t n

says_here : (test : Note → Bool) (xs : List Note) (n : Note) → test n ≡ true → LastIs test (xs ++ n ∷ []) n
says_here test xs n e = (
  length xs,
  at_last xs n,
  e,
  λ j m lt at. elim (at_cases xs n j m at) [
    | inl old ↦ let w : j < length xs = at_within xs j m old in absurd (omega arith)
    | inr new ↦ let w : j ≡ length xs = new.0 in absurd (omega arith)
  ],
)

says_on : (test : Note → Bool) (xs : List Note) (n : Note) (o : Option Note) → test n ≡ false → Says test xs o → Says test (xs ++ n ∷ []) o
says_on test xs n None e h = λ j m at. elim (at_cases xs n j m at) [ inl old ↦ h j m old | inr new ↦ ap test (sym new.1) ∙ e ]
says_on test xs n (Some l) e h = (h.0, at_old xs (n ∷ []) h.0 l h.1, h.2, λ j m lt at. elim (at_cases xs n j m at) [ inl old ↦ h.3 j m lt old | inr new ↦ ap test (sym new.1) ∙ e ])

pub reverse_more : (n : Note) (t : List Note) → reverse (n ∷ t) ≡ reverse t ++ n ∷ []
reverse_more n t = reverse_onto t n []

pub says : (test : Note → Bool) (t : List Note) → Says test (reverse t) (last_of test t)
says test [] = λ j m at. absurd (cc)
says test (n ∷ t) =
    subst (λ (x : List Note). Says test x (cond (test n) (Some n) (last_of test t))) (sym (reverse_more n t))
    (elim (cases_Bool (test n)) [
      | inl e ↦ subst (λ (b : Bool). Says test (reverse t ++ n ∷ []) (cond b (Some n) (last_of test t))) (sym e) (says_here test (reverse t) n e)
      | inr e ↦ subst (λ (b : Bool). Says test (reverse t ++ n ∷ []) (cond b (Some n) (last_of test t))) (sym e) (says_on test (reverse t) n (last_of test t) e (says test t))
    ])

some_one : (a b : Note) → Some a ≡ Some b → a ≡ b
some_one a b h = cc

-- at most one note is the last that passes a test
same_last : (test : Note → Bool) (t : List Note) (n : Note) (o : Option Note) → LastIs test t n → Says test t o → o ≡ Some n
same_last test t n None l h = absurd (both_ways (test n) (h l.0 n l.1) l.2)
same_last test t n (Some m) l h = elim (cases_order l.0 h.0) [
  | inl e ↦ sym (sym l.1 ∙ ap (note_at t) e ∙ h.1)
  | inr d ↦ elim d [ inl lt ↦ absurd (both_ways (test m) (l.3 h.0 m lt h.1) h.2) | inr gt ↦ absurd (both_ways (test n) (h.3 l.0 n gt l.1) l.2) ]
]

pub last_unique : (test : Note → Bool) (t : List Note) (n : Note) → LastIs test (reverse t) n → last_of test t ≡ Some n
last_unique test t n l = same_last test (reverse t) n (last_of test t) l (says test t)

no_last : (test : Note → Bool) (t : List Note) (o : Option Note) → NoneIs test t → Says test t o → o ≡ None
no_last test t None h s = refl
no_last test t (Some m) h s = absurd (both_ways (test m) (h s.0 m s.1) s.2)

pub none_unique : (test : Note → Bool) (t : List Note) → NoneIs test (reverse t) → last_of test t ≡ None
none_unique test t h = no_last test (reverse t) (last_of test t) h (says test t)
