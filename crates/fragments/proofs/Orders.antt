-- The order of fragments is no matter, nor how often each stands there.
use Rattle.std.proofs.Common.{◌≡◌, ◌⊎◌, inl, inr, ℕ, zero, suc, ◌+◌, ◌-◌, ◌<◌, ◌≤◌, Bool, true, false, cond, Option, Some, None, List, [], ◌∷◌, length, map, get_or, slice_index, refl, ap, ap₂, ◌∙◌, sym, subst, arith}
use Rattle.std.specs.List.{AllByRecursion, Contains, count_by, find, list_any, range_with_len}
use Rattle.std.proofs.lemmas.Bool.{or_left, or_right}
use Rattle.std.proofs.lemmas.Option.{same_Some}
use Rattle.fragments.proofs.Counting.{any-found, count-cons, found-of, none-of, tally}
use Rattle.fragments.specs.Fragment.{carried, carries, first_of, is_last, starts}
use Rattle.fragments.specs.Whole.{IsComplete, byte_at, first_header_length, is_marked, payload_end, reassembled, whole_fields, whole_service}

-- an item is one of a list
abbrev pub IsAmong : List ℕ → List (List ℕ) → Type 0
IsAmong f [] = ⊥
IsAmong f (g ∷ gs) = (g ≡ f) ⊎ IsAmong f gs

pub among-from : (fs : List (List ℕ)) (f : List ℕ) → Contains fs f → IsAmong f fs
among-from [] f there = absurd (let w = there.1 in omega arith)
among-from (g ∷ fs) f there = at there.0 there.1 there.2 (λ behind. among-from fs f behind)
  where
    at : (k : ℕ) → k < length (g ∷ fs) → get_or (g ∷ fs) k f ≡ f → (Contains fs f → IsAmong f fs) → IsAmong f (g ∷ fs)
    at zero within is rest = inl is
    at (suc k) within is rest = inr (rest (k, omega arith, is))

pub among-to : (fs : List (List ℕ)) (f : List ℕ) → IsAmong f fs → Contains fs f
among-to [] f there = absurd there
among-to (g ∷ fs) f (inl same) = (0, omega arith, same)
among-to (g ∷ fs) f (inr there) =
    let at = among-to fs f there in
    (suc at.0, let w = at.1 in omega arith, at.2)

pub found-among : (p : List ℕ → Bool) (fs : List (List ℕ)) (x : List ℕ) → find p fs ≡ Some x → IsAmong x fs × (p x ≡ true)
found-among p [] x found = cc
found-among p (f ∷ fs) x found = by (p f) refl found (λ there. found-among p fs x there)
  where
    by : (b : Bool) → p f ≡ b → (let o : Option (List ℕ) = cond b (Some f) (find p fs) in o) ≡ Some x → (find p fs ≡ Some x → IsAmong x fs × (p x ≡ true)) → IsAmong x (f ∷ fs) × (p x ≡ true)
    by true is here rest = let same : f ≡ x = same_Some f x here in (inl same, ap p (sym same) ∙ is)
    by false is here rest = let known = rest here in (inr known.0, known.1)

-- one that passes is found
among-found : (p : List ℕ → Bool) (fs : List (List ℕ)) (x : List ℕ) → IsAmong x fs → p x ≡ true → (y : List ℕ) × (find p fs ≡ Some y)
among-found p [] x there is = absurd there
among-found p (f ∷ fs) x there is = by (p f) refl there (λ behind. among-found p fs x behind is)
  where
    by : (b : Bool) → p f ≡ b → (f ≡ x) ⊎ IsAmong x fs → (IsAmong x fs → (y : List ℕ) × (find p fs ≡ Some y))
        → (y : List ℕ) × ((let o : Option (List ℕ) = cond b (Some f) (find p fs) in o) ≡ Some y)
    by true here _ rest = (f, refl)
    by false isnt (inl same) rest = let bad : true ≡ false = sym is ∙ (ap p (sym same) ∙ isnt) in absurd (cc)
    by false isnt (inr behind) rest = rest behind

among-all : (P : List ℕ → Type 0) (fs : List (List ℕ)) (x : List ℕ) → AllByRecursion P fs → IsAmong x fs → P x
among-all P [] x all there = absurd there
among-all P (f ∷ fs) x all (inl same) = subst P same all.0
among-all P (f ∷ fs) x all (inr behind) = among-all P fs x all.1 behind

among-any : (p : List ℕ → Bool) (fs : List (List ℕ)) (x : List ℕ) → IsAmong x fs → p x ≡ true → list_any p fs ≡ true
among-any p [] x there is = absurd there
among-any p (f ∷ fs) x (inl same) is = or_left (p f) (list_any p fs) (ap p same ∙ is)
among-any p (f ∷ fs) x (inr behind) is = or_right (p f) (list_any p fs) (among-any p fs x behind is)

-- where just one passes, another that passes is that one
only-one : (p : List ℕ → Bool) (fs : List (List ℕ)) (x y : List ℕ) → count_by p fs ≡ 1 → find p fs ≡ Some x → IsAmong y fs → p y ≡ true → y ≡ x
only-one p [] x y one found there is = absurd there
only-one p (f ∷ fs) x y one found there is = by (p f) refl found there (λ alone first behind. only-one p fs x y alone first behind is)
  where
    by : (b : Bool) → p f ≡ b → (let o : Option (List ℕ) = cond b (Some f) (find p fs) in o) ≡ Some x → (f ≡ y) ⊎ IsAmong y fs
        → (count_by p fs ≡ 1 → find p fs ≡ Some x → IsAmong y fs → y ≡ x) → y ≡ x
    by true here found_here (inl same) rest = sym same ∙ same_Some f x found_here
    by true here found_here (inr behind) rest =
        let none = none-of p fs (omega (arith, one, count-cons p f fs, ap tally here)) in
        let not : p y ≡ false = among-all (λ g. p g ≡ false) fs y none behind in
        let bad : true ≡ false = sym is ∙ not in absurd (cc)
    by false here found_here (inl same) rest = let bad : true ≡ false = sym is ∙ (ap p (sym same) ∙ here) in absurd (cc)
    by false here found_here (inr behind) rest = rest (omega (arith, one, count-cons p f fs, ap tally here)) found_here behind

-- the same items, each any number of times
abbrev pub AreSame : List (List ℕ) → List (List ℕ) → Type 0
AreSame fs gs = (f : List ℕ) → (IsAmong f fs → IsAmong f gs) × (IsAmong f gs → IsAmong f fs)

-- where just one of some passes, the same is found among the same items
pub same-found : (p : List ℕ → Bool) (fs gs : List (List ℕ)) → AreSame fs gs → count_by p fs ≡ 1 → find p gs ≡ find p fs
same-found p fs gs same one =
    let there = found-of p fs (omega (arith, one)) in
    let x = there.0 in
    let known = found-among p fs x there.1 in
    let other = among-found p gs x ((same x).0 known.0) known.1 in
    let known_other = found-among p gs other.0 other.1 in
    let is : other.0 ≡ x = only-one p fs x other.0 one there.1 ((same other.0).1 known_other.0) known_other.1 in
    other.1 ∙ ap (λ (y : List ℕ). let o : Option (List ℕ) = Some y in o) is ∙ sym there.1

-- some passes among the same items, or none does
pub same-any : (p : List ℕ → Bool) (fs gs : List (List ℕ)) → AreSame fs gs → list_any p gs ≡ list_any p fs
same-any p fs gs same = by (list_any p fs) refl (list_any p gs) refl
  where
    carry : (xs ys : List (List ℕ)) → ((f : List ℕ) → IsAmong f xs → IsAmong f ys) → list_any p xs ≡ true → list_any p ys ≡ true
    carry xs ys more any =
        let x = any-found p xs any in
        let known = found-among p xs x.0 x.1 in
        among-any p ys x.0 (more x.0 known.0) known.1

    by : (a : Bool) → list_any p fs ≡ a → (b : Bool) → list_any p gs ≡ b → b ≡ a
    by true one true two = refl
    by false one false two = refl
    by true one false two = let bad : false ≡ true = sym two ∙ carry fs gs (λ f. (same f).0) one in absurd (cc)
    by false one true two = let bad : false ≡ true = sym one ∙ carry gs fs (λ f. (same f).1) two in absurd (cc)

-- the byte at a place is that of the fragment that is found to carry it
unfoldable pub byte_of : ℕ → Option (List ℕ) → ℕ
byte_of k None = 0
byte_of k (Some f) = slice_index (carried f) (k - first_of f)

pub byte-found : (fs : List (List ℕ)) (k : ℕ) → byte_at fs k ≡ byte_of k (find (carries k) fs)
unfolding byte_of
byte-found [] k = refl
byte-found (f ∷ fs) k = by (carries k f) (byte-found fs k)
  where
    by : (b : Bool) → byte_at fs k ≡ byte_of k (find (carries k) fs) → cond b (slice_index (carried f) (k - first_of f)) (byte_at fs k) ≡ byte_of k (cond b (Some f) (find (carries k) fs))
    by true rest = refl
    by false rest = rest

same-map : (f g : ℕ → ℕ) (a n : ℕ) → ((k : ℕ) → a ≤ k → k < a + n → f k ≡ g k) → map f (range_with_len a n) ≡ map g (range_with_len a n)
same-map f g a zero same = refl
same-map f g a (suc n) same = ap₂ (λ (x : ℕ) (xs : List ℕ). x ∷ xs) (same a (omega arith) (omega arith)) (same-map f g (a + 1) n (λ k low high. same k (omega arith) (omega arith)))

pub same-whole : (fs gs : List (List ℕ)) → AreSame fs gs → IsComplete fs → reassembled gs ≡ reassembled fs
unfolding reassembled whole_fields whole_service payload_end first_header_length
same-whole fs gs same is =
    let first : find starts gs ≡ find starts fs = same-found starts fs gs same is.first in
    let last : find is_last gs ≡ find is_last fs = same-found is_last fs gs same is.last in
    let marked : list_any is_marked gs ≡ list_any is_marked fs = same-any is_marked fs gs same in
    let bytes : map (byte_at gs) (range_with_len 0 (payload_end fs)) ≡ map (byte_at fs) (range_with_len 0 (payload_end fs)) =
    same-map (byte_at gs) (byte_at fs) 0 (payload_end fs) (λ k low high. byte-found gs k ∙ ap (byte_of k) (same-found (carries k) fs gs same (is.each k (omega (arith, high)))) ∙ sym (byte-found fs k)) in
    rw (first, last, marked, bytes) refl
