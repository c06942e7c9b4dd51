-- Fragments that don't contradict each other carry each byte once where they carry as many bytes as the last one ends at.
use Rattle.std.proofs.Common.{◌≡◌, ◌⊎◌, inl, inr, ℕ, zero, suc, ◌+◌, ◌-◌, ◌%◌, ◌<◌, ◌≤◌, min, Bool, true, false, not, cond, ◌&&◌, ◌||◌, ◌==◌, nat_lt, nat_le, Option, Some, unwrap_or, List, [], ◌∷◌, length, refl, ap, ap₂, ◌∙◌, sym, subst, arith}
use Rattle.std.specs.List.{AllByRecursion, count_by, find, list_any, sum_by}
use Rattle.std.proofs.lemmas.Bool.{and_parts, and_from, and_right, and_cases, or_parts, ltb-true, ltb-false, leb-true, leb-false, eqb-true, eq-eqb, lt-ltb, le-leb, le-ltb, cases_eq, cases_lt}
use Rattle.std.proofs.lemmas.Bool.Decides.{nat_tests}
use Rattle.std.proofs.lemmas.List.Sums.{sum_by-cons}
use Rattle.std.proofs.lemmas.Option.{same_Some}
use Rattle.fragments.specs.Fragment.{carried, carries, contradicts, end_of, first_of, is_broken, is_last, is_past, overlaps, starts}
use Rattle.fragments.specs.Gathered.{AreApart}
use Rattle.fragments.specs.Whole.{IsComplete, carried_by, is_whole, payload_end}

-- how many places below n a fragment carries
covered : ℕ → List ℕ → ℕ
covered zero f = 0
covered (suc n) f = covered n f + cond (carries n f) 1 0

-- of the places below n, in how many fragments each is carried, added up
counts : ℕ → List (List ℕ) → ℕ
counts zero fragments = 0
counts (suc n) fragments = counts n fragments + count_by (carries n) fragments

sum_by-zero : (fs : List (List ℕ)) → sum_by (λ (f : List ℕ). 0) fs ≡ 0
sum_by-zero [] = refl
sum_by-zero (f ∷ fs) = omega (arith, sum_by-cons (λ (g : List ℕ). 0) f fs, sum_by-zero fs)

sum_by-plus : (p q : List ℕ → ℕ) (fs : List (List ℕ)) → sum_by (λ f. p f + q f) fs ≡ sum_by p fs + sum_by q fs
sum_by-plus p q [] = refl
sum_by-plus p q (f ∷ fs) = omega (
  arith,
  sum_by-cons (λ (g : List ℕ). p g + q g) f fs,
  sum_by-cons p f fs,
  sum_by-cons q f fs,
  sum_by-plus p q fs,
)

exchanged : (n : ℕ) (fs : List (List ℕ)) → counts n fs ≡ sum_by (covered n) fs
unfolding counts covered
exchanged zero fs = sym (sum_by-zero fs)
exchanged (suc n) fs =
    ap (λ (k : ℕ). k + count_by (carries n) fs) (exchanged n fs)
    ∙ sym (sum_by-plus (covered n) (λ (f : List ℕ). cond (carries n f) 1 0) fs)

-- a place is carried where it lies between the two ends
step-up : (n first end c : ℕ) → first ≤ end → c + min n first ≡ min n end → (c + cond (nat_le first n && nat_lt n end) 1 0) + min (suc n) first ≡ min (suc n) end
step-up n first end c rises so_far = by (nat_le first n) refl (nat_lt n end) refl
  where
    by : (a : Bool) → nat_le first n ≡ a → (b : Bool) → nat_lt n end ≡ b → (c + cond (a && b) 1 0) + min (suc n) first ≡ min (suc n) end
    by true low true high = omega (arith, leb-true first n low, ltb-true n end high)
    by true low false high = omega (arith, leb-true first n low, ltb-false n end high)
    by false low b high = omega (arith, leb-false first n low)

covered-is : (n : ℕ) (f : List ℕ) → covered n f + min n (first_of f) ≡ min n (end_of f)
unfolding covered carries
covered-is zero f = omega arith
covered-is (suc n) f = step-up n (first_of f) (end_of f) (covered n f) (omega arith) (covered-is n f)

covered-all : (n : ℕ) (f : List ℕ) → end_of f ≤ n → covered n f ≡ length (carried f)
covered-all n f within = omega (arith, covered-is n f)

sum-all : (n : ℕ) (fs : List (List ℕ)) → AllByRecursion (λ f. end_of f ≤ n) fs → sum_by (covered n) fs ≡ carried_by fs
sum-all n [] within = refl
sum-all n (f ∷ fs) within = omega (
  arith,
  sum_by-cons (covered n) f fs,
  sum_by-cons (λ (g : List ℕ). length (carried g)) f fs,
  covered-all n f within.0,
  sum-all n fs within.1,
)

-- where all end by n, the places below n are carried as often as there are bytes
counts-all : (n : ℕ) (fs : List (List ℕ)) → AllByRecursion (λ f. end_of f ≤ n) fs → counts n fs ≡ carried_by fs
counts-all n fs within = exchanged n fs ∙ sum-all n fs within

-- ---- how many of a list pass a test
abbrev pub tally : Bool → ℕ
tally passes = (cond passes 1 0)

pub count-cons : (p : List ℕ → Bool) (f : List ℕ) (fs : List (List ℕ)) → count_by p (f ∷ fs) ≡ cond (p f) 1 0 + count_by p fs
count-cons p f fs = sum_by-cons (λ (g : List ℕ). cond (p g) 1 0) f fs

pub count-none : (p : List ℕ → Bool) (fs : List (List ℕ)) → AllByRecursion (λ f. p f ≡ false) fs → count_by p fs ≡ 0
count-none p [] none = refl
count-none p (f ∷ fs) none = count-cons p f fs ∙ ap₂ ◌+◌ (ap tally none.0) (count-none p fs none.1)

count-same : (p q : List ℕ → Bool) (fs : List (List ℕ)) → AllByRecursion (λ f. p f ≡ q f) fs → count_by p fs ≡ count_by q fs
count-same p q [] same = refl
count-same p q (f ∷ fs) same =
    count-cons p f fs ∙ ap₂ ◌+◌ (ap tally same.0) (count-same p q fs same.1) ∙ sym (count-cons q f fs)

-- no two of a list pass a test: at most one does
abbrev AtMostOne : (List ℕ → Bool) → List (List ℕ) → Type 0
AtMostOne p [] = Unit {0}
AtMostOne p (f ∷ fs) = (p f ≡ true → AllByRecursion (λ g. p g ≡ false) fs) × AtMostOne p fs

count-most : (p : List ℕ → Bool) (fs : List (List ℕ)) → AtMostOne p fs → count_by p fs ≤ 1
count-most p [] most = omega arith
count-most p (f ∷ fs) most = by (p f) refl (count-most p fs most.1)
  where
    by : (b : Bool) → p f ≡ b → count_by p fs ≤ 1 → count_by p (f ∷ fs) ≤ 1
    by true is rest = omega (arith, count-cons p f fs, ap tally is, count-none p fs (most.0 is))
    by false is rest = omega (arith, count-cons p f fs, ap tally is, rest)

pub all-of : {X : Type 0} (P Q : X → Type 0) → ((x : X) → P x → Q x) → (xs : List X) → AllByRecursion P xs → AllByRecursion Q xs
all-of P Q more [] all = tt
all-of P Q more (x ∷ xs) all = (more x all.0, all-of P Q more xs all.1)

both : {X : Type 0} (P Q : X → Type 0) (xs : List X) → AllByRecursion P xs → AllByRecursion Q xs → AllByRecursion (λ x. P x × Q x) xs
both P Q [] all more = tt
both P Q (x ∷ xs) all more = ((all.0, more.0), both P Q xs all.1 more.1)

-- fragments that don't contradict each other pass a test one at most, where two that pass it contradict each other
one-of : (p : List ℕ → Bool) (R : List ℕ → Type 0) → ((f g : List ℕ) → R f → R g → p f ≡ true → p g ≡ true → contradicts f g ≡ true) → (fs : List (List ℕ)) → AllByRecursion R fs → AreApart fs → AtMostOne p fs
one-of p R clash [] known apart = tt
one-of p R clash (f ∷ fs) known apart = (
  λ is. all-of (λ g. R g × (contradicts f g ≡ false)) (λ g. p g ≡ false) (λ g here. not-both g is here.0 here.1) fs (both R (λ g. contradicts f g ≡ false) fs known.1 apart.0),
  one-of p R clash fs known.1 apart.1,
)
  where
    not-both : (g : List ℕ) → p f ≡ true → R g → contradicts f g ≡ false → p g ≡ false
    not-both g is here not = by (p g) refl
      where
        by : (b : Bool) → p g ≡ b → p g ≡ false
        by false isnt = isnt
        by true too = let yes = clash f g known.0 here is too in absurd (cc)

-- ---- two fragments
or-first : (a b c : Bool) → a ≡ true → (a || b || c) ≡ true
or-first true b c is = refl
or-first false b c is = cc

or-second : (a b c : Bool) → b ≡ true → (a || b || c) ≡ true
or-second true b c is = refl
or-second false true c is = refl
or-second false false c is = cc

or-third : (a b c : Bool) → c ≡ true → (a || b || c) ≡ true
or-third true b c is = refl
or-third false true c is = refl
or-third false false c is = is

overlap : (f g : List ℕ) → first_of f < end_of g → first_of g < end_of f → overlaps f g ≡ true
overlap f g one two = and_from _ _ (lt-ltb (first_of f) (end_of g) one) (lt-ltb (first_of g) (end_of f) two)

-- what it says that two fragments don't contradict each other
pub record Beside (f g : List ℕ) : Type 0 where
  pub apart : (end_of f ≤ first_of g) ⊎ (end_of g ≤ first_of f)
  pub first_past : is_last g ≡ true → end_of f ≤ end_of g
  pub second_past : is_last f ≡ true → end_of g ≤ end_of f

not-past : (last : Bool) (m n : ℕ) → (last && nat_lt m n) ≡ false → last ≡ true → n ≤ m
not-past true m n isnt is = ltb-false m n isnt
not-past false m n isnt is = cc

pub beside : (f g : List ℕ) → contradicts f g ≡ false → Beside f g
unfolding contradicts
beside f g isnt =
    let outer = or_parts (overlaps f g || is_past f g) (is_past g f) isnt in
    let inner = or_parts (overlaps f g) (is_past f g) outer.0 in
    record {
      apart = by (and_cases (nat_lt (first_of f) (end_of g)) (nat_lt (first_of g) (end_of f)) inner.0);
      first_past = not-past (is_last g) (end_of g) (end_of f) inner.1;
      second_past = not-past (is_last f) (end_of f) (end_of g) outer.1;
    }
  where
    by : (nat_lt (first_of f) (end_of g) ≡ false) ⊎ (nat_lt (first_of g) (end_of f) ≡ false) → (end_of f ≤ first_of g) ⊎ (end_of g ≤ first_of f)
    by (inl e) = inr (ltb-false (first_of f) (end_of g) e)
    by (inr e) = inl (ltb-false (first_of g) (end_of f) e)

-- a byte is carried once at most
carry-clash : (k : ℕ) (f g : List ℕ) → carries k f ≡ true → carries k g ≡ true → contradicts f g ≡ true
unfolding carries contradicts
carry-clash k f g one two =
    let a = and_parts (nat_le (first_of f) k) (nat_lt k (end_of f)) one in
    let b = and_parts (nat_le (first_of g) k) (nat_lt k (end_of g)) two in
    let low-f = leb-true (first_of f) k a.0 in
    let high-f = ltb-true k (end_of f) a.1 in
    let low-g = leb-true (first_of g) k b.0 in
    let high-g = ltb-true k (end_of g) b.1 in
    or-first _ _ _ (overlap f g (omega arith) (omega arith))

trivial : (fs : List (List ℕ)) → AllByRecursion (λ (f : List ℕ). Unit {0}) fs
trivial [] = tt
trivial (f ∷ fs) = (tt, trivial fs)

carried-once : (fs : List (List ℕ)) → AreApart fs → (k : ℕ) → count_by (carries k) fs ≤ 1
carried-once fs apart k = count-most (carries k) fs (one-of (carries k) (λ f. Unit {0}) (λ f g _ _ one two. carry-clash k f g one two) fs (trivial fs) apart)

-- ---- as many counts as places, each at most 1, are all 1
counts-most : (fs : List (List ℕ)) → AreApart fs → (n : ℕ) → counts n fs ≤ n
unfolding counts
counts-most fs apart zero = omega arith
counts-most fs apart (suc n) = omega (arith, counts-most fs apart n, carried-once fs apart n)

each-one : (fs : List (List ℕ)) → AreApart fs → (n : ℕ) → counts n fs ≡ n → (k : ℕ) → k < n → count_by (carries k) fs ≡ 1
unfolding counts
each-one fs apart zero full k below = absurd (omega arith)
each-one fs apart (suc n) full k below = by (cases_eq k n) (λ whole under. each-one fs apart n whole k under)
  where
    here : count_by (carries n) fs ≡ 1
    here = omega (arith, full, counts-most fs apart n, carried-once fs apart n)

    so_far : counts n fs ≡ n
    so_far = omega (arith, full, counts-most fs apart n, carried-once fs apart n)

    by : (k ≡ n) ⊎ (k ≡ n → ⊥) → (counts n fs ≡ n → k < n → count_by (carries k) fs ≡ 1) → count_by (carries k) fs ≡ 1
    by (inl same) rest = ap (λ (m : ℕ). count_by (carries m) fs) same ∙ here
    by (inr other) rest = rest so_far (omega (arith, below, other))

-- ---- the last fragment
pub found-all : {X : Type 0} (P : X → Type 0) (p : X → Bool) (xs : List X) (x : X) → AllByRecursion P xs → find p xs ≡ Some x → P x
found-all P p [] x all found = cc
found-all {X} P p (y ∷ xs) x all found = by (p y) found (λ there. found-all P p xs x all.1 there)
  where
    by : (b : Bool) → (let o : Option X = cond b (Some y) (find p xs) in o) ≡ Some x → (find p xs ≡ Some x → P x) → P x
    by true is rest = subst P (same_Some y x is) all.0
    by false is rest = rest is

pub found-passes : {X : Type 0} (p : X → Bool) (xs : List X) (x : X) → find p xs ≡ Some x → p x ≡ true
found-passes p [] x found = cc
found-passes {X} p (y ∷ xs) x found = by (p y) refl found (λ there. found-passes p xs x there)
  where
    by : (b : Bool) → p y ≡ b → (let o : Option X = cond b (Some y) (find p xs) in o) ≡ Some x → (find p xs ≡ Some x → p x ≡ true) → p x ≡ true
    by true is here rest = ap p (sym (same_Some y x here)) ∙ is
    by false is here rest = rest here

-- fragments of which one is the last, and none contradicts another, end by that one's end
ends-within : (fs : List (List ℕ)) (last : List ℕ) → AreApart fs → find is_last fs ≡ Some last → AllByRecursion (λ f. end_of f ≤ end_of last) fs
ends-within [] last apart found = tt
ends-within (f ∷ fs) last apart found = by (is_last f) refl found (λ there. ends-within fs last apart.1 there)
  where
    by : (b : Bool) → is_last f ≡ b → (let o : Option (List ℕ) = cond b (Some f) (find is_last fs) in o) ≡ Some last
        → (find is_last fs ≡ Some last → AllByRecursion (λ g. end_of g ≤ end_of last) fs)
        → AllByRecursion (λ g. end_of g ≤ end_of last) (f ∷ fs)
    by true is here rest =
        let same : f ≡ last = same_Some f last here in
        subst (λ (l : List ℕ). AllByRecursion (λ g. end_of g ≤ end_of l) (f ∷ fs)) same
        (omega arith, all-of (λ g. contradicts f g ≡ false) (λ g. end_of g ≤ end_of f) (λ g isnt. (beside f g isnt).second_past is) fs apart.0)
    by false is here rest =
        let lasts = found-passes is_last fs last here in
        let apart_here = found-all (λ g. contradicts f g ≡ false) is_last fs last apart.0 here in
        ((beside f last apart_here).first_past lasts, rest here)

-- ---- whole fragments are complete
Unbroken : List ℕ → Type 0
Unbroken f = is_broken f ≡ false

some-of : (n : ℕ) (b : Bool) → ((n == 0) || b) ≡ false → 0 < n
some-of n b fine = grind (arith, nat_tests)

pub unbroken-some : (f : List ℕ) → is_broken f ≡ false → 0 < length (carried f)
unfolding is_broken
unbroken-some f fine = some-of (length (carried f)) (not (is_last f) && not (length (carried f) % 8 == 0)) fine

-- two last fragments contradict each other
last-clash : (f g : List ℕ) → is_broken f ≡ false → is_broken g ≡ false → is_last f ≡ true → is_last g ≡ true → contradicts f g ≡ true
last-clash f g fine_f fine_g one two = by (contradicts f g) refl
  where
    by : (b : Bool) → contradicts f g ≡ b → contradicts f g ≡ true
    by true is = is
    by false isnt =
        let sides = beside f g isnt in
        let first : end_of f ≤ end_of g = sides.first_past two in
        let second : end_of g ≤ end_of f = sides.second_past one in
        let some_f = unbroken-some f fine_f in
        let some_g = unbroken-some g fine_g in
        absurd (elim sides.apart [ inl h ↦ omega arith | inr h ↦ omega arith ])

-- the fragment with offset 0 is the one that carries the first byte
starts-carries : (first size : ℕ) → 0 < size → (first == 0) ≡ (nat_le first 0 && nat_lt 0 (first + size))
starts-carries first size some = grind (arith, nat_tests)

starts-at : (f : List ℕ) → is_broken f ≡ false → starts f ≡ carries 0 f
unfolding carries
starts-at f fine = starts-carries (first_of f) (length (carried f)) (unbroken-some f fine)

-- no fragment that ends by a place carries it
carries-not : (k : ℕ) (f : List ℕ) → end_of f ≤ k → carries k f ≡ false
unfolding carries
carries-not k f behind = and_right _ _ (le-ltb k (end_of f) behind)

pub any-found : (p : List ℕ → Bool) (fs : List (List ℕ)) → list_any p fs ≡ true → (x : List ℕ) × (find p fs ≡ Some x)
any-found p [] any = cc
any-found p (f ∷ fs) any = by (p f) any (λ there. any-found p fs there)
  where
    by : (b : Bool) → (b || list_any p fs) ≡ true → (list_any p fs ≡ true → (x : List ℕ) × (find p fs ≡ Some x))
        → (x : List ℕ) × ((let o : Option (List ℕ) = cond b (Some f) (find p fs) in o) ≡ Some x)
    by true any rest = (f, refl)
    by false any rest = rest any

found-some : (p : List ℕ → Bool) (fs : List (List ℕ)) (x : List ℕ) → find p fs ≡ Some x → 1 ≤ count_by p fs
found-some p [] x found = cc
found-some p (f ∷ fs) x found = by (p f) refl found (λ there. found-some p fs x there)
  where
    by : (b : Bool) → p f ≡ b → (let o : Option (List ℕ) = cond b (Some f) (find p fs) in o) ≡ Some x → (find p fs ≡ Some x → 1 ≤ count_by p fs) → 1 ≤ count_by p (f ∷ fs)
    by true is here rest = omega (arith, count-cons p f fs, ap tally is)
    by false is here rest = omega (arith, count-cons p f fs, rest here)

complete-at : (fs : List (List ℕ)) (last : List ℕ) → AreApart fs → AllByRecursion (λ f. is_broken f ≡ false) fs → find is_last fs ≡ Some last → carried_by fs ≡ payload_end fs → IsComplete fs
unfolding payload_end
complete-at fs last apart fine found size =
    let end : payload_end fs ≡ end_of last = ap (λ (o : Option (List ℕ)). end_of (unwrap_or o [])) found in
    let within : AllByRecursion (λ f. end_of f ≤ end_of last) fs = ends-within fs last apart found in
    let full : counts (end_of last) fs ≡ end_of last = counts-all (end_of last) fs within ∙ size ∙ end in
    let lasting : 0 < end_of last = let some = unbroken-some last (found-all (λ f. is_broken f ≡ false) is_last fs last fine found) in omega arith in
    let one = each-one fs apart (end_of last) full in
    record {
      first = count-same starts (carries 0) fs (all-of (λ f. is_broken f ≡ false) (λ f. starts f ≡ carries 0 f) starts-at fs fine) ∙ one 0 lasting;
      last = omega (arith, found-some is_last fs last found, count-most is_last fs (one-of is_last (λ f. is_broken f ≡ false) last-clash fs fine apart));
      each = λ k below. one k (omega (arith, below, end));
      behind = λ k past. count-none (carries k) fs (all-of (λ f. end_of f ≤ end_of last) (λ f. carries k f ≡ false) (λ f ends. carries-not k f (omega (arith, ends, past, end))) fs within);
    }

pub whole-complete : (fs : List (List ℕ)) → AreApart fs → AllByRecursion (λ f. is_broken f ≡ false) fs → is_whole fs ≡ true → IsComplete fs
unfolding is_whole
whole-complete fs apart fine whole =
    let parts = and_parts (list_any is_last fs) (carried_by fs == payload_end fs) whole in
    let there = any-found is_last fs parts.0 in
    complete-at fs there.0 apart fine there.1 (eqb-true (carried_by fs) (payload_end fs) parts.1)

-- ---- complete fragments are whole
pub found-of : (p : List ℕ → Bool) (fs : List (List ℕ)) → 1 ≤ count_by p fs → (x : List ℕ) × (find p fs ≡ Some x) × (list_any p fs ≡ true)
found-of p [] some = absurd (omega arith)
found-of p (f ∷ fs) some = by (p f) refl (λ there. found-of p fs there)
  where
    by : (b : Bool) → p f ≡ b → (1 ≤ count_by p fs → (x : List ℕ) × (find p fs ≡ Some x) × (list_any p fs ≡ true))
        → (x : List ℕ) × ((let o : Option (List ℕ) = cond b (Some f) (find p fs) in o) ≡ Some x) × ((b || list_any p fs) ≡ true)
    by true is rest = (f, refl, refl)
    by false is rest = rest (omega (arith, some, count-cons p f fs, ap tally is))

pub none-of : (p : List ℕ → Bool) (fs : List (List ℕ)) → count_by p fs ≡ 0 → AllByRecursion (λ f. p f ≡ false) fs
none-of p [] none = tt
none-of p (f ∷ fs) none = by (p f) refl (λ rest. none-of p fs rest)
  where
    by : (b : Bool) → p f ≡ b → (count_by p fs ≡ 0 → AllByRecursion (λ g. p g ≡ false) fs) → AllByRecursion (λ g. p g ≡ false) (f ∷ fs)
    by true is rest = absurd (omega (arith, none, count-cons p f fs, ap tally is))
    by false is rest = (is, rest (omega (arith, none, count-cons p f fs)))

-- a fragment that carries a byte ends by the end, where no byte behind it is carried
ends-by : (n : ℕ) (fs : List (List ℕ)) → AllByRecursion (λ f. is_broken f ≡ false) fs → ((k : ℕ) → n ≤ k → count_by (carries k) fs ≡ 0) → AllByRecursion (λ f. end_of f ≤ n) fs
unfolding carries
ends-by n [] fine behind = tt
ends-by n (f ∷ fs) fine behind = (
  by (cases_lt n (end_of f)),
  ends-by n fs fine.1 (λ k past. omega (arith, behind k past, count-cons (carries k) f fs)),
)
  where
    some : 0 < length (carried f)
    some = unbroken-some f fine.0

    carries-end : n < end_of f → carries (end_of f - 1) f ≡ true
    carries-end long = and_from _ _ (le-leb (first_of f) (end_of f - 1) (omega (arith, some))) (lt-ltb (end_of f - 1) (end_of f) (omega (arith, some)))

    by : (n < end_of f) ⊎ (end_of f ≤ n) → end_of f ≤ n
    by (inr within) = within
    by (inl long) = absurd (omega (arith, behind (end_of f - 1) (omega (arith, long)), count-cons (carries (end_of f - 1)) f fs, ap tally (carries-end long)))

counts-full : (n : ℕ) (fs : List (List ℕ)) → ((k : ℕ) → k < n → count_by (carries k) fs ≡ 1) → counts n fs ≡ n
unfolding counts
counts-full zero fs one = refl
counts-full (suc n) fs one = omega (arith, counts-full n fs (λ k below. one k (omega arith)), one n (omega arith))

pub complete-whole : (fs : List (List ℕ)) → AllByRecursion (λ f. is_broken f ≡ false) fs → IsComplete fs → is_whole fs ≡ true
unfolding is_whole
complete-whole fs fine is =
    let there = found-of is_last fs (omega (arith, is.last)) in
    let within = ends-by (payload_end fs) fs fine is.behind in
    let size : carried_by fs ≡ payload_end fs = sym (counts-all (payload_end fs) fs within) ∙ counts-full (payload_end fs) fs is.each in
    and_from _ _ there.2 (eq-eqb (carried_by fs) (payload_end fs) size)

-- what makes a whole ends within it
pub whole-within : (fs : List (List ℕ)) → AreApart fs → is_whole fs ≡ true → AllByRecursion (λ f. end_of f ≤ payload_end fs) fs
unfolding is_whole payload_end
whole-within fs apart whole =
    let parts = and_parts (list_any is_last fs) (carried_by fs == payload_end fs) whole in
    let there = any-found is_last fs parts.0 in
    let end : payload_end fs ≡ end_of there.0 = ap (λ (o : Option (List ℕ)). end_of (unwrap_or o [])) there.1 in
    all-of (λ f. end_of f ≤ end_of there.0) (λ f. end_of f ≤ payload_end fs) (λ f ends. omega (arith, ends, end)) fs (ends-within fs there.0 apart there.1)
