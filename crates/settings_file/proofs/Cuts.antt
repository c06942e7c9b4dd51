-- Parts of a text, one after the other.
use Rattle.std.proofs.Common.{◌≡◌, ◌∙◌, ◌+◌, ◌<◌, ◌==◌, ℕ, List, [], ◌∷◌, length, Option, Some, None, IfSome, refl, sym, ap, arith}
use Rattle.std.specs.Borrow.{Bor}
use Rattle.std.specs.List.{count_by}
use Rattle.std.proofs.lemmas.List.Splits.{length-slice_split, slice_split_first, slice_split_none}
use Rattle.std.proofs.lemmas.List.Sums.{fails_before_first}
use Rattle.std.proofs.lemmas.Str.Pattern.{IsSplitOnceResult, split_once_first}
use Rattle.settings_file.specs.Texts.{address_in, mac_in, parts_at}

-- what `split_once` gives at an ASCII character
pub cut_some : (c : ℕ) (bs : List ℕ) (r : Option (Bor (List ℕ) × Bor (List ℕ))) → IsSplitOnceResult c bs r → c < 128
    → IfSome r (λ x. parts_at c bs ≡ x.0.now ∷ parts_at c x.1.now)
cut_some c bs None h low = tt
cut_some c bs (Some x) h low =
    let at = split_once_first c bs (Some x) h low in
    rw (at.1, at.2) (slice_split_first (λ b. b == c) bs 0 at.0)

pub cut_none : (c : ℕ) (bs : List ℕ) (r : Option (Bor (List ℕ) × Bor (List ℕ))) → IsSplitOnceResult c bs r → c < 128
    → r ≡ None → parts_at c bs ≡ bs ∷ []
cut_none c bs None h low is =
    let all = split_once_first c bs None h low in
    slice_split_none (λ b. b == c) bs (λ k d lt. fails_before_first (λ b. b == c) bs k d (omega arith))
cut_none c bs (Some x) h low is = absurd (cc)

-- a text has a part
some_part : (c : ℕ) (bs : List ℕ) → parts_at c bs ≡ [] → ⊥
some_part c bs h =
    let none : count_by (λ b. b == c) bs + 1 ≡ 0 = sym (length-slice_split (λ b. b == c) bs) ∙ ap length h in
    omega arith

-- so there are more than four, or six, where one more is cut off after four, or six
pub five_parts : (p q r s : List ℕ) (c : ℕ) (bs : List ℕ) → address_in (p ∷ q ∷ r ∷ s ∷ parts_at c bs) ≡ None
five_parts p q r s c bs = go (parts_at c bs) refl
  where
    go : (ps : List (List ℕ)) → parts_at c bs ≡ ps → address_in (p ∷ q ∷ r ∷ s ∷ ps) ≡ None
    go [] e = absurd (some_part c bs e)
    go (x ∷ xs) e = refl

pub seven_parts : (p q r s t u : List ℕ) (c : ℕ) (bs : List ℕ) → mac_in (p ∷ q ∷ r ∷ s ∷ t ∷ u ∷ parts_at c bs) ≡ None
seven_parts p q r s t u c bs = go (parts_at c bs) refl
  where
    go : (ps : List (List ℕ)) → parts_at c bs ≡ ps → mac_in (p ∷ q ∷ r ∷ s ∷ t ∷ u ∷ ps) ≡ None
    go [] e = absurd (some_part c bs e)
    go (x ∷ xs) e = refl
