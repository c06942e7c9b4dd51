-- Ports that are counted and chosen from the highest down.
use Rattle.std.proofs.Common.{◌≡◌, ℕ, zero, suc, ◌+◌, ◌-◌, ◌<◌, ◌≤◌, Bool, true, false, inl, inr, List, [], ◌∷◌, ◌++◌, length, min, take, refl, sym, ap, ◌∙◌, append_assoc, append-nil, arith}
use Rattle.std.specs.List.{filter}
use Rattle.std.proofs.lemmas.Bool.{cases_eq, cond-true, cond-false}
use Rattle.addresses.specs.declared.transport.Port.{Port}
use Rattle.nat_types.specs.Granted.{Granted}
use Rattle.port_range.specs.Searches.{IsLastBelow}
use Rattle.spec_binding.specs.Rows.{falling, as_ports, share}

-- ---- the numbers that pass a test, from one on and below an end, in falling order

abbrev pub those_between : (ℕ → Bool) → ℕ → ℕ → List ℕ
those_between f low end = filter f (falling (end - 1) (end - low))

-- where no number passes the test, there is none
none-falling : (f : ℕ → Bool) (low high count : ℕ) → (0 < count → high + 1 ≡ low + count) → ((q : ℕ) → low ≤ q → q < low + count → f q ≡ false) → filter f (falling high count) ≡ []
none-falling f low high zero is none = refl
none-falling f low high (suc count) is none =
    let top : high + 1 ≡ low + suc count = is (omega arith) in
    cond-false (f high) (high ∷ filter f (falling (high - 1) count)) (filter f (falling (high - 1) count)) (none high (omega (arith, top)) (omega (arith, top)))
    ∙ none-falling f low (high - 1) count (λ some. omega (arith, top, some)) (λ q from below. none q from (omega (arith, below)))

-- the greatest number that passes comes first
first-falling : (f : ℕ → Bool) (low high count p : ℕ) → high + 1 ≡ low + count → f p ≡ true → low ≤ p → p < low + count → ((q : ℕ) → p < q → q < low + count → f q ≡ false)
    → filter f (falling high count) ≡ p ∷ filter f (falling (p - 1) (p - low))
first-falling f low high zero p is passes from below none = absurd (omega (arith, from, below))
first-falling f low high (suc count) p is passes from below none =
    elim (cases_eq p high) [
      | inl same ↦
          (cond-true (f high) (high ∷ filter f (falling (high - 1) count)) (filter f (falling (high - 1) count)) (ap f (sym same) ∙ passes)
          ∙ ap (λ (z : ℕ). z ∷ filter f (falling (z - 1) count)) (sym same)
          ∙ ap (λ (n : ℕ). p ∷ filter f (falling (p - 1) n)) (let e : count ≡ p - low = omega (arith, is, same) in e))
      | inr other ↦
          (cond-false (f high) (high ∷ filter f (falling (high - 1) count)) (filter f (falling (high - 1) count)) (none high (omega (arith, is, below, other)) (omega (arith, is)))
          ∙ first-falling f low (high - 1) count p (omega (arith, is, from, below, other)) passes from (omega (arith, is, below, other)) (λ q above under. none q above (omega (arith, under))))
    ]

pub none-between : (f : ℕ → Bool) (low end : ℕ) → ((q : ℕ) → low ≤ q → q < end → f q ≡ false) → those_between f low end ≡ []
none-between f low end none =
    none-falling f low (end - 1) (end - low) (λ some. omega (arith, some)) (λ q from below. none q from (omega (arith, from, below)))

pub first-between : (f : ℕ → Bool) (low end p : ℕ) → low ≤ p → IsLastBelow f end p → those_between f low end ≡ p ∷ those_between f low p
first-between f low end p from is =
    let below = is.below in
    first-falling f low (end - 1) (end - low) p (omega (arith, from, below)) is.passes from (omega (arith, from, below)) (λ q above under. is.last q above (omega (arith, from, below, under)))

-- where the last number that passes lies below, there is none
pub none-above : (f : ℕ → Bool) (low end p : ℕ) → p < low → IsLastBelow f end p → those_between f low end ≡ []
none-above f low end p below is = none-between f low end (λ q from under. is.last q (omega (arith, below, from)) under)

-- ---- the count

-- one more port is counted
pub counted-next : (whole count p : ℕ) (xs ys : List ℕ) → xs ≡ p ∷ ys → whole ≡ count + length xs → whole ≡ count + 1 + length ys
counted-next whole count p xs ys is was = let one = ap length is in omega (arith, was, one)

-- the count is exact once none is left
pub counted-all : (whole count most : ℕ) (xs : List ℕ) → count < most → xs ≡ [] → whole ≡ count + length xs → count ≡ min most whole
counted-all whole count most xs below none was = let left = ap length none in omega (arith, was, left, below)

-- ---- the choice

-- one more port is chosen
pub chosen-next : (many rest : ℕ) (p : Port) (whole ports next : List Port) (xs ys : List ℕ) → many ≡ suc rest → xs ≡ p.0 ∷ ys → next ≡ ports ++ p ∷ []
    → whole ≡ ports ++ (as_ports (take many xs)).ports → whole ≡ next ++ (as_ports (take rest ys)).ports
chosen-next many rest p whole ports next xs ys more is pushed was =
    was
    ∙ ap (λ (n : ℕ). ports ++ (as_ports (take n xs)).ports) more
    ∙ ap (λ (zs : List ℕ). ports ++ (as_ports (take (suc rest) zs)).ports) is
    ∙ sym (append_assoc ports (p ∷ []) (as_ports (take rest ys)).ports)
    ∙ ap (λ (ps : List Port). ps ++ (as_ports (take rest ys)).ports) (sym pushed)

take-none : (n : ℕ) → take {A = ℕ} n [] ≡ []
take-none zero = refl
take-none (suc n) = refl

finished : (whole ports : List Port) (left : List ℕ) → left ≡ [] → whole ≡ ports ++ (as_ports left).ports → ports ≡ whole
finished whole ports left none was = sym (was ∙ ap (λ (zs : List ℕ). ports ++ (as_ports zs).ports) none ∙ append-nil ports)

-- the choice is whole once none is left
pub chosen-all : (many : ℕ) (whole ports : List Port) (xs : List ℕ) → xs ≡ [] → whole ≡ ports ++ (as_ports (take many xs)).ports → ports ≡ whole
chosen-all many whole ports xs none was = finished whole ports (take many xs) (ap (take many) none ∙ take-none many) was

-- the choice is whole once enough are chosen
pub chosen-enough : (many : ℕ) (whole ports : List Port) (xs : List ℕ) → many ≡ 0 → whole ≡ ports ++ (as_ports (take many xs)).ports → ports ≡ whole
chosen-enough many whole ports xs none was = finished whole ports (take many xs) (ap (λ (n : ℕ). take n xs) none) was

-- counting up to 32 spare ports beyond those that are kept is enough for the share
halved : (kept n : ℕ) → share (min (kept + 32) n - kept) ≡ share (n - kept)
halved kept n = omega arith

pub granted-is : (f : ℕ → Bool) (low high end kept most : ℕ) (granted : Granted) → end ≡ high + 1 → most ≡ share (min (kept + 32) (length (those_between f low end)) - kept) → granted ≡ as_ports (take most (those_between f low end))
    → granted ≡ as_ports (take (share (length (filter f (falling high (high + 1 - low))) - kept)) (filter f (falling high (high + 1 - low))))
granted-is f low high end kept most granted at many is =
    let same : those_between f low end ≡ filter f (falling high (high + 1 - low)) = ap (those_between f low) at ∙ ap (λ (n : ℕ). filter f (falling n (high + 1 - low))) (let e : high + 1 - 1 ≡ high = omega arith in e) in
    is
    ∙ ap (λ (n : ℕ). as_ports (take n (those_between f low end))) (many ∙ halved kept (length (those_between f low end)))
    ∙ ap (λ (zs : List ℕ). as_ports (take (share (length zs - kept)) zs)) same
