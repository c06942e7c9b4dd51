-- How often an address is in a rising list, and in the list after a change.
use Rattle.std.proofs.Common.{◌≡◌, ◌≢◌, ◌≤◌, ◌<◌, ◌+◌, ◌-◌, ℕ, zero, suc, cond, eqb, List, [], ◌∷◌, ◌++◌, length, get_or, take, drop, refl, ap, subst, arith}
use Rattle.std.specs.List.{insert, remove}
use Rattle.std.proofs.lemmas.Bool.Decides.{nat_tests}
use Rattle.std.proofs.lemmas.List.{take-append-drop}
use Rattle.std.proofs.lemmas.List.Edits.{length-insert, get_or-insert_below, get_or-insert_at, get_or-insert_above, length-remove, get_or-remove_below, get_or-remove_above}
use Rattle.arp.specs.Log.{tally, place_without, IsRising, IsAt, IsGapFor}

-- x is never in a list in which no place has it
pub tally-none : (x : ℕ) (xs : List ℕ) → ((j : ℕ) → j < length xs → get_or xs j 0 ≢ x) → tally x xs ≡ 0
tally-none x [] other = refl
tally-none x (y ∷ xs) other = grind (arith, nat_tests, other 0 (omega arith), tally-none x xs (λ j lt. other (suc j) (omega (arith, lt))))

pub tally-gap : (xs : List ℕ) (x i : ℕ) → IsGapFor xs x i → tally x xs ≡ 0
tally-gap xs x i gap = tally-none x xs (λ j lt same. grind (arith, gap.lower j, gap.greater j))

rising-tail : (y : ℕ) (xs : List ℕ) → IsRising (y ∷ xs) → IsRising xs
rising-tail y xs rising i j lt within = rising (suc i) (suc j) (omega (arith, lt)) (omega (arith, within))

-- x is once in a rising list in which a place has it
pub tally-at : (xs : List ℕ) → IsRising xs → (x i : ℕ) → IsAt xs x i → tally x xs ≡ 1
tally-at [] rising x i at = absurd (omega (arith, at.within))
tally-at (y ∷ xs) rising x zero at = grind (arith, nat_tests, at.is, tally-none x xs (λ j lt same. omega (arith, rising 0 (suc j) (omega arith) (omega (arith, lt)), at.is, same)))
tally-at (y ∷ xs) rising x (suc i) at = grind (arith, nat_tests, at.is, rising 0 (suc i) (omega arith) at.within, tally-at xs (rising-tail y xs rising) x i (record { within = omega (arith, at.within); is = at.is }))

pub tally-append : (x : ℕ) (xs ys : List ℕ) → tally x (xs ++ ys) ≡ tally x xs + tally x ys
tally-append x [] ys = omega arith
tally-append x (y ∷ xs) ys = omega (arith, tally-append x xs ys)

pub tally-insert : (x : ℕ) (xs : List ℕ) (i y : ℕ) → tally x (insert xs i y) ≡ cond (eqb y x) 1 0 + tally x xs
tally-insert x xs i y = omega (arith, tally-append x (take i xs) (y ∷ drop i xs), tally-append x (take i xs) (drop i xs), ap (tally x) (take-append-drop i xs))

pub tally-remove : (x : ℕ) (xs : List ℕ) (i : ℕ) → i < length xs → tally x xs ≡ cond (eqb (get_or xs i 0) x) 1 0 + tally x (remove xs i)
tally-remove x [] i lt = absurd (omega (arith, lt))
tally-remove x (y ∷ xs) zero lt = refl
tally-remove x (y ∷ xs) (suc i) lt = omega (arith, tally-remove x xs i (omega (arith, lt)))

pub rising-insert : (xs : List ℕ) (x at : ℕ) → IsGapFor xs x at → IsRising xs → IsRising (insert xs at x)
rising-insert xs x at gap rising i j lt within =
    let new = insert xs at x in
    let length_new = length-insert xs at x gap.within in
    let below : (i : ℕ) → i < at → get_or new i 0 ≡ get_or xs i 0 = λ i below. get_or-insert_below xs at x 0 i below gap.within in
    let here : (i : ℕ) → i ≡ at → get_or new i 0 ≡ x = λ i here. rw here (get_or-insert_at xs at x 0 gap.within) in
    let above : (i : ℕ) → at < i → get_or new i 0 ≡ get_or xs (i - 1) 0 = λ i above. subst (λ q. get_or new q 0 ≡ get_or xs (i - 1) 0) {x = i - 1 + 1} (omega arith) (get_or-insert_above xs at x 0 (i - 1) (omega arith) gap.within) in
    grind (arith, below i, here i, above i, below j, here j, above j, rising i j, rising i (j - 1), rising (i - 1) (j - 1), gap.lower i, gap.greater (j - 1))

pub rising-remove : (xs : List ℕ) (at : ℕ) → at < length xs → IsRising xs → IsRising (remove xs at)
rising-remove xs at there rising i j lt within =
    let new = remove xs at in
    let length_new = length-remove xs at there in
    let below : (i : ℕ) → i < at → get_or new i 0 ≡ get_or xs i 0 = λ i below. get_or-remove_below xs at 0 i below there in
    let above : (i : ℕ) → at ≤ i → get_or new i 0 ≡ get_or xs (i + 1) 0 = λ i above. get_or-remove_above xs at 0 i above there in
    grind (arith, below i, above i, below j, above j, rising i j, rising i (j + 1), rising (i + 1) (j + 1))

-- the place at which x would be inserted stays the same, or is one lower, once another item is removed
pub gap-remove : (xs : List ℕ) (x at out : ℕ) → IsGapFor xs x at → out < length xs → IsGapFor (remove xs out) x (place_without out at)
gap-remove xs x at out gap there =
    let length_new = length-remove xs out there in
    let below : (i : ℕ) → i < out → get_or (remove xs out) i 0 ≡ get_or xs i 0 = λ i below. get_or-remove_below xs out 0 i below there in
    let above : (i : ℕ) → out ≤ i → get_or (remove xs out) i 0 ≡ get_or xs (i + 1) 0 = λ i above. get_or-remove_above xs out 0 i above there in
    record {
      within = grind (arith, nat_tests, gap.within);
      lower = λ j lt. grind (arith, nat_tests, below j, above j, gap.lower j, gap.lower (j + 1));
      greater = λ j le lt. grind (arith, nat_tests, below j, above j, gap.greater j, gap.greater (j + 1));
    }
