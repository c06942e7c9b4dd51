-- The records of a datagram, in order.
use Rattle.std.proofs.Common.{◌≡◌, ◌≤◌, ◌<◌, ◌+◌, ◌∷◌, [], ℕ, suc, Bool, true, false, List, length, drop, slice_index_or, refl, sym, ap, ◌∙◌, arith, add-one, drop-cons}
use Rattle.nat_types.specs.declared.records.Record.{Record}
use Rattle.link.specs.Link.{answers_count, needs_answer}
use Rattle.gateway.specs.Rooms.{answers_to}

pub next-at : (rs : List Record) (i : ℕ) (r : Record) → i < length rs → r ≡ slice_index_or rs i r → drop i rs ≡ r ∷ drop (i + 1) rs
next-at rs i r within is = rw (add-one) (drop-cons rs i r within ∙ ap (λ (x : Record). x ∷ drop (suc i) rs) (sym is))

count-by : (r : Record) (rs : List Record) (needs : Bool) → needs_answer r ≡ needs → answers_count (r ∷ rs) ≡ answers_count rs + answers_to r
count-by r rs true is = rw is refl
count-by r rs false is = rw is (omega arith)

-- how many answers there are, with one record more
pub count-more : (r : Record) (rs : List Record) → answers_count (r ∷ rs) ≡ answers_count rs + answers_to r
count-more r rs = count-by r rs (needs_answer r) refl

to-most : (r : Record) (needs : Bool) → needs_answer r ≡ needs → answers_to r ≤ 1
to-most r true is = rw is (omega arith)
to-most r false is = rw is (omega arith)

-- there are no more answers than records
pub count-most : (rs : List Record) → answers_count rs ≤ length rs
count-most [] = omega arith
count-most (r ∷ rs) =
    let more = count-more r rs in
    let most = to-most r (needs_answer r) refl in
    let rest = count-most rs in
    omega (arith, more, most, rest)

-- the first record, where it needs an answer, has a place
pub first-place : (r : Record) (rs : List Record) (free : ℕ) → answers_count (r ∷ rs) ≤ free → needs_answer r ≡ true → 0 < free
first-place r rs free room needs =
    let more = count-more r rs in
    let one : answers_to r ≡ 1 = rw needs refl in
    omega (arith, more, one, room)
