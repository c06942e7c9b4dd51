-- What is still to be drawn after each record.
use Rattle.std.proofs.Common.{◌≡◌, ℕ, zero, suc, ◌+◌, ◌≤◌, true, cond, Option, Some, None, List, [], ◌∷◌, ◌++◌, length, map, take, drop, refl, sym, ap, ◌∙◌, arith, length-append}
use Rattle.std.specs.List.{filter, AllByRecursion}
use Rattle.std.proofs.lemmas.List.{length-map}
use Rattle.addresses.specs.declared.transport.Port.{Port}
use Rattle.nat_types.specs.declared.pairs.Pair.{Pair}
use Rattle.nat_types.specs.declared.records.Record.TheVariants.{Done, Owner}
use Rattle.bindings.specs.declared.entries.Entry.{Entry}
use Rattle.bindings.specs.Entries.{pairs_in, HasDistinctKeys}
use Rattle.bindings.specs.Runs.{runs_of, first_of}
use Rattle.bindings.specs.Table.{Table}
use Rattle.resync.specs.Batch.{is_settled, owners_of, record_for, puts_of, batch_of, HasNoPending}
use Rattle.resync.specs.Cursor.{runs_from, coming}
use Rattle.resync.specs.declared.cursor.Cursor.TheVariants as at
use Rattle.resync.proofs.Behind.{behind-none}
use Rattle.resync.proofs.Slotted.{all-slots}

-- where no run is left, the Puts are next
pub no-owners : (from : Option Port) (t : Table) → runs_from from t.owned ≡ [] → coming (at.Owners from) t ≡ coming (at.Puts None) t
no-owners from t h =
    ap (λ rs. owners_of rs ++ (puts_of t.entries ++ Done ∷ [])) h
    ∙ ap (λ (ps : List Pair). map (record_for (pairs_in is_settled t.entries)) ps ++ Done ∷ []) (sym (behind-none (pairs_in is_settled t.entries)))

-- ---- lists drawn one by one

take-one : {X : Type 0} (i : ℕ) (xs : List X) (x : X) → first_of (drop i xs) ≡ Some x → take (suc i) xs ≡ take i xs ++ x ∷ []
take-one zero [] x h = cc
take-one zero (y ∷ ys) x h = cc
take-one (suc i) [] x h = cc
take-one (suc i) (y ∷ ys) x h = ap (λ zs. y ∷ zs) (take-one i ys x h)

pub one-more : {X : Type 0} (i : ℕ) (xs : List X) (x : X) → first_of (drop i xs) ≡ Some x → take (i + 1) xs ≡ take i xs ++ x ∷ []
one-more i xs x h = ap (λ (n : ℕ). take n xs) (let e : i + 1 ≡ suc i = omega arith in e) ∙ take-one i xs x h

drop-one : {X : Type 0} (i : ℕ) (xs : List X) → drop 1 (drop i xs) ≡ drop (suc i) xs
drop-one zero xs = refl
drop-one (suc i) [] = refl
drop-one (suc i) (y ∷ ys) = drop-one i ys

pub one-on : {X : Type 0} (i : ℕ) (xs : List X) → drop 1 (drop i xs) ≡ drop (i + 1) xs
one-on i xs = drop-one i xs ∙ ap (λ (n : ℕ). drop n xs) (let e : suc i ≡ i + 1 = omega arith in e)

pub first-none : {X : Type 0} (xs : List X) → first_of xs ≡ None → xs ≡ []
first-none [] h = refl
first-none (x ∷ xs) h = cc

-- where nothing is left after i records, n of them are no more than i
pub all-drawn : {X : Type 0} (i n : ℕ) (xs : List X) → drop i xs ≡ [] → i ≤ n → take n xs ≡ take i xs
all-drawn zero zero xs h le = refl
all-drawn zero (suc n) [] h le = refl
all-drawn zero (suc n) (x ∷ xs) h le = cc
all-drawn (suc i) zero xs h le = absurd (omega arith)
all-drawn (suc i) (suc n) [] h le = refl
all-drawn (suc i) (suc n) (x ∷ xs) h le = ap (λ zs. x ∷ zs) (all-drawn i n xs h (omega arith))

pub none-left : {X : Type 0} (i n : ℕ) (xs : List X) → drop i xs ≡ [] → i ≤ n → drop n xs ≡ []
none-left zero zero xs h le = h
none-left zero (suc n) [] h le = refl
none-left zero (suc n) (x ∷ xs) h le = cc
none-left (suc i) zero xs h le = absurd (omega arith)
none-left (suc i) (suc n) [] h le = refl
none-left (suc i) (suc n) (x ∷ xs) h le = none-left i n xs h (omega arith)

pub all-push : {X : Type 0} (P : X → Type 0) (xs : List X) (x : X) → AllByRecursion P xs → P x → AllByRecursion P (xs ++ x ∷ [])
all-push P [] x h p = (p, tt)
all-push P (y ∷ ys) x h p = (h.0, all-push P ys x h.1 p)

-- ---- how many there are

all-settled : (es : List Entry) → AllByRecursion (λ (e : Entry). is_settled e.state ≡ true) es → length (pairs_in is_settled es) ≡ length es
all-settled [] h = refl
all-settled (e ∷ es) h = ap (λ b. length (map (λ (x : Entry). x.pair) (cond b (e ∷ filter (λ (x : Entry). is_settled x.state) es) (filter (λ (x : Entry). is_settled x.state) es)))) h.0 ∙ ap suc (all-settled es h.1)

pub batch-length : (owned : List ℕ) (es : List Entry) → HasDistinctKeys es → HasNoPending es → length (batch_of owned es) ≡ length (runs_of owned) + length es + 2
batch-length owned es keys settled =
    let pairs : length (pairs_in is_settled es) ≡ length es = all-settled es (all-slots (λ e. is_settled e.state ≡ true) es keys settled) in
    let puts : length (puts_of es) ≡ length (pairs_in is_settled es) = length-map (pairs_in is_settled es) (record_for (pairs_in is_settled es)) in
    let owners : length (owners_of (runs_of owned)) ≡ length (runs_of owned) = length-map (runs_of owned) (λ run. Owner run.lowest run.highest) in
    let inner : length (puts_of es ++ Done ∷ []) ≡ length (puts_of es) + 1 = length-append (puts_of es) (Done ∷ []) in
    let outer : length (owners_of (runs_of owned) ++ (puts_of es ++ Done ∷ [])) ≡ length (owners_of (runs_of owned)) + length (puts_of es ++ Done ∷ []) = length-append (owners_of (runs_of owned)) (puts_of es ++ Done ∷ []) in
    omega arith
