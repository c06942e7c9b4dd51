-- The Owners of a batch are loaded, each in its place.
use Rattle.std.proofs.Common.{◌≡◌, ℕ, zero, suc, ◌+◌, ◌-◌, ◌<◌, ◌≤◌, ◌==◌, nat_le, nat_lt, Bool, true, false, cond, not, ◌&&◌, ◌||◌, inl, inr, List, [], ◌∷◌, ◌++◌, refl, sym, ap, ◌∙◌, arith}
use Rattle.std.specs.List.{filter}
use Rattle.std.proofs.lemmas.Bool.{and_from, or_left, or_right, eq-eqb, ne_eqb, eqb-true, lt-ltb, le-ltb, le-leb, lt-leb, cases_lt, cases_eq}
use Rattle.std.proofs.lemmas.List.Elements.{filter_agree}
use Rattle.nat_types.specs.declared.records.Record.{Record}
use Rattle.nat_types.specs.declared.records.Record.TheVariants.{Owner}
use Rattle.bindings.specs.declared.entries.PortBounds.{PortBounds}
use Rattle.bindings.specs.Ports.{in_either}
use Rattle.bindings.specs.Runs.{run_of, runs_on, port_at}
use Rattle.port_range.specs.Ports.{is_listed, is_within, RiseAbove}
use Rattle.resync.specs.Batch.{owners_of}
use Rattle.resync.specs.Loading.{Load, all_in, names_run, none_yet, with_run, where_}
use Rattle.resync.specs.Whole.{or_as_before, after_record, until_done, last_of}

-- so many ports from the first one on lie in the ranges, where each of them does
pub all-in : (z o : PortBounds) (first count : ℕ) → ((q : ℕ) → first ≤ q → q < first + count → in_either z o q ≡ true) → all_in z o first count ≡ true
all-in z o first zero h = refl
all-in z o first (suc count) h =
    and_from (in_either z o first) (all_in z o (first + 1) count) (h first (omega arith) (omega arith))
    (all-in z o (first + 1) count (λ q low high. h q (omega arith) (omega arith)))

pub filter-filter : {X : Type 0} (p q : X → Bool) (xs : List X) → filter p (filter q xs) ≡ filter (λ x. q x && p x) xs
filter-filter p q [] = refl
filter-filter p q (x ∷ xs) = at (q x) (filter-filter p q xs)
  where
    at : (b : Bool) → filter p (filter q xs) ≡ filter (λ x. q x && p x) xs → filter p (cond b (x ∷ filter q xs) (filter q xs)) ≡ cond (b && p x) (x ∷ filter (λ x. q x && p x) xs) (filter (λ x. q x && p x) xs)
    at true ih = ap (λ zs. cond (p x) (x ∷ zs) zs) ih
    at false ih = ih

or-none : (b : Bool) → (b || false) ≡ b
or-none true = refl
or-none false = refl

not-or : (a b : Bool) → (not a && not b) ≡ not (a || b)
not-or true b = refl
not-or false b = refl

or-or : (a b c : Bool) → ((a || b) || c) ≡ (a || (b || c))
or-or true b c = refl
or-or false b c = refl

-- a run with one port more at its end
within-more : (first last p q : ℕ) → p ≡ suc last → first ≤ last → is_within first p q ≡ (is_within first last q || (p == q))
within-more first last p q is order =
    elim (cases_lt q first) [
      | inl below ↦
          (ap (λ b. b && nat_le q p) (lt-leb first q below)
          ∙ sym (ap (λ b. (b && nat_le q last) || (p == q)) (lt-leb first q below) ∙ ne_eqb p q (λ e. absurd (omega arith))))
      | inr from ↦
          elim (cases_lt p q) [
            | inl above ↦
                (ap (λ b. nat_le first q && b) (lt-leb q p above) ∙ ap (λ b. b && false) (le-leb first q from)
                ∙ sym (ap (λ b. (nat_le first q && b) || (p == q)) (lt-leb q last (omega arith)) ∙ ap (λ b. (b && false) || (p == q)) (le-leb first q from) ∙ ne_eqb p q (λ e. absurd (omega arith))))
            | inr to ↦
                (ap (λ b. nat_le first q && b) (le-leb q p to) ∙ ap (λ b. b && true) (le-leb first q from)
                ∙ sym (elim (cases_eq p q) [
                  | inl same ↦ or_right (is_within first last q) (p == q) (eq-eqb p q same)
                  | inr other ↦ or_left (is_within first last q) (p == q) (and_from (nat_le first q) (nat_le q last) (le-leb first q from) (le-leb q last (omega (arith, other))))
                ]))
          ]
    ]

-- a run of one port has that port alone
pub within-one : (p q : ℕ) → is_within p p q ≡ (p == q)
within-one p q =
    elim (cases_eq p q) [
      | inl same ↦ and_from (nat_le p q) (nat_le q p) (le-leb p q (omega arith)) (le-leb q p (omega arith)) ∙ sym (eq-eqb p q same)
      | inr other ↦ elim (cases_lt p q) [
        | inl less ↦ ap (λ b. nat_le p q && b) (lt-leb q p less) ∙ ap (λ b. b && false) (le-leb p q (omega arith)) ∙ sym (ne_eqb p q other)
        | inr from ↦ ap (λ b. b && nat_le q p) (lt-leb p q (omega (arith, other))) ∙ sym (ne_eqb p q other)
      ]
    ]

-- the load once all runs were named: the one from first to last, and those of the ports after it
abbrev pub after_runs : Load → ℕ → ℕ → List ℕ → Load
after_runs l first last ps = record l { named = last_of last ps; owned = filter (λ q. not (is_within first last q || is_listed q ps)) l.owned }

named-in-place : (l : Load) (first last : ℕ) → l.begun ≡ true → none_yet l.entries ≡ true → l.named < first → first ≤ last
    → ((q : ℕ) → first ≤ q → q ≤ last → in_either l.zero l.one q ≡ true)
    → after_record l (Owner (port_at first) (port_at last)) ≡ with_run l first last
named-in-place l first last begun none above order within =
    let fits : all_in l.zero l.one first (last + 1 - first) ≡ true = all-in l.zero l.one first (last + 1 - first) (λ q low high. within q low (omega arith)) in
    let names : names_run l first last ≡ true =
    and_from (nat_lt l.named first) (not (nat_lt last first) && all_in l.zero l.one first (last + 1 - first)) (lt-ltb l.named first above)
    (ap (λ b. not b && all_in l.zero l.one first (last + 1 - first)) (le-ltb last first order) ∙ fits) in
    at (l.begun && (none_yet l.entries && names_run l first last)) (and_from l.begun (none_yet l.entries && names_run l first last) begun (and_from (none_yet l.entries) (names_run l first last) none names))
  where
    at : (b : Bool) → b ≡ true → (or_as_before l (where_ b (with_run l first last))) ≡ with_run l first last
    at true h = refl
    at false h = cc

-- naming a run that goes on by one port, and the runs after it
runs-longer : (l : Load) (first last p : ℕ) (ps : List ℕ) → p ≡ suc last → first ≤ last → after_runs l first p ps ≡ after_runs l first last (p ∷ ps)
runs-longer l first last p ps is order =
    ap (λ (owned : List ℕ). let m : Load = record l { named = last_of p ps; owned = owned } in m)
    (filter_agree (λ q. not (is_within first p q || is_listed q ps)) (λ q. not (is_within first last q || ((p == q) || is_listed q ps)))
    (λ q. ap (λ b. not (b || is_listed q ps)) (within-more first last p q is order) ∙ ap not (or-or (is_within first last q) (p == q) (is_listed q ps))) l.owned)

-- naming a run, and then the next ones
runs-next : (l : Load) (first last p : ℕ) (ps : List ℕ) → after_runs (with_run l first last) p p ps ≡ after_runs l first last (p ∷ ps)
runs-next l first last p ps =
    ap (λ (owned : List ℕ). let m : Load = record l { named = last_of p ps; owned = owned } in m)
    (filter-filter (λ q. not (is_within p p q || is_listed q ps)) (λ q. not (is_within first last q)) l.owned
    ∙ filter_agree (λ q. not (is_within first last q) && not (is_within p p q || is_listed q ps)) (λ q. not (is_within first last q || ((p == q) || is_listed q ps)))
    (λ q. not-or (is_within first last q) (is_within p p q || is_listed q ps) ∙ ap (λ b. not (is_within first last q || (b || is_listed q ps))) (within-one p q)) l.owned)

run-last : (l : Load) (first last : ℕ) → with_run l first last ≡ after_runs l first last []
run-last l first last =
    ap (λ (owned : List ℕ). let m : Load = record l { named = last; owned = owned } in m)
    (filter_agree (λ q. not (is_within first last q)) (λ q. not (is_within first last q || false)) (λ q. ap not (sym (or-none (is_within first last q)))) l.owned)

pub runs-load : (l : Load) (first last : ℕ) (ps : List ℕ) (tail : List Record) → l.begun ≡ true → none_yet l.entries ≡ true → l.named < first → first ≤ last
    → ((q : ℕ) → first ≤ q → q ≤ last → in_either l.zero l.one q ≡ true)
    → RiseAbove last ps → ((q : ℕ) → is_listed q ps ≡ true → in_either l.zero l.one q ≡ true)
    → until_done l (owners_of (runs_on first last ps) ++ tail) ≡ until_done (after_runs l first last ps) tail
runs-load l first last [] tail begun none above order within rises there =
    ap (λ (m : Load). until_done m tail) (named-in-place l first last begun none above order within ∙ run-last l first last)
runs-load l first last (p ∷ ps) tail begun none above order within rises there =
    at (p == suc last) refl
    (λ next more. runs-load l first p ps tail begun none above (omega arith) (longer next) rises.1 rest)
    (runs-load (with_run l first last) p p ps tail begun none up (omega arith) one rises.1 rest)
  where
    up : last < p
    up = rises.0

    inside : in_either l.zero l.one p ≡ true
    inside = there p (or_left (p == p) (is_listed p ps) (eq-eqb p p refl))

    rest : (q : ℕ) → is_listed q ps ≡ true → in_either l.zero l.one q ≡ true
    rest q h = there q (or_right (p == q) (is_listed q ps) h)

    longer : p ≡ suc last → (q : ℕ) → first ≤ q → q ≤ p → in_either l.zero l.one q ≡ true
    longer is q low high =
        elim (cases_eq p q) [
          | inl same ↦ ap (in_either l.zero l.one) (sym same) ∙ inside
          | inr other ↦ within q low (omega (arith, other))
        ]

    one : (q : ℕ) → p ≤ q → q ≤ p → in_either l.zero l.one q ≡ true
    one q low high = let same : q ≡ p = omega arith in ap (in_either l.zero l.one) same ∙ inside

    at : (b : Bool) → (p == suc last) ≡ b
        → ((next : p ≡ suc last) → first ≤ p → until_done l (owners_of (runs_on first p ps) ++ tail) ≡ until_done (after_runs l first p ps) tail)
        → until_done (with_run l first last) (owners_of (runs_on p p ps) ++ tail) ≡ until_done (after_runs (with_run l first last) p p ps) tail
        → until_done l (owners_of (cond b (runs_on first p ps) (run_of first last ∷ runs_on p p ps)) ++ tail) ≡ until_done (after_runs l first last (p ∷ ps)) tail
    at true is go on =
        let next : p ≡ suc last = eqb-true p (suc last) is in
        go next (omega arith)
        ∙ ap (λ (m : Load). until_done m tail) (runs-longer l first last p ps next order)
    at false is go on =
        ap (λ (m : Load). until_done m (owners_of (runs_on p p ps) ++ tail)) (named-in-place l first last begun none above order within)
        ∙ on
        ∙ ap (λ (m : Load). until_done m tail) (runs-next l first last p ps)
