-- The first run of the owned ports from one on, and the runs after it.
use Rattle.std.proofs.Common.{◌≡◌, ℕ, suc, ◌+◌, ◌-◌, ◌<◌, ◌≤◌, ◌==◌, nat_le, Bool, true, false, cond, ◌&&◌, Option, Some, None, ◌⊎◌, inl, inr, List, [], ◌∷◌, refl, sym, ap, ◌∙◌, subst, arith}
use Rattle.std.proofs.lemmas.Bool.{both_ways, cond-false, and_parts, or_cases, or_left, or_right, eq-eqb, eqb-true, leb-true, le-leb, lt-leb, cases_lt}
use Rattle.std.proofs.lemmas.List.Elements.{filter_agree}
use Rattle.bindings.specs.declared.entries.PortBounds.{PortBounds}
use Rattle.bindings.specs.Ports.{in_bounds}
use Rattle.bindings.specs.Runs.{run_of, runs_on, runs_of, ports_from_on, first_of, first_run}
use Rattle.bindings.specs.Table.{Table, IsTable}
use Rattle.bindings.proofs.Offered.{not-below, listed-filter, rise-filter, from-all, from-none}
use Rattle.link.specs.Grammar.{IsWellFormedRun}
use Rattle.port_range.specs.Ports.{is_listed, RiseAbove, AreRising}
use Rattle.resync.specs.Batch.{CanBeSent}
use Rattle.resync.specs.Cursor.{runs_from, ports_ahead}
use Rattle.addresses.specs.declared.transport.Port.{Port}
use Rattle.std.specs.Option.{IfSome, IfNone}
use Rattle.resync.proofs.Naming.{filter-filter}

pub listed-above : (low : ℕ) (xs : List ℕ) (q : ℕ) → RiseAbove low xs → is_listed q xs ≡ true → low < q
listed-above low xs q r h =
    elim (cases_lt low q) [
      | inl above ↦ above
      | inr below ↦ absurd (both_ways (is_listed q xs) (not-below low xs q r below) h)
    ]

from-from : (a b : ℕ) (xs : List ℕ) → b ≤ a → ports_from_on a (ports_from_on b xs) ≡ ports_from_on a xs
from-from a b xs le = filter-filter (nat_le a) (nat_le b) xs ∙ filter_agree (λ x. nat_le b x && nat_le a x) (nat_le a) at xs
  where
    at : (x : ℕ) → (nat_le b x && nat_le a x) ≡ nat_le a x
    at x =
        elim (cases_lt x a) [
          | inl below ↦ ap (λ c. nat_le b x && c) (lt-leb a x below) ∙ none (nat_le b x) ∙ sym (lt-leb a x below)
          | inr from ↦ ap (λ c. c && nat_le a x) (le-leb b x (omega arith))
        ]
      where
        none : (c : Bool) → (c && false) ≡ false
        none true = refl
        none false = refl

-- a run from first to last is the head of the runs of first and ps
record IsHead (first last : ℕ) (ps : List ℕ) : Type 0 where
  run : PortBounds
  is : runs_on first last ps ≡ run ∷ runs_of (ports_from_on (run.highest.0 + 1) ps)
  begins : run.lowest.0 ≡ first
  ends : last ≤ run.highest.0
  there : (run.highest.0 ≡ last) ⊎ (is_listed run.highest.0 ps ≡ true)

from-past : (a p : ℕ) (ps : List ℕ) → p < a → ports_from_on a (p ∷ ps) ≡ ports_from_on a ps
from-past a p ps h = cond-false (nat_le a p) (p ∷ ports_from_on a ps) (ports_from_on a ps) (lt-leb a p h)

head : (first last : ℕ) (ps : List ℕ) → RiseAbove last ps → IsHead first last ps
head first last [] r = record { run = run_of first last; is = refl; begins = refl; ends = omega arith; there = inl refl }
head first last (p ∷ ps) r = at (p == suc last) refl (head first p ps r.1)
  where
    longer : (h : ℕ) → (h ≡ p) ⊎ (is_listed h ps ≡ true) → (h ≡ last) ⊎ (is_listed h (p ∷ ps) ≡ true)
    longer h there = elim there [
      | inl same ↦ inr (or_left (p == h) (is_listed h ps) (eq-eqb p h (sym same)))
      | inr more ↦ inr (or_right (p == h) (is_listed h ps) more)
    ]

    at : (b : Bool) → (p == suc last) ≡ b → IsHead first p ps → IsHead first last (p ∷ ps)
    at true is ih =
        let next : p ≡ suc last = eqb-true p (suc last) is in
        let past : p ≤ ih.run.highest.0 = ih.ends in
        record {
          run = ih.run;
          is =
              ap (λ b. cond b (runs_on first p ps) (run_of first last ∷ runs_on p p ps)) is ∙ ih.is
              ∙ ap (λ qs. ih.run ∷ runs_of qs) (sym (from-past (ih.run.highest.0 + 1) p ps (omega arith)));
          begins = ih.begins;
          ends = omega arith;
          there = longer ih.run.highest.0 ih.there;
        }
    at false is ih = record {
      run = run_of first last;
      is =
          ap (λ b. cond b (runs_on first p ps) (run_of first last ∷ runs_on p p ps)) is
          ∙ ap (λ qs. run_of first last ∷ runs_of qs) (sym (from-all (last + 1) (p ∷ ps) (λ q h. let up : last < q = listed-above last (p ∷ ps) q r h in omega arith)));
      begins = refl;
      ends = omega arith;
      there = inl refl;
    }

-- run is the first run of the ports from a port on, and what follows it
pub record IsNext (from : ℕ) (ports : List ℕ) (run : PortBounds) : Type 0 where
  pub is : runs_of (ports_from_on from ports) ≡ run ∷ runs_of (ports_from_on (run.highest.0 + 1) ports)
  pub low : from ≤ run.lowest.0
  pub order : run.lowest.0 ≤ run.highest.0
  pub first : is_listed run.lowest.0 ports ≡ true
  pub last : is_listed run.highest.0 ports ≡ true

rise-from : (low from : ℕ) (xs : List ℕ) → RiseAbove low xs → RiseAbove low (ports_from_on from xs)
rise-from low from xs r = rise-filter low (nat_le from) xs r

same-run : (r s : PortBounds) (rs : List PortBounds) (all : List PortBounds) → all ≡ s ∷ rs → first_of all ≡ Some r → s ≡ r
same-run r s rs all is h = cc (ap first_of is)

pub next-run : (from : ℕ) (ports : List ℕ) (run : PortBounds) → AreRising ports → first_run from ports ≡ Some run → IsNext from ports run
next-run from ports run rises h = at (ports_from_on from ports) refl h (rise-from 0 from ports rises)
  where
    at : (ys : List ℕ) → ports_from_on from ports ≡ ys → first_of (runs_of ys) ≡ Some run → RiseAbove 0 ys → IsNext from ports run
    at [] is h r = cc
    at (p ∷ ps) is h r =
        let begun : IsHead p p ps = head p p ps r.1 in
        let same : begun.run ≡ run = same-run run begun.run (runs_of (ports_from_on (begun.run.highest.0 + 1) ps)) (runs_on p p ps) begun.is h in
        subst (λ (x : PortBounds). IsNext from ports x) same (whole begun)
      where
        here : (q : ℕ) → is_listed q (p ∷ ps) ≡ true → (nat_le from q ≡ true) × (is_listed q ports ≡ true)
        here q there = and_parts (nat_le from q) (is_listed q ports) (sym (listed-filter (nat_le from) ports q) ∙ ap (is_listed q) is ∙ there)

        whole : (b : IsHead p p ps) → IsNext from ports b.run
        whole b =
            let first = here p (or_left (p == p) (is_listed p ps) (eq-eqb p p refl)) in
            let low : from ≤ p = leb-true from p first.0 in
            let high : p ≤ b.run.highest.0 = b.ends in
            let begins : b.run.lowest.0 ≡ p = b.begins in
            record {
              is =
                  ap runs_of is ∙ b.is
                  ∙ ap (λ qs. b.run ∷ runs_of qs)
                  (sym (from-past (b.run.highest.0 + 1) p ps (omega arith)) ∙ ap (ports_from_on (b.run.highest.0 + 1)) (sym is)
                  ∙ from-from (b.run.highest.0 + 1) from ports (omega arith));
              low = omega arith;
              order = omega arith;
              first = ap (λ q. is_listed q ports) begins ∙ first.1;
              last = (here b.run.highest.0 (ends b.run.highest.0 b.there)).1;
            }
          where
            ends : (h : ℕ) → (h ≡ p) ⊎ (is_listed h ps ≡ true) → is_listed h (p ∷ ps) ≡ true
            ends h there = elim there [
              | inl same ↦ or_left (p == h) (is_listed h ps) (eq-eqb p h (sym same))
              | inr more ↦ or_right (p == h) (is_listed h ps) more
            ]

runs-empty : (first last : ℕ) (ps : List ℕ) → runs_on first last ps ≡ [] → ⊥
runs-empty first last [] h = cc
runs-empty first last (p ∷ ps) h = at (p == suc last) h (runs-empty first p ps)
  where
    at : (b : Bool) → cond b (runs_on first p ps) (run_of first last ∷ runs_on p p ps) ≡ [] → (runs_on first p ps ≡ [] → ⊥) → ⊥
    at true h ih = ih h
    at false h ih = cc

first-none : (rs : List PortBounds) → first_of rs ≡ None → rs ≡ []
first-none [] h = refl
first-none (r ∷ rs) h = cc

-- where no run is found, none is left
pub no-run : (from : ℕ) (ports : List ℕ) → first_run from ports ≡ None → runs_of (ports_from_on from ports) ≡ []
no-run from ports h = first-none (runs_of (ports_from_on from ports)) h

-- an owned port of a table that can be sent is from 1 to 65535
pub owned-small : (t : Table) (q : ℕ) → IsTable t → CanBeSent t → is_listed q t.owned ≡ true → (0 < q) × (q < 65536)
owned-small t q is sent h = (listed-above 0 t.owned q is.rising h, small)
  where
    within : (b : PortBounds) → b.highest.0 < 65536 → in_bounds b q ≡ true → q < 65536
    within b high inside =
        let le : q ≤ b.highest.0 = leb-true q b.highest.0 (and_parts (nat_le b.lowest.0 q) (nat_le q b.highest.0) inside).1 in
        omega arith

    small : q < 65536
    small = elim (or_cases (in_bounds t.zero q) (in_bounds t.one q) (is.owned q h)) [
      | inl a ↦ within t.zero sent.highest.0.1 a
      | inr b ↦ within t.one sent.highest.1.1 b
    ]

pub run-formed : (t : Table) (from : ℕ) (run : PortBounds) → IsTable t → CanBeSent t → IsNext from t.owned run → IsWellFormedRun run.lowest run.highest
run-formed t from run is sent next = record {
  first = owned-small t run.lowest.0 is sent next.first;
  last = owned-small t run.highest.0 is sent next.last;
  order = next.order;
}

-- after the highest port there is no run
pub none-ahead : (t : Table) (n : ℕ) → IsTable t → CanBeSent t → n ≡ 65535 → runs_of (ports_from_on (n + 1) t.owned) ≡ []
none-ahead t n is sent top = ap runs_of (from-none (n + 1) t.owned (λ q h. let small = owned-small t q is sent h in omega arith))

pub all-ahead : (ports : List ℕ) → ports_from_on 0 ports ≡ ports
all-ahead ports = from-all 0 ports (λ q h. omega arith)

-- the runs after a run are those from the next port on, or none
pub ahead : (t : Table) (h : Port) (r : Option Port) → IsTable t → CanBeSent t → IfSome r (λ p. p.0 ≡ h.0 + 1) → IfNone r (h.0 ≡ 65535) → runs_from r t.owned ≡ runs_of (ports_from_on (h.0 + 1) t.owned)
ahead t h None is sent some none = sym (none-ahead t h.0 is sent none)
ahead t h (Some p) is sent some none = ap (λ (n : ℕ). runs_of (ports_from_on n t.owned)) some

pub ahead-less : (port h : Port) (r : Option Port) → port.0 ≤ h.0 → h.0 < 65536 → IfSome r (λ p. p.0 ≡ h.0 + 1) → IfNone r (h.0 ≡ 65535) → ports_ahead r < 65536 - port.0
ahead-less port h None le small some none = omega arith
ahead-less port h (Some p) le small some none = omega arith
