-- The unbroken runs of the owned ports, as the machine's runs.
use Rattle.std.proofs.Common.{◌≡◌, ℕ, suc, ◌<◌, ◌≤◌, Bool, true, false, cond, not, ◌&&◌, ◌||◌, ◌==◌, nat_lt, IsTrue, inl, inr, List, [], ◌∷◌, map, refl, sym, ap, subst, ◌∙◌, arith}
use Rattle.std.proofs.lemmas.Bool.{and_parts, eqb-true, eq-eqb, le-ltb, ltb-false, not-true, or_cases, or_left, or_right, cases_eq}
use Rattle.bindings.specs.declared.entries.PortBounds.{PortBounds}
use Rattle.bindings.specs.Runs.{run_of, runs_on, runs_of}
use Rattle.port_range.specs.Ports.{is_listed, RiseAbove, AreRising as Rising}
use Rattle.spec_pair.specs.Ownership.{has, in_run, in_runs, Run, AreRising}
use Rattle.spec_binding.proofs.Members.{has-listed}

abbrev pub machine_run : PortBounds → Run
machine_run r = record { first = r.lowest.0; last = r.highest.0 }

-- the machine's runs for a list of ranges
abbrev pub machine_runs : List PortBounds → List Run
machine_runs rs = map machine_run rs

-- ---- runs

in-run-is : (a b p : ℕ) → a ≤ p → p ≤ b → in_run a b p ≡ true
in-run-is a b p h g = ap (λ x. not x && not (nat_lt b p)) (le-ltb p a h) ∙ ap (λ x. not x) (le-ltb b p g)

bounds : (a b p : ℕ) → in_run a b p ≡ true → (a ≤ p) × (p ≤ b)
bounds a b p h =
    let parts : (not (nat_lt p a) ≡ true) × (not (nat_lt b p) ≡ true) = and_parts (not (nat_lt p a)) (not (nat_lt b p)) h in
    (ltb-false p a (not-true (nat_lt p a) parts.0), ltb-false b p (not-true (nat_lt b p) parts.1))

same-bool : (a b : Bool) → (a ≡ true → b ≡ true) → (b ≡ true → a ≡ true) → a ≡ b
same-bool true true f g = refl
same-bool true false f g = sym (f refl)
same-bool false true f g = g refl
same-bool false false f g = refl

-- a run that grows by the next port has that port more
grows : (first last p : ℕ) → first ≤ last → in_run first (suc last) p ≡ (in_run first last p || (p == suc last))
grows first last p le = same-bool _ _ there back
  where
    there : in_run first (suc last) p ≡ true → (in_run first last p || (p == suc last)) ≡ true
    there h =
        let b = bounds first (suc last) p h in
        let low = b.0 in
        let high = b.1 in
        elim (cases_eq p (suc last)) [
          | inl e ↦ or_right (in_run first last p) (p == suc last) (eq-eqb p (suc last) e)
          | inr n ↦ or_left (in_run first last p) (p == suc last) (in-run-is first last p low (under p last high n))
        ]
      where
        under : (a b : ℕ) → a ≤ suc b → (a ≡ suc b → ⊥) → a ≤ b
        under a b h n = omega (arith, h, n)

    back : (in_run first last p || (p == suc last)) ≡ true → in_run first (suc last) p ≡ true
    back h = elim (or_cases (in_run first last p) (p == suc last) h) [
      | inl i ↦ (let b = bounds first last p i in let low = b.0 in let high = b.1 in in-run-is first (suc last) p low (omega (arith, high)))
      | inr s ↦ (let e = eqb-true p (suc last) s in in-run-is first (suc last) p (omega (arith, e, le)) (omega (arith, e)))
    ]

single : (q p : ℕ) → in_run q q p ≡ (p == q)
single q p = same-bool _ _
    (λ h. let b = bounds q q p h in let low = b.0 in let high = b.1 in eq-eqb p q (omega (arith, low, high)))
    (λ h. let e = eqb-true p q h in in-run-is q q p (omega (arith, e)) (omega (arith, e)))

or-cond : (a b c : Bool) → ((a || b) || c) ≡ (a || cond b true c)
or-cond true b c = refl
or-cond false true c = refl
or-cond false false c = refl

runs-name : (p first last : ℕ) (ps : List ℕ) → first ≤ last → in_runs p (machine_runs (runs_on first last ps)) ≡ (in_run first last p || has p ps)
runs-name p first last [] le = refl
runs-name p first last (q ∷ qs) le = at (q == suc last) refl (λ f h. runs-name p f q qs h)
  where
    at : (b : Bool) → (q == suc last) ≡ b → ((f : ℕ) → f ≤ q → in_runs p (machine_runs (runs_on f q qs)) ≡ (in_run f q p || has p qs)) → in_runs p (machine_runs (let rs : List PortBounds = cond b (runs_on first q qs) (run_of first last ∷ runs_on q q qs) in rs)) ≡ (in_run first last p || cond (p == q) true (has p qs))
    at true next ih =
        let e = eqb-true q (suc last) next in
        ih first (omega (arith, e, le))
        ∙ ap (λ (b : Bool). b || has p qs) (ap (λ (z : ℕ). in_run first z p) e ∙ grows first last p le ∙ ap (λ (z : ℕ). in_run first last p || (p == z)) (sym e))
        ∙ or-cond (in_run first last p) (p == q) (has p qs)
    at false gap ih =
        ap (λ (b : Bool). in_run first last p || b) (ih q (omega arith) ∙ ap (λ (b : Bool). b || has p qs) (single q p) ∙ or-cond false (p == q) (has p qs))

-- the runs name exactly the owned ports
runs-have : (owned : List ℕ) (p : ℕ) → in_runs p (machine_runs (runs_of owned)) ≡ has p owned
runs-have [] p = refl
runs-have (q ∷ qs) p = runs-name p q q qs (omega arith) ∙ ap (λ (b : Bool). b || has p qs) (single q p) ∙ or-cond false (p == q) (has p qs)

runs-rise : (ranges : ℕ → Bool) (low first last : ℕ) (ps : List ℕ) → low < first → first ≤ last → RiseAbove last ps
    → ((p : ℕ) → first ≤ p → p ≤ last → IsTrue (ranges p)) → ((p : ℕ) → has p ps ≡ true → IsTrue (ranges p)) → AreRising ranges low (machine_runs (runs_on first last ps))
runs-rise ranges low first last [] less le rise inside more = ((less, le, inside), tt)
runs-rise ranges low first last (q ∷ qs) less le rise inside more = at (q == suc last) refl (λ l f a b i m. runs-rise ranges l f q qs a b rise.1 i m)
  where
    first-in : has q (q ∷ qs) ≡ true
    first-in = ap (λ (b : Bool). cond b true (has q qs)) (eq-eqb q q refl)

    rest-in : (p : ℕ) → has p qs ≡ true → has p (q ∷ qs) ≡ true
    rest-in p h = put (p == q) h
      where
        put : (b : Bool) → has p qs ≡ true → cond b true (has p qs) ≡ true
        put true h = refl
        put false h = h

    at : (b : Bool) → (q == suc last) ≡ b
        → ((l f : ℕ) → l < f → f ≤ q → ((p : ℕ) → f ≤ p → p ≤ q → IsTrue (ranges p)) → ((p : ℕ) → has p qs ≡ true → IsTrue (ranges p)) → AreRising ranges l (machine_runs (runs_on f q qs)))
        → AreRising ranges low (machine_runs (let rs : List PortBounds = cond b (runs_on first q qs) (run_of first last ∷ runs_on q q qs) in rs))
    at true next ih =
        let e = eqb-true q (suc last) next in
        ih low first less (omega (arith, e, le))
        (λ p low2 high. elim (cases_eq p q) [
          | inl s ↦ subst (λ (z : ℕ). IsTrue (ranges z)) (sym s) (more q first-in)
          | inr n ↦ inside p low2 (under p q last high e n)
        ])
        (λ p h. more p (rest-in p h))
      where
        under : (a b c : ℕ) → a ≤ b → b ≡ suc c → (a ≡ b → ⊥) → a ≤ c
        under a b c h e n = omega (arith, h, e, n)
    at false gap ih = (
      (less, le, inside),
      ih last q rise.0 (omega arith)
          (λ p low2 high. let same : q ≡ p = omega (arith, low2, high) in subst (λ (z : ℕ). IsTrue (ranges z)) same (more q first-in))
          (λ p h. more p (rest-in p h)),
    )

-- the runs rise, within the ranges
runs-rise-all : (ranges : ℕ → Bool) (owned : List ℕ) → RiseAbove 0 owned → ((p : ℕ) → has p owned ≡ true → IsTrue (ranges p)) → AreRising ranges 0 (machine_runs (runs_of owned))
runs-rise-all ranges [] rise inside = tt
runs-rise-all ranges (q ∷ qs) rise inside = runs-rise ranges 0 q q qs rise.0 (omega arith) rise.1
    (λ p low high. let same : q ≡ p = omega (arith, low, high) in subst (λ (z : ℕ). IsTrue (ranges z)) same (inside q (ap (λ (b : Bool). cond b true (has q qs)) (eq-eqb q q refl))))
    (λ p h. inside p (put p (p == q) h))
  where
    put : (p : ℕ) (b : Bool) → has p qs ≡ true → cond b true (has p qs) ≡ true
    put p true h = refl
    put p false h = h

-- the runs name exactly the ports that a book owns
pub runs-owned : (owned : List ℕ) (p : ℕ) → in_runs p (machine_runs (runs_of owned)) ≡ is_listed p owned
runs-owned owned p = runs-have owned p ∙ has-listed p owned

pub runs-rising : (ranges : ℕ → Bool) (owned : List ℕ) → Rising owned → ((p : ℕ) → is_listed p owned ≡ true → IsTrue (ranges p)) → AreRising ranges 0 (machine_runs (runs_of owned))
runs-rising ranges owned rise inside = runs-rise-all ranges owned rise (λ p h. inside p (sym (has-listed p owned) ∙ h))
