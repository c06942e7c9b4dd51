-- The checker's answer on a trace and two tables is the only one that its contract allows.
use Rattle.std.proofs.Common.{◌≡◌, ℕ, ◌-◌, ◌≤◌, inl, inr, List, [], ◌∷◌, ◌++◌, drop, take, reverse, refl, sym, ap, subst, ◌∙◌, arith}
use Rattle.std.proofs.lemmas.Bool.{cases_order}
use Rattle.std.proofs.lemmas.List.{take-take, take-append-drop, reverse-append}
use Rattle.nat_types.specs.declared.pairs.Pair.{Pair}
use Rattle.nat_types.specs.declared.notes.Note.{Note}
use Rattle.spec_trace.specs.declared.checker.AuditFault.{AuditFault}
use Rattle.spec_trace.specs.declared.checker.AuditFault.TheVariants.{NoMemory, NotFits, NotKept, NotSilent}
use Rattle.spec_trace.specs.Past as past
use Rattle.spec_trace.specs.Trace.{Silent, Kept}
use Rattle.spec_trace.specs.Audit.{ListsHold, FitsUnlessAlone, FirstNotSilent, FirstNotFits, FaultSays, IsFound}

port_end : (xs ys : List Note) → past.OnePort (xs ++ ys) → past.OnePort ys
port_end [] ys f = f
port_end (x ∷ xs) ys f = port_end xs ys f.1

endpoint_end : (xs ys : List Note) → past.OneEndpoint (xs ++ ys) → past.OneEndpoint ys
endpoint_end [] ys f = f
endpoint_end (x ∷ xs) ys f = endpoint_end xs ys f.1

silent_end : (xs ys : List Note) → past.Silent (xs ++ ys) → past.Silent ys
silent_end [] ys s = s
silent_end (x ∷ xs) ys s = silent_end xs ys s.1

parts : (k : ℕ) (xs : List Note) → reverse xs ≡ reverse (drop k xs) ++ reverse (take k xs)
parts k xs = ap reverse (sym (take-append-drop k xs)) ∙ reverse-append (take k xs) (drop k xs)

-- the beginning of a trace that fits, fits
fits_first : (k : ℕ) (xs : List Note) → FitsUnlessAlone xs → FitsUnlessAlone (take k xs)
fits_first k xs f = (
  port_end (reverse (drop k xs)) (reverse (take k xs)) (subst past.OnePort (parts k xs) f.0),
  endpoint_end (reverse (drop k xs)) (reverse (take k xs)) (subst past.OneEndpoint (parts k xs) f.1),
)

silent_first : (k : ℕ) (xs : List Note) → Silent xs → Silent (take k xs)
silent_first k xs s = silent_end (reverse (drop k xs)) (reverse (take k xs)) (subst past.Silent (parts k xs) s)

fits_sooner : (xs : List Note) (k j : ℕ) → k ≤ j → FitsUnlessAlone (take j xs) → FitsUnlessAlone (take k xs)
fits_sooner xs k j le f = subst FitsUnlessAlone (take-take k j xs le) (fits_first k (take j xs) f)

silent_sooner : (xs : List Note) (k j : ℕ) → k ≤ j → Silent (take j xs) → Silent (take k xs)
silent_sooner xs k j le s = subst Silent (take-take k j xs le) (silent_first k (take j xs) s)

unfit_unfit : (xs : List Note) (a b : ℕ) → FirstNotFits xs a → FirstNotFits xs b → a ≡ b
unfit_unfit xs a b f g = elim (cases_order a b) [
  | inl e ↦ e
  | inr d ↦ elim d [
    | inl lt ↦ let le : a ≤ b - 1 = omega arith in absurd (f.2 (fits_sooner xs a (b - 1) le g.0))
    | inr gt ↦ let le : b ≤ a - 1 = omega arith in absurd (g.2 (fits_sooner xs b (a - 1) le f.0))
  ]
]

loud_loud : (xs : List Note) (a b : ℕ) → FirstNotSilent xs a → FirstNotSilent xs b → a ≡ b
loud_loud xs a b f g = elim (cases_order a b) [
  | inl e ↦ e
  | inr d ↦ elim d [
    | inl lt ↦ let le : a ≤ b - 1 = omega arith in absurd (f.2 (silent_sooner xs a (b - 1) le g.1))
    | inr gt ↦ let le : b ≤ a - 1 = omega arith in absurd (g.2 (silent_sooner xs b (a - 1) le f.1))
  ]
]

unfit_loud : (xs : List Note) (a b : ℕ) → FirstNotFits xs a → FirstNotSilent xs b → ⊥
unfit_loud xs a b f g = elim (cases_order a b) [
  | inl e ↦ g.2 (subst (λ k. Silent (take k xs)) e f.1)
  | inr d ↦ elim d [
    | inl lt ↦ let le : a ≤ b - 1 = omega arith in f.2 (fits_sooner xs a (b - 1) le g.0)
    | inr gt ↦ let le : b ≤ a = omega arith in g.2 (silent_sooner xs b a le f.1)
  ]
]

-- no two faults are found of one trace and its tables
pub one_fault : (xs : List Note) (zero one : List Pair) (f g : AuditFault) → IsFound f → IsFound g → FaultSays xs zero one f → FaultSays xs zero one g → f ≡ g
one_fault xs z o NoMemory g fo go f h = absurd fo
one_fault xs z o (NotFits a) NoMemory fo go f h = absurd go
one_fault xs z o (NotFits a) (NotFits b) fo go f h = ap (λ x. NotFits x) (unfit_unfit xs a b f h)
one_fault xs z o (NotFits a) NotKept fo go f h = absurd (f.2 (fits_first a xs h.0))
one_fault xs z o (NotFits a) (NotSilent b) fo go f h = absurd (unfit_loud xs a b f h)
one_fault xs z o NotKept NoMemory fo go f h = absurd go
one_fault xs z o NotKept (NotFits b) fo go f h = absurd (h.2 (fits_first b xs f.0))
one_fault xs z o NotKept NotKept fo go f h = refl
one_fault xs z o NotKept (NotSilent b) fo go f h = absurd (h.2 (silent_first b xs f.1))
one_fault xs z o (NotSilent a) NoMemory fo go f h = absurd go
one_fault xs z o (NotSilent a) (NotFits b) fo go f h = absurd (unfit_loud xs b a h f)
one_fault xs z o (NotSilent a) NotKept fo go f h = absurd (f.2 (silent_first a xs h.1))
one_fault xs z o (NotSilent a) (NotSilent b) fo go f h = ap (λ x. NotSilent x) (loud_loud xs a b f h)

-- no fault can be said where the trace fits and is silent and the tables are kept
pub no_fault : (xs : List Note) (zero one : List Pair) (f : AuditFault) → FitsUnlessAlone xs → Silent xs → Kept (ListsHold zero one) xs → IsFound f → FaultSays xs zero one f → ⊥
no_fault xs z o NoMemory fits silent kept fo f = fo
no_fault xs z o (NotFits a) fits silent kept fo f = f.2 (fits_first a xs fits)
no_fault xs z o NotKept fits silent kept fo f = f.2 kept
no_fault xs z o (NotSilent a) fits silent kept fo f = f.2 (silent_first a xs silent)
