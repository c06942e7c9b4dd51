-- What the links of a chain say of its slots.
use Rattle.std.proofs.Common.{◌≡◌, ℕ, ◌+◌, ◌<◌, ◌≤◌, Bool, true, false, cond, Option, Some, None, inl, inr, List, [], ◌∷◌, eqb, refl, sym, ap, ◌∙◌, subst, arith}
use Rattle.std.proofs.lemmas.Bool.{cond-true, cond-false, eqb-true, eq-eqb, cases_Bool}
use Rattle.std.proofs.lemmas.Option.{same_Some, none-some}
use Rattle.timers.specs.declared.links.Links.{Links}
use Rattle.timers.specs.Chains.{links_of, times, Leads}
use Rattle.timers.specs.Steps.{without}

-- a link that leads past a slot, to the one after it
abbrev pub around : ℕ → Option ℕ → Option ℕ → Option ℕ
around slot to None = None
around slot to (Some other) = cond (eqb other slot) to (Some other)

-- the links lead past a slot
pub record Bypassed (old new : List Links) (slot : ℕ) (chain : List ℕ) : Type 0 where
  pub next : (t : ℕ) → 0 < times t chain → eqb t slot ≡ false → (links_of new t).next ≡ around slot (links_of old slot).next (links_of old t).next
  pub previous : (t : ℕ) → 0 < times t chain → eqb t slot ≡ false → (links_of new t).previous ≡ around slot (links_of old slot).previous (links_of old t).previous

-- a slot that a chain doesn't have is neither its first slot nor in its rest
pub front : (b : Bool) (n : ℕ) → cond b 1 0 + n ≡ 0 → (b ≡ false) × (n ≡ 0)
front true n h = absurd (omega arith)
front false n h = (refl, omega arith)

pub absent : (slot x : ℕ) (rest : List ℕ) → times slot (x ∷ rest) ≡ 0 → (eqb x slot ≡ false) × (times slot rest ≡ 0)
absent slot x rest h = front (eqb x slot) (times slot rest) h

pub behind : (slot x : ℕ) (rest : List ℕ) → eqb x slot ≡ false → 0 < times slot (x ∷ rest) → 0 < times slot rest
behind slot x rest ne h = omega (arith, cond-false {A = ℕ} (eqb x slot) 1 0 ne)

pub here : (x : ℕ) (rest : List ℕ) → 0 < times x (x ∷ rest)
here x rest = omega (arith, cond-true {A = ℕ} (eqb x x) 1 0 (eq-eqb x x refl))

pub later : (slot x : ℕ) (rest : List ℕ) → 0 < times slot rest → 0 < times slot (x ∷ rest)
later slot x rest h = omega arith

tail_bypassed : (old new : List Links) (slot x : ℕ) (rest : List ℕ) → Bypassed old new slot (x ∷ rest) → Bypassed old new slot rest
tail_bypassed old new slot x rest b = record {
  next = λ t h ne. b.next t (later t x rest h) ne;
  previous = λ t h ne. b.previous t (later t x rest h) ne;
}

-- a chain without the slot doesn't begin with it
begins_elsewhere : (links : List Links) (previous at : Option ℕ) (slot : ℕ) (to : Option ℕ) (chain : List ℕ) → Leads links previous at chain → times slot chain ≡ 0 → around slot to at ≡ at
unfolding Leads
begins_elsewhere links previous at slot to [] h none = ap (around slot to) h ∙ sym h
begins_elsewhere links previous at slot to (x ∷ rest) h none =
    ap (around slot to) h.0 ∙ cond-false (eqb x slot) to (Some x) (absent slot x rest none).0 ∙ sym h.0

-- after the slot the links lead on as before, and back past it
pub leads_on : (old new : List Links) (slot : ℕ) (previous at : Option ℕ) (chain : List ℕ) → Leads old previous at chain → times slot chain ≡ 0 → Bypassed old new slot chain → Leads new (around slot (links_of old slot).previous previous) at chain
unfolding Leads
leads_on old new slot previous at [] h none b = h
leads_on old new slot previous at (x ∷ rest) h none b =
    let ne = (absent slot x rest none).0 in
    let gone = (absent slot x rest none).1 in
    let q = (links_of old slot).previous in
    let on = leads_on old new slot (Some x) (links_of old x).next rest h.2 gone (tail_bypassed old new slot x rest b) in
    let same = begins_elsewhere old (Some x) (links_of old x).next slot (links_of old slot).next rest h.2 gone in
    let P : Option ℕ → Type 0 = λ p. Leads new p (links_of old x).next rest in
    let Q : Option ℕ → Type 0 = λ a. Leads new (Some x) a rest in (
      h.0,
      b.previous x (here x rest) ne ∙ ap (around slot q) h.1,
      subst Q (sym (b.next x (here x rest) ne ∙ same)) (subst P (cond-false (eqb x slot) q (Some x) ne) on),
    )

-- a chain that doesn't have the slot is the chain without it
pub without_none : (slot : ℕ) (chain : List ℕ) → times slot chain ≡ 0 → without slot chain ≡ chain
without_none slot [] h = refl
without_none slot (x ∷ rest) h =
    cond-false (eqb x slot) (without slot rest) (x ∷ without slot rest) (absent slot x rest h).0 ∙ ap (λ ys. x ∷ ys) (without_none slot rest (absent slot x rest h).1)

-- links that lead past a slot lead through its chain without it
pub leads_without : (old new : List Links) (slot : ℕ) (previous at : Option ℕ) (chain : List ℕ) → Leads old previous at chain → times slot chain ≤ 1 → around slot (links_of old slot).previous previous ≡ previous → Bypassed old new slot chain → Leads new previous (around slot (links_of old slot).next at) (without slot chain)
unfolding Leads
leads_without old new slot previous at [] h few outside b = ap (around slot (links_of old slot).next) h
leads_without old new slot previous at (x ∷ rest) h few outside b =
    let n = (links_of old slot).next in
    let q = (links_of old slot).previous in
    let more = tail_bypassed old new slot x rest b in
    elim (cases_Bool (eqb x slot)) [
      | inl is ↦ (
          let same = eqb-true x slot is in
          let gone : times slot rest ≡ 0 = omega (arith, cond-true {A = ℕ} (eqb x slot) 1 0 is) in
          let led : around slot n at ≡ n = ap (around slot n) h.0 ∙ cond-true (eqb x slot) n (Some x) is in
          let left : without slot (x ∷ rest) ≡ rest = cond-true (eqb x slot) (without slot rest) (x ∷ without slot rest) is ∙ without_none slot rest gone in
          let back : around slot q (Some x) ≡ previous = cond-true (eqb x slot) q (Some x) is ∙ ap (λ s. (links_of old s).previous) (sym same) ∙ h.1 in
          let next : (links_of old x).next ≡ n = ap (λ s. (links_of old s).next) same in
          let on = leads_on old new slot (Some x) (links_of old x).next rest h.2 gone more in
          let P : Option ℕ → Type 0 = λ p. Leads new p (links_of old x).next rest in
          let Q : Option ℕ → Type 0 = λ a. Leads new previous a rest in
          let R : Option ℕ → Type 0 = λ a. Leads new previous a (without slot (x ∷ rest)) in
          let S : List ℕ → Type 0 = λ ys. Leads new previous n ys in
          subst R (sym led) (subst S (sym left) (subst Q next (subst P back on)))
          )
      | inr not ↦ (
          let fewer : times slot rest ≤ 1 = omega arith in
          let led : around slot n at ≡ Some x = ap (around slot n) h.0 ∙ cond-false (eqb x slot) n (Some x) not in
          let left : without slot (x ∷ rest) ≡ x ∷ without slot rest = cond-false (eqb x slot) (without slot rest) (x ∷ without slot rest) not in
          let on = leads_without old new slot (Some x) (links_of old x).next rest h.2 fewer (cond-false (eqb x slot) q (Some x) not) more in
          let P : Option ℕ → Type 0 = λ a. Leads new (Some x) a (without slot rest) in
          let S : List ℕ → Type 0 = λ ys. Leads new previous (around slot n at) ys in
          let whole : Leads new previous (around slot n at) (x ∷ without slot rest) = (led, b.previous x (here x rest) not ∙ ap (around slot q) h.1 ∙ outside, subst P (sym (b.next x (here x rest) not)) on) in
          subst S (sym left) whole
          )
    ]

answered_first : (links : List Links) (x u : ℕ) (rest : List ℕ) → Leads links (Some x) (links_of links x).next rest → (links_of links x).next ≡ Some u → (links_of links u).previous ≡ Some x
unfolding Leads
answered_first links x u [] h is = absurd (none-some u (sym h ∙ is))
answered_first links x u (y ∷ rest) h is = ap (λ s. (links_of links s).previous) (same_Some u y (sym is ∙ h.0)) ∙ h.1

-- where a slot's link leads to a next slot, that slot's link leads back
pub answered : (links : List Links) (previous at : Option ℕ) (chain : List ℕ) (t u : ℕ) → Leads links previous at chain → 0 < times t chain → (links_of links t).next ≡ Some u → (links_of links u).previous ≡ Some t
unfolding Leads
answered links previous at [] t u h has is = absurd (omega arith)
answered links previous at (x ∷ rest) t u h has is =
    elim (cases_Bool (eqb x t)) [
      | inl same ↦ (let e = eqb-true x t same in answered_first links x u rest h.2 (ap (λ s. (links_of links s).next) e ∙ is) ∙ ap (λ s. Some s) e)
      | inr other ↦ answered links (Some x) (links_of links x).next rest t u h.2 (behind t x rest other has) is
    ]

-- where a slot's link leads to a previous slot, that slot's link leads on to it
pub from_before : (links : List Links) (previous at : Option ℕ) (chain : List ℕ) (t u : ℕ) → Leads links previous at chain → ((v : ℕ) → previous ≡ Some v → (links_of links v).next ≡ at) → 0 < times t chain → (links_of links t).previous ≡ Some u → (links_of links u).next ≡ Some t
unfolding Leads
from_before links previous at [] t u h outside has is = absurd (omega arith)
from_before links previous at (x ∷ rest) t u h outside has is =
    elim (cases_Bool (eqb x t)) [
      | inl same ↦ (let e = eqb-true x t same in outside u (sym h.1 ∙ ap (λ s. (links_of links s).previous) e ∙ is) ∙ h.0 ∙ ap (λ s. Some s) e)
      | inr other ↦ from_before links (Some x) (links_of links x).next rest t u h.2 (λ v e. ap (λ s. (links_of links s).next) (same_Some v x (sym e))) (behind t x rest other has) is
    ]

has_one_before : (links : List Links) (y : ℕ) (at : Option ℕ) (chain : List ℕ) (t : ℕ) → Leads links (Some y) at chain → 0 < times t chain → (links_of links t).previous ≡ None → ⊥
unfolding Leads
has_one_before links y at [] t h has is = absurd (omega arith)
has_one_before links y at (x ∷ rest) t h has is =
    elim (cases_Bool (eqb x t)) [
      | inl same ↦ none-some y (sym is ∙ ap (λ s. (links_of links s).previous) (sym (eqb-true x t same)) ∙ h.1)
      | inr other ↦ has_one_before links x (links_of links x).next rest t h.2 (behind t x rest other has) is
    ]

-- a slot with none before it heads its chain
pub heads_chain : (links : List Links) (at : Option ℕ) (chain : List ℕ) (t : ℕ) → Leads links None at chain → 0 < times t chain → (links_of links t).previous ≡ None → at ≡ Some t
unfolding Leads
heads_chain links at [] t h has is = absurd (omega arith)
heads_chain links at (x ∷ rest) t h has is =
    elim (cases_Bool (eqb x t)) [
      | inl same ↦ h.0 ∙ ap (λ s. Some s) (eqb-true x t same)
      | inr other ↦ absurd (has_one_before links x (links_of links x).next rest t h.2 (behind t x rest other has) is)
    ]

-- the head of a chain is in it, and none is before it
pub head_within : (links : List Links) (previous : Option ℕ) (t : ℕ) (chain : List ℕ) → Leads links previous (Some t) chain → (0 < times t chain) × ((links_of links t).previous ≡ previous)
unfolding Leads
head_within links previous t [] h = absurd (none-some t (sym h))
head_within links previous t (x ∷ rest) h =
    let e : t ≡ x = same_Some t x h.0 in
    let P : ℕ → Type 0 = λ s. 0 < times s (x ∷ rest) in
    (subst P (sym e) (here x rest), ap (λ s. (links_of links s).previous) e ∙ h.1)

-- links that are the same in a chain lead through it
pub leads_same : (old new : List Links) (previous at : Option ℕ) (chain : List ℕ) → Leads old previous at chain → ((t : ℕ) → 0 < times t chain → links_of new t ≡ links_of old t) → Leads new previous at chain
unfolding Leads
leads_same old new previous at [] h same = h
leads_same old new previous at (x ∷ rest) h same =
    let e = same x (here x rest) in
    let on = leads_same old new (Some x) (links_of old x).next rest h.2 (λ t has. same t (later t x rest has)) in
    let P : Option ℕ → Type 0 = λ a. Leads new (Some x) a rest in
    (h.0, ap (λ l. l.previous) e ∙ h.1, subst P (sym (ap (λ l. l.next) e)) on)
