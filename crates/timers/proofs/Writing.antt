-- Writes to the links of single slots.
use Rattle.std.proofs.Common.{◌≡◌, ℕ, ◌<◌, Bool, true, false, cond, Option, Some, None, inl, inr, List, length, eqb, refl, sym, ap, ◌∙◌}
use Rattle.std.proofs.Math.ListN.{set}
use Rattle.std.proofs.Math.Seq.{map-set_same}
use Rattle.std.proofs.lemmas.Bool.{cond-true, cond-false, eqb-true, eqb-false, eq-eqb, cases_Bool}
use Rattle.std.proofs.lemmas.List.{get_or-set_same, get_or-set_other, length-set}
use Rattle.timers.specs.declared.links.Links.{Links}
use Rattle.timers.specs.Chains.{links_of, unset_links, IsSlot, moments}
use Rattle.timers.specs.Steps.{with_next, with_previous}

-- an option holds this number
abbrev pub names : Option ℕ → ℕ → Bool
names None t = false
names (Some u) t = eqb t u

pub names-true : (o : Option ℕ) (t : ℕ) → names o t ≡ true → o ≡ Some t
names-true None t h = cc
names-true (Some u) t h = ap (λ s. Some s) (sym (eqb-true t u h))

pub names_it : (o : Option ℕ) (t : ℕ) → o ≡ Some t → names o t ≡ true
names_it o t h = ap (λ p. names p t) h ∙ eq-eqb t t refl

-- a link of a slot is the new one after a write to that slot, else the old one
pub one_written : {X : Type 0} (f : Links → X) (links : List Links) (u t : ℕ) (l : Links) → u < length links → f (links_of (set links u l) t) ≡ cond (eqb t u) (f l) (f (links_of links t))
one_written {X} f links u t l within =
    elim (cases_Bool (eqb t u)) [
      | inl is ↦ ap (λ s. f (links_of (set links u l) s)) (eqb-true t u is) ∙ ap f (get_or-set_same links u l unset_links within) ∙ sym (cond-true (eqb t u) (f l) (f (links_of links t)) is)
      | inr not ↦ ap f (get_or-set_other links u t l unset_links (eqb-false t u not)) ∙ sym (cond-false (eqb t u) (f l) (f (links_of links t)) not)
    ]

-- a write that leaves one link of its slot leaves that link of every slot
pub one_kept : {X : Type 0} (f : Links → X) (links : List Links) (u t : ℕ) (l : Links) → u < length links → f l ≡ f (links_of links u) → f (links_of (set links u l) t) ≡ f (links_of links t)
one_kept {X} f links u t l within same =
    elim (cases_Bool (eqb t u)) [
      | inl is ↦ one_written f links u t l within ∙ cond-true (eqb t u) (f l) (f (links_of links t)) is ∙ same ∙ ap (λ s. f (links_of links s)) (sym (eqb-true t u is))
      | inr not ↦ one_written f links u t l within ∙ cond-false (eqb t u) (f l) (f (links_of links t)) not
    ]

pub next-with_next : (links : List Links) (o next : Option ℕ) (t : ℕ) → IsSlot links o → (links_of (with_next links o next) t).next ≡ cond (names o t) next (links_of links t).next
next-with_next links None next t within = refl
next-with_next links (Some u) next t within = one_written (λ l. l.next) links u t (record (links_of links u) { next = next }) within

pub previous-with_next : (links : List Links) (o next : Option ℕ) (t : ℕ) → IsSlot links o → (links_of (with_next links o next) t).previous ≡ (links_of links t).previous
previous-with_next links None next t within = refl
previous-with_next links (Some u) next t within = one_kept (λ l. l.previous) links u t (record (links_of links u) { next = next }) within refl

pub due-with_next : (links : List Links) (o next : Option ℕ) (t : ℕ) → IsSlot links o → (links_of (with_next links o next) t).due ≡ (links_of links t).due
due-with_next links None next t within = refl
due-with_next links (Some u) next t within = one_kept (λ l. l.due) links u t (record (links_of links u) { next = next }) within refl

pub length-with_next : (links : List Links) (o next : Option ℕ) → length (with_next links o next) ≡ length links
length-with_next links None next = refl
length-with_next links (Some u) next = length-set links u (record (links_of links u) { next = next })

pub moments-with_next : (links : List Links) (o next : Option ℕ) → moments (with_next links o next) ≡ moments links
moments-with_next links None next = refl
moments-with_next links (Some u) next = map-set_same (λ l. l.due) links u (record (links_of links u) { next = next }) unset_links refl

pub previous-with_previous : (links : List Links) (o previous : Option ℕ) (t : ℕ) → IsSlot links o → (links_of (with_previous links o previous) t).previous ≡ cond (names o t) previous (links_of links t).previous
previous-with_previous links None previous t within = refl
previous-with_previous links (Some u) previous t within = one_written (λ l. l.previous) links u t (record (links_of links u) { previous = previous }) within

pub next-with_previous : (links : List Links) (o previous : Option ℕ) (t : ℕ) → IsSlot links o → (links_of (with_previous links o previous) t).next ≡ (links_of links t).next
next-with_previous links None previous t within = refl
next-with_previous links (Some u) previous t within = one_kept (λ l. l.next) links u t (record (links_of links u) { previous = previous }) within refl

pub due-with_previous : (links : List Links) (o previous : Option ℕ) (t : ℕ) → IsSlot links o → (links_of (with_previous links o previous) t).due ≡ (links_of links t).due
due-with_previous links None previous t within = refl
due-with_previous links (Some u) previous t within = one_kept (λ l. l.due) links u t (record (links_of links u) { previous = previous }) within refl

pub length-with_previous : (links : List Links) (o previous : Option ℕ) → length (with_previous links o previous) ≡ length links
length-with_previous links None previous = refl
length-with_previous links (Some u) previous = length-set links u (record (links_of links u) { previous = previous })

pub moments-with_previous : (links : List Links) (o previous : Option ℕ) → moments (with_previous links o previous) ≡ moments links
moments-with_previous links None previous = refl
moments-with_previous links (Some u) previous = map-set_same (λ l. l.due) links u (record (links_of links u) { previous = previous }) unset_links refl

-- a slot that isn't named keeps its links
pub others-with_previous : (links : List Links) (o previous : Option ℕ) (t : ℕ) → names o t ≡ false → links_of (with_previous links o previous) t ≡ links_of links t
others-with_previous links None previous t other = refl
others-with_previous links (Some u) previous t other = get_or-set_other links u t (record (links_of links u) { previous = previous }) unset_links (eqb-false t u other)

pub others-with_next : (links : List Links) (o next : Option ℕ) (t : ℕ) → names o t ≡ false → links_of (with_next links o next) t ≡ links_of links t
others-with_next links None next t other = refl
others-with_next links (Some u) next t other = get_or-set_other links u t (record (links_of links u) { next = next }) unset_links (eqb-false t u other)
