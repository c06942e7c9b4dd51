-- The chain in which a slot is.
use Rattle.std.proofs.Common.{◌≡◌, ℕ, ◌<◌, ◌≤◌, Bool, true, false, cond, Option, Some, None, inl, inr, List, length, get_or, refl, sym, ap, ◌∙◌, subst, arith}
use Rattle.std.proofs.lemmas.Bool.{cond-true, cond-false, eqb-true, eq-eqb, cases_Bool, cases_lt}
use Rattle.std.proofs.lemmas.Option.{none-some}
use Rattle.std.proofs.lemmas.List.{get_or_past}
use Rattle.timers.specs.declared.links.Links.{Links}
use Rattle.timers.specs.Chains.{links_of, unset_links, times, stands, chain_of, Leads, AreChains, IsSlot, IsBelow}
use Rattle.timers.proofs.Leading.{answered, from_before, head_within}

-- a slot of a moment is in that moment's chain
pub stands-own : (turns due : ℕ) → stands turns (chain_of turns due) (Some due) ≡ true
stands-own turns due = eq-eqb (chain_of turns due) (chain_of turns due) refl

-- a slot that is in a chain has a moment, whose chain it is
pub moment_there : (turns chain : ℕ) (o : Option ℕ) → stands turns chain o ≡ true → (due : ℕ) × (o ≡ Some due) × (chain_of turns due ≡ chain)
moment_there turns chain None h = cc
moment_there turns chain (Some due) h = (due, refl, eqb-true (chain_of turns due) chain h)

pub only_there : (turns due chain : ℕ) (o : Option ℕ) → o ≡ Some due → stands turns chain o ≡ true → chain ≡ chain_of turns due
only_there turns due chain o is h =
    sym (eqb-true (chain_of turns due) chain (sym (ap (stands turns chain) is) ∙ h))

-- a slot with a link that an unset slot doesn't have is one of the list
pub within_from : (f : Links → Option ℕ) (links : List Links) (t v : ℕ) → f unset_links ≡ None → f (links_of links t) ≡ Some v → t < length links
within_from f links t v none is =
    elim (cases_lt t (length links)) [
      | inl h ↦ h
      | inr h ↦ absurd (none-some v (sym none ∙ ap f (sym (get_or_past links t unset_links h)) ∙ is))
    ]

-- the slots of a chain are those that the test puts there
pub stands_from : (heads : List (Option ℕ)) (turns : ℕ) (links : List Links) (chains : ℕ → List ℕ) → AreChains heads turns links chains → (chain t : ℕ) → 0 < times t (chains chain) → stands turns chain (links_of links t).due ≡ true
stands_from heads turns links chains a chain t h =
    elim (cases_Bool (stands turns chain (links_of links t).due)) [
      | inl is ↦ is
      | inr not ↦ absurd (omega (arith, a.once chain t, cond-false {A = ℕ} (stands turns chain (links_of links t).due) 1 0 not))
    ]

pub in_chain : (heads : List (Option ℕ)) (turns : ℕ) (links : List Links) (chains : ℕ → List ℕ) → AreChains heads turns links chains → (chain t : ℕ) → stands turns chain (links_of links t).due ≡ true → 0 < times t (chains chain)
in_chain heads turns links chains a chain t is =
    omega (arith, a.once chain t, cond-true {A = ℕ} (stands turns chain (links_of links t).due) 1 0 is)

pub in_own : (heads : List (Option ℕ)) (turns : ℕ) (links : List Links) (chains : ℕ → List ℕ) → AreChains heads turns links chains → (t due : ℕ) → (links_of links t).due ≡ Some due → 0 < times t (chains (chain_of turns due))
in_own heads turns links chains a t due is =
    in_chain heads turns links chains a (chain_of turns due) t (ap (stands turns (chain_of turns due)) is ∙ stands-own turns due)

at_most_once : (b : Bool) → cond b 1 0 ≤ 1
at_most_once true = omega arith
at_most_once false = omega arith

pub few : (heads : List (Option ℕ)) (turns : ℕ) (links : List Links) (chains : ℕ → List ℕ) → AreChains heads turns links chains → (chain t : ℕ) → times t (chains chain) ≤ 1
few heads turns links chains a chain t = omega (arith, a.once chain t, at_most_once (stands turns chain (links_of links t).due))

-- the links of a slot in a chain agree with its neighbours'
pub agreed_next : (heads : List (Option ℕ)) (turns : ℕ) (links : List Links) (chains : ℕ → List ℕ) → AreChains heads turns links chains → (chain t u : ℕ) → 0 < times t (chains chain) → (links_of links t).next ≡ Some u → (links_of links u).previous ≡ Some t
agreed_next heads turns links chains a chain t u has is =
    answered links None (get_or heads chain None) (chains chain) t u (a.led chain) has is

pub agreed_previous : (heads : List (Option ℕ)) (turns : ℕ) (links : List Links) (chains : ℕ → List ℕ) → AreChains heads turns links chains → (chain t u : ℕ) → 0 < times t (chains chain) → (links_of links t).previous ≡ Some u → (links_of links u).next ≡ Some t
agreed_previous heads turns links chains a chain t u has is =
    from_before links None (get_or heads chain None) (chains chain) t u (a.led chain) (λ v e. absurd (none-some v e)) has is

-- links lead to slots of the list
pub next_within : (heads : List (Option ℕ)) (turns : ℕ) (links : List Links) (chains : ℕ → List ℕ) → AreChains heads turns links chains → (t due : ℕ) → (links_of links t).due ≡ Some due → (o : Option ℕ) → (links_of links t).next ≡ o → IsSlot links o
next_within heads turns links chains a t due set None is = tt
next_within heads turns links chains a t due set (Some u) is =
    within_from (λ l. l.previous) links u t refl (agreed_next heads turns links chains a (chain_of turns due) t u (in_own heads turns links chains a t due set) is)

pub previous_within : (heads : List (Option ℕ)) (turns : ℕ) (links : List Links) (chains : ℕ → List ℕ) → AreChains heads turns links chains → (t due : ℕ) → (links_of links t).due ≡ Some due → (o : Option ℕ) → (links_of links t).previous ≡ o → IsSlot links o
previous_within heads turns links chains a t due set None is = tt
previous_within heads turns links chains a t due set (Some u) is =
    within_from (λ l. l.next) links u t refl (agreed_previous heads turns links chains a (chain_of turns due) t u (in_own heads turns links chains a t due set) is)

pub head_stands : (heads : List (Option ℕ)) (turns : ℕ) (links : List Links) (chains : ℕ → List ℕ) → AreChains heads turns links chains → (chain u : ℕ) → get_or heads chain None ≡ Some u → (0 < times u (chains chain)) × ((links_of links u).previous ≡ None)
head_stands heads turns links chains a chain u is =
    let P : Option ℕ → Type 0 = λ at. Leads links None at (chains chain) in
    head_within links None u (chains chain) (subst P is (a.led chain))

pub head_is_slot : (heads : List (Option ℕ)) (turns : ℕ) (links : List Links) (chains : ℕ → List ℕ) → AreChains heads turns links chains → (chain : ℕ) (o : Option ℕ) → get_or heads chain None ≡ o → IsSlot links o
head_is_slot heads turns links chains a chain None is = tt
head_is_slot heads turns links chains a chain (Some u) is =
    let stood = stands_from heads turns links chains a chain u (head_stands heads turns links chains a chain u is).0 in
    let moment = moment_there turns chain (links_of links u).due stood in
    within_from (λ l. l.due) links u moment.0 refl moment.1

-- a slot's number is below the limit of a store
pub slot-below : (links : List Links) (limit : ℕ) (slot : Option ℕ) → length links ≤ limit → IsSlot links slot → IsBelow limit slot
slot-below links limit None few within = tt
slot-below links limit (Some s) few within = omega arith
