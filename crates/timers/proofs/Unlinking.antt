-- A slot is removed from its chain.
use Rattle.std.proofs.Common.{◌≡◌, ℕ, ◌+◌, ◌<◌, false, cond, Option, Some, None, inl, inr, List, [], ◌∷◌, length, get_or, eqb, is_some, refl, sym, ap, ◌∙◌, subst, arith}
use Rattle.std.proofs.Math.ListN.{set}
use Rattle.std.proofs.lemmas.Bool.{cond-true, cond-false, eqb-true, eqb-false, eq-eqb, cases_Bool, true≢false, cases_eq}
use Rattle.std.proofs.lemmas.Option.{same_Some, none-some}
use Rattle.std.proofs.lemmas.List.{get_or-set_same, get_or-set_other, length-set, map-set}
use Rattle.timers.specs.declared.links.Links.{Links}
use Rattle.timers.specs.Chains.{links_of, unset_links, times, stands, chain_of, Leads, AreChains, IsSlot, AreCleared, moments}
use Rattle.timers.specs.Steps.{without, with_next, with_previous, with_head}
use Rattle.timers.proofs.Leading.{around, Bypassed, leads_without, heads_chain}
use Rattle.timers.proofs.Writing.{names, names-true, names_it, next-with_next, previous-with_next, due-with_next, length-with_next, moments-with_next, next-with_previous, previous-with_previous, due-with_previous, length-with_previous, moments-with_previous, others-with_next, others-with_previous}
use Rattle.timers.proofs.Standing.{only_there, stands_from, in_own, few, agreed_next, agreed_previous, next_within, previous_within, head_stands}

-- the links with a slot's neighbours linked to one another
abbrev pub joined : List Links → ℕ → List Links
joined links s = with_previous (with_next links (links_of links s).previous (links_of links s).next) (links_of links s).next (links_of links s).previous

-- the links with a slot's neighbours linked to one another, and the slot unset
abbrev pub unlinked : List Links → ℕ → List Links
unlinked links s = set (joined links s) s unset_links

-- a link is replaced exactly where the neighbour names the slot
around_named : (slot t : ℕ) (o to at : Option ℕ) → (o ≡ Some t → at ≡ Some slot) → (at ≡ Some slot → o ≡ Some t) → cond (names o t) to at ≡ around slot to at
around_named slot t o to None there back =
    elim (cases_Bool (names o t)) [
      | inl is ↦ absurd (none-some slot (there (names-true o t is)))
      | inr not ↦ cond-false (names o t) to None not
    ]
around_named slot t o to (Some u) there back =
    elim (cases_Bool (names o t)) [
      | inl is ↦ cond-true (names o t) to (Some u) is ∙ sym (cond-true (eqb u slot) to (Some u) (eq-eqb u slot (same_Some u slot (there (names-true o t is)))))
      | inr not ↦ (
          elim (cases_Bool (eqb u slot)) [
            | inl same ↦ absurd (true≢false (sym (names_it o t (back (ap (λ v. Some v) (eqb-true u slot same)))) ∙ not))
            | inr other ↦ cond-false (names o t) to (Some u) not ∙ sym (cond-false (eqb u slot) to (Some u) other)
          ]
          )
    ]

next_joined : (links : List Links) (s t : ℕ) → IsSlot links (links_of links s).previous → IsSlot (with_next links (links_of links s).previous (links_of links s).next) (links_of links s).next → (links_of (joined links s) t).next ≡ cond (names (links_of links s).previous t) (links_of links s).next (links_of links t).next
next_joined links s t first second =
    next-with_previous (with_next links (links_of links s).previous (links_of links s).next) (links_of links s).next (links_of links s).previous t second
    ∙ next-with_next links (links_of links s).previous (links_of links s).next t first

previous_joined : (links : List Links) (s t : ℕ) → IsSlot links (links_of links s).previous → IsSlot (with_next links (links_of links s).previous (links_of links s).next) (links_of links s).next → (links_of (joined links s) t).previous ≡ cond (names (links_of links s).next t) (links_of links s).previous (links_of links t).previous
previous_joined links s t first second =
    previous-with_previous (with_next links (links_of links s).previous (links_of links s).next) (links_of links s).next (links_of links s).previous t second
    ∙ ap (λ l. cond (names (links_of links s).next t) (links_of links s).previous l) (previous-with_next links (links_of links s).previous (links_of links s).next t first)

due_joined : (links : List Links) (s t : ℕ) → IsSlot links (links_of links s).previous → IsSlot (with_next links (links_of links s).previous (links_of links s).next) (links_of links s).next → (links_of (joined links s) t).due ≡ (links_of links t).due
due_joined links s t first second =
    due-with_previous (with_next links (links_of links s).previous (links_of links s).next) (links_of links s).next (links_of links s).previous t second
    ∙ due-with_next links (links_of links s).previous (links_of links s).next t first

pub length-joined : (links : List Links) (s : ℕ) → length (joined links s) ≡ length links
length-joined links s =
    length-with_previous (with_next links (links_of links s).previous (links_of links s).next) (links_of links s).next (links_of links s).previous
    ∙ length-with_next links (links_of links s).previous (links_of links s).next

pub IsSlot-length : (old new : List Links) (o : Option ℕ) → length new ≡ length old → IsSlot old o → IsSlot new o
IsSlot-length old new None e h = tt
IsSlot-length old new (Some u) e h = omega arith

pub length-unlinked : (links : List Links) (s : ℕ) → length (unlinked links s) ≡ length links
length-unlinked links s = length-set (joined links s) s unset_links ∙ length-joined links s

pub moments-unlinked : (links : List Links) (s : ℕ) → moments (unlinked links s) ≡ set (moments links) s None
moments-unlinked links s =
    map-set (λ l. l.due) (joined links s) s unset_links
    ∙ ap (λ ms. set ms s None) (moments-with_previous (with_next links (links_of links s).previous (links_of links s).next) (links_of links s).next (links_of links s).previous ∙ moments-with_next links (links_of links s).previous (links_of links s).next)

differ : (x s t : ℕ) → x ≡ s → eqb t s ≡ false → eqb x t ≡ false
differ x s t same other =
    elim (cases_Bool (eqb x t)) [
      | inl is ↦ absurd (eqb-false t s other (sym (eqb-true x t is) ∙ same))
      | inr not ↦ not
    ]

-- a chain without a slot has each other slot as often
times-without : (t s : ℕ) (chain : List ℕ) → times t (without s chain) ≡ cond (eqb t s) 0 (times t chain)
times-without t s [] = elim (cases_Bool (eqb t s)) [ inl is ↦ sym (cond-true {A = ℕ} (eqb t s) 0 0 is) | inr not ↦ sym (cond-false {A = ℕ} (eqb t s) 0 0 not) ]
times-without t s (x ∷ rest) =
    let more = times-without t s rest in
    let all : ℕ = cond (eqb x t) 1 0 + times t rest in
    elim (cases_Bool (eqb x s)) [
      | inl is ↦ (
          let left : times t (without s (x ∷ rest)) ≡ times t (without s rest) = ap (times t) (cond-true (eqb x s) (without s rest) (x ∷ without s rest) is) in
          elim (cases_Bool (eqb t s)) [
            | inl same ↦ left ∙ more ∙ cond-true {A = ℕ} (eqb t s) 0 (times t rest) same ∙ sym (cond-true {A = ℕ} (eqb t s) 0 all same)
            | inr other ↦ (
                let apart : eqb x t ≡ false = differ x s t (eqb-true x s is) other in
                let none : times t rest ≡ all = omega (arith, cond-false {A = ℕ} (eqb x t) 1 0 apart) in
                left ∙ more ∙ cond-false {A = ℕ} (eqb t s) 0 (times t rest) other ∙ none ∙ sym (cond-false {A = ℕ} (eqb t s) 0 all other)
                )
          ]
          )
      | inr not ↦ (
          let left : times t (without s (x ∷ rest)) ≡ cond (eqb x t) 1 0 + times t (without s rest) = ap (times t) (cond-false (eqb x s) (without s rest) (x ∷ without s rest) not) in
          elim (cases_Bool (eqb t s)) [
            | inl same ↦ (
                let apart : eqb x t ≡ false = ap (eqb x) (eqb-true t s same) ∙ not in
                let none : times t (without s (x ∷ rest)) ≡ 0 = omega (arith, left, more, cond-false {A = ℕ} (eqb x t) 1 0 apart, cond-true {A = ℕ} (eqb t s) 0 (times t rest) same) in
                none ∙ sym (cond-true {A = ℕ} (eqb t s) 0 all same)
                )
            | inr other ↦ (
                let same : times t (without s (x ∷ rest)) ≡ all = omega (arith, left, more, cond-false {A = ℕ} (eqb t s) 0 (times t rest) other) in
                same ∙ sym (cond-false {A = ℕ} (eqb t s) 0 all other)
                )
          ]
          )
    ]

-- the three writes, of the neighbours and of the slot, make the unlinked links
pub unlinked_by : (links first second third : List Links) (s : ℕ) (old none : Links) → old ≡ links_of links s → first ≡ with_next links old.previous old.next → second ≡ with_previous first old.next old.previous → none ≡ unset_links → third ≡ set second s none → third ≡ unlinked links s
unlinked_by links first second third s old none e f h k l =
    l
    ∙ ap (λ x. set second s x) k
    ∙ ap (λ ls. set ls s unset_links) (h ∙ ap (λ ls. with_previous ls old.next old.previous) f ∙ ap (λ o. with_previous (with_next links o.previous o.next) o.next o.previous) e)

other_kept : {X : Type 0} (f : Links → X) (links : List Links) (s t : ℕ) (l : Links) → eqb t s ≡ false → f (links_of (set links s l) t) ≡ f (links_of links t)
other_kept {X} f links s t l other = ap f (get_or-set_other links s t l unset_links (eqb-false t s other))

-- after the writes the links lead past the slot
bypassed : (heads : List (Option ℕ)) (turns : ℕ) (links : List Links) (chains : ℕ → List ℕ) → AreChains heads turns links chains → (chain s due : ℕ) → (links_of links s).due ≡ Some due → Bypassed links (unlinked links s) s (chains chain)
bypassed heads turns links chains a chain s due is_set =
    let n = (links_of links s).next in
    let q = (links_of links s).previous in
    let own = in_own heads turns links chains a s due is_set in
    let first = previous_within heads turns links chains a s due is_set q refl in
    let second = IsSlot-length links (with_next links q n) n (length-with_next links q n) (next_within heads turns links chains a s due is_set n refl) in
    record {
      next = λ t has other.
          other_kept (λ l. l.next) (joined links s) s t unset_links other
          ∙ next_joined links s t first second
          ∙ around_named s t q n (links_of links t).next (λ e. agreed_previous heads turns links chains a (chain_of turns due) s t own e) (λ e. agreed_next heads turns links chains a chain t s has e);
      previous = λ t has other.
          other_kept (λ l. l.previous) (joined links s) s t unset_links other
          ∙ previous_joined links s t first second
          ∙ around_named s t n q (links_of links t).previous (λ e. agreed_next heads turns links chains a (chain_of turns due) s t own e) (λ e. agreed_previous heads turns links chains a chain t s has e);
    }

-- the slot heads no chain but its own
heads_own : (heads : List (Option ℕ)) (turns : ℕ) (links : List Links) (chains : ℕ → List ℕ) → AreChains heads turns links chains → (chain s due : ℕ) → (links_of links s).due ≡ Some due → get_or heads chain None ≡ Some s → chain ≡ chain_of turns due
heads_own heads turns links chains a chain s due is_set is =
    only_there turns due chain (links_of links s).due is_set (stands_from heads turns links chains a chain s (head_stands heads turns links chains a chain s is).0)

around_other : (slot : ℕ) (to at : Option ℕ) → (at ≡ Some slot → ⊥) → at ≡ around slot to at
around_other slot to None h = refl
around_other slot to (Some u) h =
    elim (cases_Bool (eqb u slot)) [
      | inl is ↦ absurd (h (ap (λ v. Some v) (eqb-true u slot is)))
      | inr not ↦ sym (cond-false (eqb u slot) to (Some u) not)
    ]

around_it : (slot : ℕ) (to at : Option ℕ) → at ≡ Some slot → to ≡ around slot to at
around_it slot to at is = sym (cond-true (eqb slot slot) to (Some slot) (eq-eqb slot slot refl)) ∙ ap (around slot to) (sym is)

-- after the writes the heads lead past the slot
head_past : (heads : List (Option ℕ)) (turns : ℕ) (links : List Links) (chains : ℕ → List ℕ) → AreChains heads turns links chains → (chain s due : ℕ) → (links_of links s).due ≡ Some due → chain_of turns due < length heads → (q : Option ℕ) → (links_of links s).previous ≡ q → get_or (with_head heads (chain_of turns due) (links_of links s)) chain None ≡ around s (links_of links s).next (get_or heads chain None)
head_past heads turns links chains a chain s due is_set within (Some u) is =
    ap (λ b. get_or (cond b heads (set heads (chain_of turns due) (links_of links s).next)) chain None) (ap is_some is)
    ∙ around_other s (links_of links s).next (get_or heads chain None) (λ e. none-some u (sym (head_stands heads turns links chains a chain s e).1 ∙ is))
head_past heads turns links chains a chain s due is_set within None is =
    let own = chain_of turns due in
    let n = (links_of links s).next in
    let written : get_or (with_head heads own (links_of links s)) chain None ≡ get_or (set heads own n) chain None = ap (λ b. get_or (cond b heads (set heads own n)) chain None) (ap is_some is) in
    elim (cases_eq chain own) [
      | inl same ↦ (
          let head : get_or heads chain None ≡ Some s = ap (λ k. get_or heads k None) same ∙ heads_chain links (get_or heads own None) (chains own) s (a.led own) (in_own heads turns links chains a s due is_set) is in
          written ∙ ap (λ k. get_or (set heads own n) k None) same ∙ get_or-set_same heads own n None within ∙ around_it s n (get_or heads chain None) head
          )
      | inr other ↦ written ∙ get_or-set_other heads own chain n None other ∙ around_other s n (get_or heads chain None) (λ e. other (heads_own heads turns links chains a chain s due is_set e))
    ]

-- each slot that is left is in its own chain once
once_left : (heads : List (Option ℕ)) (turns : ℕ) (links : List Links) (chains : ℕ → List ℕ) → AreChains heads turns links chains → (s t chain : ℕ) → s < length links → IsSlot links (links_of links s).previous → IsSlot (with_next links (links_of links s).previous (links_of links s).next) (links_of links s).next → times t (without s (chains chain)) ≡ cond (stands turns chain (links_of (unlinked links s) t).due) 1 0
once_left heads turns links chains a s t chain inside first second =
    elim (cases_Bool (eqb t s)) [
      | inl is ↦ (
          let gone : (links_of (unlinked links s) t).due ≡ None = ap (λ k. (links_of (unlinked links s) k).due) (eqb-true t s is) ∙ ap (λ l. l.due) (get_or-set_same (joined links s) s unset_links unset_links (omega (arith, length-joined links s))) in
          times-without t s (chains chain) ∙ cond-true {A = ℕ} (eqb t s) 0 (times t (chains chain)) is ∙ ap (λ o. cond {A = ℕ} (stands turns chain o) 1 0) (sym gone)
          )
      | inr not ↦ (
          let kept : (links_of (unlinked links s) t).due ≡ (links_of links t).due = other_kept (λ l. l.due) (joined links s) s t unset_links not ∙ due_joined links s t first second in
          times-without t s (chains chain) ∙ cond-false {A = ℕ} (eqb t s) 0 (times t (chains chain)) not ∙ a.once chain t ∙ ap (λ o. cond {A = ℕ} (stands turns chain o) 1 0) (sym kept)
          )
    ]

-- the chains after the writes are those without the slot
pub unlinked-chains : (heads : List (Option ℕ)) (turns : ℕ) (links : List Links) (chains : ℕ → List ℕ) → AreChains heads turns links chains → (s due : ℕ) → (links_of links s).due ≡ Some due → s < length links → chain_of turns due < length heads → AreChains (with_head heads (chain_of turns due) (links_of links s)) turns (unlinked links s) (λ chain. without s (chains chain))
unlinked-chains heads turns links chains a s due is_set inside within =
    let q = (links_of links s).previous in
    let n = (links_of links s).next in
    let first = previous_within heads turns links chains a s due is_set q refl in
    let second = IsSlot-length links (with_next links q n) n (length-with_next links q n) (next_within heads turns links chains a s due is_set n refl) in
    record {
      led = λ chain.
          (let P : Option ℕ → Type 0 = λ at. Leads (unlinked links s) None at (without s (chains chain)) in
          subst P (sym (head_past heads turns links chains a chain s due is_set within q refl)) (leads_without links (unlinked links s) s None (get_or heads chain None) (chains chain) (a.led chain) (few heads turns links chains a chain s) refl (bypassed heads turns links chains a chain s due is_set)));
      once = λ chain t. once_left heads turns links chains a s t chain inside first second;
    }

-- a slot that isn't set is no neighbour of one that is
not_before : (heads : List (Option ℕ)) (turns : ℕ) (links : List Links) (chains : ℕ → List ℕ) → AreChains heads turns links chains → (s due t : ℕ) → (links_of links s).due ≡ Some due → links_of links t ≡ unset_links → names (links_of links s).previous t ≡ false
not_before heads turns links chains a s due t is_set unset =
    elim (cases_Bool (names (links_of links s).previous t)) [
      | inl is ↦ absurd (none-some s (ap (λ l. l.next) (sym unset) ∙ agreed_previous heads turns links chains a (chain_of turns due) s t (in_own heads turns links chains a s due is_set) (names-true (links_of links s).previous t is)))
      | inr not ↦ not
    ]

not_behind : (heads : List (Option ℕ)) (turns : ℕ) (links : List Links) (chains : ℕ → List ℕ) → AreChains heads turns links chains → (s due t : ℕ) → (links_of links s).due ≡ Some due → links_of links t ≡ unset_links → names (links_of links s).next t ≡ false
not_behind heads turns links chains a s due t is_set unset =
    elim (cases_Bool (names (links_of links s).next t)) [
      | inl is ↦ absurd (none-some s (ap (λ l. l.previous) (sym unset) ∙ agreed_next heads turns links chains a (chain_of turns due) s t (in_own heads turns links chains a s due is_set) (names-true (links_of links s).next t is)))
      | inr not ↦ not
    ]

-- after the writes the slots that aren't set have no neighbours, and neither has the slot
pub unlinked-cleared : (heads : List (Option ℕ)) (turns : ℕ) (links : List Links) (chains : ℕ → List ℕ) → AreChains heads turns links chains → AreCleared links → (s due : ℕ) → (links_of links s).due ≡ Some due → s < length links → AreCleared (unlinked links s)
unlinked-cleared heads turns links chains a cleared s due is_set within t none =
    let q = (links_of links s).previous in
    let n = (links_of links s).next in
    elim (cases_Bool (eqb t s)) [
      | inl is ↦ ap (λ k. links_of (unlinked links s) k) (eqb-true t s is) ∙ get_or-set_same (joined links s) s unset_links unset_links (omega (arith, length-joined links s))
      | inr not ↦ (
          let first = previous_within heads turns links chains a s due is_set q refl in
          let second = IsSlot-length links (with_next links q n) n (length-with_next links q n) (next_within heads turns links chains a s due is_set n refl) in
          let unset = cleared t (sym (due_joined links s t first second) ∙ sym (other_kept (λ l. l.due) (joined links s) s t unset_links not) ∙ none) in
          get_or-set_other (joined links s) s t unset_links unset_links (eqb-false t s not)
          ∙ others-with_previous (with_next links q n) n q t (not_behind heads turns links chains a s due t is_set unset)
          ∙ others-with_next links q n t (not_before heads turns links chains a s due t is_set unset)
          ∙ unset
          )
    ]
