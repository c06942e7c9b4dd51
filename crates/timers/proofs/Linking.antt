-- A slot is put at the head of its chain.
use Rattle.std.proofs.Common.{◌≡◌, ℕ, ◌<◌, ◌≤◌, Bool, true, false, cond, Option, Some, None, inl, inr, List, [], ◌∷◌, length, get_or, eqb, refl, sym, ap, ◌∙◌, subst, arith}
use Rattle.std.proofs.Math.ListN.{set}
use Rattle.std.proofs.lemmas.Bool.{cond-true, cond-false, eqb-true, eqb-false, eq-eqb, ne_eqb, cases_Bool, true≢false, cases_eq}
use Rattle.std.proofs.lemmas.Option.{same_Some, none-some}
use Rattle.std.proofs.lemmas.List.{get_or-set_same, get_or-set_other, length-set, map-set}
use Rattle.timers.specs.declared.links.Links.{Links}
use Rattle.timers.specs.Chains.{links_of, unset_links, times, stands, chain_of, Leads, AreChains, IsSlot, AreCleared, moments}
use Rattle.timers.specs.Steps.{with_previous}
use Rattle.timers.proofs.Leading.{here, later, leads_same}
use Rattle.timers.proofs.Writing.{names, names-true, names_it, next-with_previous, previous-with_previous, due-with_previous, length-with_previous, moments-with_previous, others-with_previous}
use Rattle.timers.proofs.Standing.{moment_there, stands_from, few, head_stands, head_is_slot}

-- the links of a new head before a slot
abbrev pub first_links : Option ℕ → ℕ → Links
first_links at due = record { next = at; previous = None; due = Some due }

-- the links after a slot was put before another
abbrev pub put_before : List Links → Option ℕ → ℕ → ℕ → List Links
put_before links at s due = set (with_previous links at (Some s)) s (first_links at due)

-- the chains after a slot was put into one
abbrev pub put_in : (ℕ → List ℕ) → ℕ → ℕ → ℕ → List ℕ
put_in chains own s chain = cond (eqb chain own) (s ∷ chains chain) (chains chain)

once_only : (x t : ℕ) (rest : List ℕ) → times x (x ∷ rest) ≤ 1 → x ≡ t → 0 < times t rest → ⊥
once_only x t rest few same has =
    let P : ℕ → Type 0 = λ k. 0 < times k rest in
    let more : 0 < times x rest = subst P (sym same) has in
    omega (arith, cond-true {A = ℕ} (eqb x x) 1 0 (eq-eqb x x refl))

-- a chain whose first slot gets a new one before it, and nothing else, is led through from the new one
leads_behind : (old new : List Links) (s : ℕ) (at : Option ℕ) (chain : List ℕ) → Leads old None at chain → ((t : ℕ) → times t chain ≤ 1) → ((x : ℕ) → at ≡ Some x → 0 < times x chain → ((links_of new x).previous ≡ Some s) × ((links_of new x).next ≡ (links_of old x).next)) → ((t : ℕ) → 0 < times t chain → (at ≡ Some t → ⊥) → links_of new t ≡ links_of old t) → Leads new (Some s) at chain
unfolding Leads
leads_behind old new s at [] h few first others = h
leads_behind old new s at (x ∷ rest) h few first others =
    let e = first x h.0 (here x rest) in
    let on = leads_same old new (Some x) (links_of old x).next rest h.2 (λ t has. others t (later t x rest has) (λ is. once_only x t rest (few x) (same_Some x t (sym h.0 ∙ is)) has)) in
    let P : Option ℕ → Type 0 = λ a. Leads new (Some x) a rest in
    (h.0, e.0, subst P (sym e.1) on)

pub length-put_before : (links : List Links) (at : Option ℕ) (s due : ℕ) → length (put_before links at s due) ≡ length links
length-put_before links at s due = length-set (with_previous links at (Some s)) s (first_links at due) ∙ length-with_previous links at (Some s)

pub moments-put_before : (links : List Links) (at : Option ℕ) (s due : ℕ) → moments (put_before links at s due) ≡ set (moments links) s (Some due)
moments-put_before links at s due =
    map-set (λ l. l.due) (with_previous links at (Some s)) s (first_links at due) ∙ ap (λ ms. set ms s (Some due)) (moments-with_previous links at (Some s))

-- the new slot has its own links
its_own : (links : List Links) (at : Option ℕ) (s due : ℕ) → s < length links → links_of (put_before links at s due) s ≡ first_links at due
its_own links at s due within = get_or-set_same (with_previous links at (Some s)) s (first_links at due) unset_links (omega (arith, length-with_previous links at (Some s)))

-- another slot has the links that it had, but for the one before it
of_another : (links : List Links) (at : Option ℕ) (s due t : ℕ) → eqb t s ≡ false → links_of (put_before links at s due) t ≡ links_of (with_previous links at (Some s)) t
of_another links at s due t other = get_or-set_other (with_previous links at (Some s)) s t (first_links at due) unset_links (eqb-false t s other)

-- an unset slot is in no chain
apart : (heads : List (Option ℕ)) (turns : ℕ) (links : List Links) (chains : ℕ → List ℕ) → AreChains heads turns links chains → (chain s t : ℕ) → (links_of links s).due ≡ None → 0 < times t (chains chain) → eqb t s ≡ false
apart heads turns links chains a chain s t unset has =
    elim (cases_Bool (eqb t s)) [
      | inl is ↦ absurd (true≢false (sym (stands_from heads turns links chains a chain t has) ∙ ap (λ k. stands turns chain (links_of links k).due) (eqb-true t s is) ∙ ap (stands turns chain) unset))
      | inr not ↦ not
    ]

unset_none : (heads : List (Option ℕ)) (turns : ℕ) (links : List Links) (chains : ℕ → List ℕ) → AreChains heads turns links chains → (chain s : ℕ) → (links_of links s).due ≡ None → times s (chains chain) ≡ 0
unset_none heads turns links chains a chain s unset = a.once chain s ∙ ap (λ o. cond {A = ℕ} (stands turns chain o) 1 0) unset

-- a slot is in one chain only
one_chain : (turns : ℕ) (o : Option ℕ) (chain other : ℕ) → stands turns chain o ≡ true → stands turns other o ≡ true → chain ≡ other
one_chain turns o chain other h k =
    let m = moment_there turns chain o h in
    let n = moment_there turns other o k in
    sym m.2 ∙ ap (chain_of turns) (same_Some m.0 n.0 (sym m.1 ∙ n.1)) ∙ n.2

not_named : (o : Option ℕ) (t : ℕ) → (o ≡ Some t → ⊥) → names o t ≡ false
not_named o t h = elim (cases_Bool (names o t)) [ inl is ↦ absurd (h (names-true o t is)) | inr not ↦ not ]

-- the links lead through the slot's own chain, with the slot at its head
led_own : (heads : List (Option ℕ)) (turns : ℕ) (links : List Links) (chains : ℕ → List ℕ) → AreChains heads turns links chains → (own s due : ℕ) → (links_of links s).due ≡ None → s < length links → Leads (put_before links (get_or heads own None) s due) None (Some s) (s ∷ chains own)
unfolding Leads
led_own heads turns links chains a own s due unset within =
    let at = get_or heads own None in
    let new = put_before links at s due in
    let mine = its_own links at s due within in
    let slot = head_is_slot heads turns links chains a own at refl in
    let on = leads_behind links new s at (chains own) (a.led own) (few heads turns links chains a own) (λ x is has. (
      ap (λ l. l.previous) (of_another links at s due x (apart heads turns links chains a own s x unset has)) ∙ previous-with_previous links at (Some s) x slot ∙ cond-true (names at x) (Some s) (links_of links x).previous (names_it at x is),
      ap (λ l. l.next) (of_another links at s due x (apart heads turns links chains a own s x unset has)) ∙ next-with_previous links at (Some s) x slot,
    ))
    (λ t has other. of_another links at s due t (apart heads turns links chains a own s t unset has) ∙ others-with_previous links at (Some s) t (not_named at t other)) in
    let P : Option ℕ → Type 0 = λ n. Leads new (Some s) n (chains own) in
    (refl, ap (λ l. l.previous) mine, subst P (sym (ap (λ l. l.next) mine)) on)

-- the links lead through each other chain as before
led_other : (heads : List (Option ℕ)) (turns : ℕ) (links : List Links) (chains : ℕ → List ℕ) → AreChains heads turns links chains → (own chain s due : ℕ) → (chain ≡ own → ⊥) → (links_of links s).due ≡ None → Leads (put_before links (get_or heads own None) s due) None (get_or heads chain None) (chains chain)
led_other heads turns links chains a own chain s due differ unset =
    let at = get_or heads own None in
    leads_same links (put_before links at s due) None (get_or heads chain None) (chains chain) (a.led chain)
    (λ t has. of_another links at s due t (apart heads turns links chains a chain s t unset has)
    ∙ others-with_previous links at (Some s) t (not_named at t (λ is. differ (one_chain turns (links_of links t).due chain own
    (stands_from heads turns links chains a chain t has) (stands_from heads turns links chains a own t (head_stands heads turns links chains a own t is).0)))))

led_put : (heads : List (Option ℕ)) (turns : ℕ) (links : List Links) (chains : ℕ → List ℕ) → AreChains heads turns links chains → (own chain s due : ℕ) → (links_of links s).due ≡ None → s < length links → own < length heads → Leads (put_before links (get_or heads own None) s due) None (get_or (set heads own (Some s)) chain None) (put_in chains own s chain)
led_put heads turns links chains a own chain s due unset within inside =
    let new = put_before links (get_or heads own None) s due in
    let P : Option ℕ → Type 0 = λ at. Leads new None at (put_in chains own s chain) in
    elim (cases_eq chain own) [
      | inl same ↦ (
          let head : get_or (set heads own (Some s)) chain None ≡ Some s = ap (λ k. get_or (set heads own (Some s)) k None) same ∙ get_or-set_same heads own (Some s) None inside in
          let list : put_in chains own s chain ≡ s ∷ chains own = cond-true (eqb chain own) (s ∷ chains chain) (chains chain) (eq-eqb chain own same) ∙ ap (λ k. s ∷ chains k) same in
          let Q : List ℕ → Type 0 = λ ys. Leads new None (Some s) ys in
          subst P (sym head) (subst Q (sym list) (led_own heads turns links chains a own s due unset within))
          )
      | inr differ ↦ (
          let head : get_or (set heads own (Some s)) chain None ≡ get_or heads chain None = get_or-set_other heads own chain (Some s) None differ in
          let list : put_in chains own s chain ≡ chains chain = cond-false (eqb chain own) (s ∷ chains chain) (chains chain) (ne_eqb chain own differ) in
          let Q : List ℕ → Type 0 = λ ys. Leads new None (get_or heads chain None) ys in
          subst P (sym head) (subst Q (sym list) (led_other heads turns links chains a own chain s due differ unset))
          )
    ]

-- the slot is in its own chain once, and all others are where they were
counted : (b : Bool) (own s t : ℕ) (chain : List ℕ) → eqb s t ≡ false → times t (cond b (s ∷ chain) chain) ≡ times t chain
counted true own s t chain other = omega (arith, cond-false {A = ℕ} (eqb s t) 1 0 other)
counted false own s t chain other = refl

counted_it : (b : Bool) (s : ℕ) (chain : List ℕ) → times s chain ≡ 0 → times s (cond b (s ∷ chain) chain) ≡ cond b 1 0
counted_it true s chain none = omega (arith, cond-true {A = ℕ} (eqb s s) 1 0 (eq-eqb s s refl))
counted_it false s chain none = none

pub eqb_swap : (a b : ℕ) → eqb a b ≡ eqb b a
eqb_swap a b =
    elim (cases_eq a b) [
      | inl same ↦ eq-eqb a b same ∙ sym (eq-eqb b a (sym same))
      | inr differ ↦ ne_eqb a b differ ∙ sym (ne_eqb b a (λ e. differ (sym e)))
    ]

once_put : (heads : List (Option ℕ)) (turns : ℕ) (links : List Links) (chains : ℕ → List ℕ) → AreChains heads turns links chains → (chain s due t : ℕ) → (links_of links s).due ≡ None → s < length links → (at : Option ℕ) → IsSlot links at → times t (put_in chains (chain_of turns due) s chain) ≡ cond (stands turns chain (links_of (put_before links at s due) t).due) 1 0
once_put heads turns links chains a chain s due t unset within at slot =
    let own = chain_of turns due in
    elim (cases_eq t s) [
      | inl same ↦ (
          let moment : (links_of (put_before links at s due) t).due ≡ Some due = ap (λ k. (links_of (put_before links at s due) k).due) same ∙ ap (λ l. l.due) (its_own links at s due within) in
          ap (λ k. times k (put_in chains own s chain)) same
          ∙ counted_it (eqb chain own) s (chains chain) (unset_none heads turns links chains a chain s unset)
          ∙ ap (λ b. cond {A = ℕ} b 1 0) (eqb_swap chain own)
          ∙ ap (λ o. cond {A = ℕ} (stands turns chain o) 1 0) (sym moment)
          )
      | inr differ ↦ (
          let moment : (links_of (put_before links at s due) t).due ≡ (links_of links t).due = ap (λ l. l.due) (of_another links at s due t (ne_eqb t s differ)) ∙ due-with_previous links at (Some s) t slot in
          counted (eqb chain own) own s t (chains chain) (ne_eqb s t (λ e. differ (sym e)))
          ∙ a.once chain t
          ∙ ap (λ o. cond {A = ℕ} (stands turns chain o) 1 0) (sym moment)
          )
    ]

-- after the writes the slot is at the head of its own chain, and the chains are right
pub put-chains : (heads : List (Option ℕ)) (turns : ℕ) (links : List Links) (chains : ℕ → List ℕ) → AreChains heads turns links chains → (s due : ℕ) → (links_of links s).due ≡ None → s < length links → chain_of turns due < length heads → AreChains (set heads (chain_of turns due) (Some s)) turns (put_before links (get_or heads (chain_of turns due) None) s due) (put_in chains (chain_of turns due) s)
put-chains heads turns links chains a s due unset within inside =
    let own = chain_of turns due in
    record {
      led = λ chain. led_put heads turns links chains a own chain s due unset within inside;
      once = λ chain t. once_put heads turns links chains a chain s due t unset within (get_or heads own None) (head_is_slot heads turns links chains a own (get_or heads own None) refl);
    }

-- a slot that isn't set is named neither by the new slot's links nor by the head's
kept_apart : (heads : List (Option ℕ)) (turns : ℕ) (links : List Links) (chains : ℕ → List ℕ) → AreChains heads turns links chains → (own t : ℕ) → (links_of links t).due ≡ None → names (get_or heads own None) t ≡ false
kept_apart heads turns links chains a own t unset =
    not_named (get_or heads own None) t (λ is.
    let stood = stands_from heads turns links chains a own t (head_stands heads turns links chains a own t is).0 in
    true≢false (sym stood ∙ ap (stands turns own) unset))

-- after the writes the slots that aren't set have no neighbours
pub put-cleared : (heads : List (Option ℕ)) (turns : ℕ) (links : List Links) (chains : ℕ → List ℕ) → AreChains heads turns links chains → AreCleared links → (own s due : ℕ) → s < length links → AreCleared (put_before links (get_or heads own None) s due)
put-cleared heads turns links chains a cleared own s due within t none =
    let at = get_or heads own None in
    elim (cases_Bool (eqb t s)) [
      | inl is ↦ absurd (none-some due (sym none ∙ ap (λ k. (links_of (put_before links at s due) k).due) (eqb-true t s is) ∙ ap (λ l. l.due) (its_own links at s due within)))
      | inr not ↦ (
          let slot = head_is_slot heads turns links chains a own at refl in
          let unset : (links_of links t).due ≡ None = sym (due-with_previous links at (Some s) t slot) ∙ ap (λ l. l.due) (sym (of_another links at s due t not)) ∙ none in
          of_another links at s due t not ∙ others-with_previous links at (Some s) t (kept_apart heads turns links chains a own t unset) ∙ cleared t unset
          )
    ]
