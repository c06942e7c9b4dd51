-- A walk along a chain.
use Rattle.std.proofs.Common.{◌≡◌, ℕ, zero, suc, ◌+◌, ◌<◌, ◌≤◌, true, false, Option, Some, None, inl, inr, List, [], ◌∷◌, ◌++◌, append_assoc, length, length-append, get_or, eqb, refl, sym, ap, ◌∙◌, subst, arith}
use Rattle.std.specs.List.{IsDistinct, AllByRecursion, list_any}
use Rattle.std.proofs.lemmas.Bool.{cond-true, cond-false, cases_Bool, eqb-true, eq-eqb, or_cases}
use Rattle.std.proofs.lemmas.Option.{none-some, same_Some}
use Rattle.std.proofs.lemmas.Map.Steps.{length-le_from_distinct_below}
use Rattle.timers.specs.Due.{is_due}
use Rattle.timers.specs.declared.links.Links.{Links}
use Rattle.timers.specs.declared.wheel.Wheel.{Wheel}
use Rattle.timers.specs.Chains.{links_of, times, stands, Leads, AreChains, moments}
use Rattle.timers.specs.Steps.{without, passed}
use Rattle.timers.specs.Linked.{IsLinked}
use Rattle.timers.specs.Steps.{AreTaken}
use Rattle.timers.proofs.Leading.{absent, here, later, without_none}
use Rattle.timers.proofs.Linking.{eqb_swap}
use Rattle.timers.proofs.Standing.{stands_from, in_chain, few, moment_there, within_from}
use Rattle.timers.proofs.Counting.{moment_of}
use Rattle.timers.proofs.Taking.{still_not}

-- the slots from a slot on, as the links lead, at most so many
abbrev pub walk : ℕ → List Links → Option ℕ → List ℕ
walk zero links at = []
walk (suc steps) links None = []
walk (suc steps) links (Some s) = s ∷ walk steps links (links_of links s).next

walk_led : (steps : ℕ) (links : List Links) (previous at : Option ℕ) (chain : List ℕ) → Leads links previous at chain → length chain ≤ steps → walk steps links at ≡ chain
unfolding Leads
walk_led zero links previous at [] h fits = refl
walk_led zero links previous at (x ∷ rest) h fits = absurd (omega arith)
walk_led (suc steps) links previous at [] h fits = ap (walk (suc steps) links) h
walk_led (suc steps) links previous at (x ∷ rest) h fits =
    ap (walk (suc steps) links) h.0 ∙ ap (λ ys. x ∷ ys) (walk_led steps links (Some x) (links_of links x).next rest h.2 (omega arith))

-- the first of a chain
abbrev pub first_of_chain : List ℕ → Option ℕ
first_of_chain [] = None
first_of_chain (x ∷ rest) = Some x

pub begins : (links : List Links) (previous at : Option ℕ) (chain : List ℕ) → Leads links previous at chain → at ≡ first_of_chain chain
unfolding Leads
begins links previous at [] h = h
begins links previous at (x ∷ rest) h = h.0

-- links that lead through a chain lead through its end
pub led_end : (links : List Links) (previous at : Option ℕ) (done rest : List ℕ) → Leads links previous at (done ++ rest) → (before : Option ℕ) × Leads links before (first_of_chain rest) rest
unfolding Leads
led_end links previous at [] rest h =
    let P : Option ℕ → Type 0 = λ a. Leads links previous a rest in
    (previous, subst P (begins links previous at rest h) h)
led_end links previous at (x ∷ done) rest h = led_end links (Some x) (links_of links x).next done rest h.2

pub next_is_first : (links : List Links) (before : Option ℕ) (s : ℕ) (rest : List ℕ) → Leads links before (Some s) (s ∷ rest) → (links_of links s).next ≡ first_of_chain rest
unfolding Leads
next_is_first links before s rest h = begins links (Some s) (links_of links s).next rest h.2

-- a chain has no more slots than there are
all_apart : (x : ℕ) (rest : List ℕ) → times x rest ≡ 0 → AllByRecursion (λ y. eqb x y ≡ false) rest
all_apart x [] none = tt
all_apart x (y ∷ rest) none = (eqb_swap x y ∙ (absent x y rest none).0, all_apart x rest (absent x y rest none).1)

distinct : (chain : List ℕ) → ((t : ℕ) → times t chain ≤ 1) → IsDistinct eqb chain
unfolding IsDistinct
distinct [] few_each = tt
distinct (x ∷ rest) few_each =
    let none : times x rest ≡ 0 = omega (arith, few_each x, cond-true {A = ℕ} (eqb x x) 1 0 (eq-eqb x x refl)) in
    (all_apart x rest none, distinct rest (λ t. omega (arith, few_each t)))

listed : (q : ℕ) (chain : List ℕ) → list_any (eqb q) chain ≡ true → 0 < times q chain
listed q [] h = cc
listed q (x ∷ rest) h =
    elim (or_cases (eqb q x) (list_any (eqb q) rest) h) [
      | inl is ↦ omega (arith, cond-true {A = ℕ} (eqb x q) 1 0 (eqb_swap x q ∙ is))
      | inr more ↦ later q x rest (listed q rest more)
    ]

pub member_within : (heads : List (Option ℕ)) (turns : ℕ) (links : List Links) (chains : ℕ → List ℕ) → AreChains heads turns links chains → (chain t : ℕ) → 0 < times t (chains chain) → t < length links
member_within heads turns links chains a chain t has =
    let m = moment_there turns chain (links_of links t).due (stands_from heads turns links chains a chain t has) in
    within_from (λ l. l.due) links t m.0 refl m.1

chain_fits : (heads : List (Option ℕ)) (turns : ℕ) (links : List Links) (chains : ℕ → List ℕ) → AreChains heads turns links chains → (chain : ℕ) → length (chains chain) ≤ length links
chain_fits heads turns links chains a chain =
    length-le_from_distinct_below (chains chain) (length links) (distinct (chains chain) (few heads turns links chains a chain)) (λ q h. member_within heads turns links chains a chain q (listed q (chains chain) h))

held : (s : ℕ) (done rest : List ℕ) → 0 < times s (done ++ s ∷ rest)
held s [] rest = here s rest
held s (x ∷ done) rest = later s x (done ++ s ∷ rest) (held s done rest)

-- a slot between two parts of a chain is in neither
only_between : (s : ℕ) (done rest : List ℕ) → times s (done ++ s ∷ rest) ≤ 1 → (times s done ≡ 0) × (times s rest ≡ 0)
only_between s [] rest few_there = (refl, omega (arith, cond-true {A = ℕ} (eqb s s) 1 0 (eq-eqb s s refl)))
only_between s (x ∷ done) rest few_there =
    let more = only_between s done rest (omega arith) in
    let one = held s done rest in
    (omega (arith, more.0, one), more.1)

without_between : (s : ℕ) (done rest : List ℕ) → times s done ≡ 0 → times s rest ≡ 0 → without s (done ++ s ∷ rest) ≡ done ++ rest
without_between s [] rest before after = cond-true (eqb s s) (without s rest) (s ∷ without s rest) (eq-eqb s s refl) ∙ without_none s rest after
without_between s (x ∷ done) rest before after =
    cond-false (eqb x s) (without s (done ++ s ∷ rest)) (x ∷ without s (done ++ s ∷ rest)) (absent s x done before).0 ∙ ap (λ ys. x ∷ ys) (without_between s done rest (absent s x done before).1 after)

times-append : (t : ℕ) (xs ys : List ℕ) → times t (xs ++ ys) ≡ times t xs + times t ys
times-append t [] ys = omega arith
times-append t (x ∷ xs) ys = omega (arith, times-append t xs ys)

-- a walk along a chain: its slots so far aren't due
pub record IsPassing (now chain : ℕ) (wheel : Wheel) (links : List Links) (at : Option ℕ) : Type 0 where
  pub linked : IsLinked wheel links
  pub done : List ℕ
  pub rest : List ℕ
  pub split : linked.chains chain ≡ done ++ rest
  pub front : at ≡ first_of_chain rest
  pub passed : (s : ℕ) → 0 < times s done → is_due now (links_of links s).due ≡ false

pub passing_none : (now chain : ℕ) (wheel : Wheel) (links : List Links) (at : Option ℕ) → IsLinked wheel links → at ≡ get_or wheel.heads.items chain None → IsPassing now chain wheel links at
passing_none now chain wheel links at l is = record {
  linked = l;
  done = [];
  rest = l.chains chain;
  split = refl;
  front = is ∙ begins links None (get_or wheel.heads.items chain None) (l.chains chain) (l.linked.led chain);
  passed = λ s h. absurd (omega (arith, h));
}

-- the walk from a slot has the slots that are left
pub steps_left : (now chain : ℕ) (wheel : Wheel) (links : List Links) (at : Option ℕ) → (p : IsPassing now chain wheel links at) → walk (length links) links at ≡ p.rest
steps_left now chain wheel links at p =
    let l = p.linked in
    let P : List ℕ → Type 0 = λ xs. Leads links None (get_or wheel.heads.items chain None) xs in
    let led = led_end links None (get_or wheel.heads.items chain None) p.done p.rest (subst P p.split (l.linked.led chain)) in
    let fits = chain_fits wheel.heads.items wheel.turns links l.chains l.linked chain in
    let short : length p.rest ≤ length links = omega (arith, fits, ap length p.split, length-append p.done p.rest) in
    ap (walk (length links) links) p.front ∙ walk_led (length links) links led.0 (first_of_chain p.rest) p.rest led.1 short

next_there : (s : ℕ) (done rest : List ℕ) → first_of_chain rest ≡ Some s → 0 < times s (done ++ rest)
next_there s done [] h = absurd (none-some s h)
next_there s done (x ∷ rest) h =
    let P : ℕ → Type 0 = λ k. 0 < times k (done ++ x ∷ rest) in
    subst P (same_Some x s h) (held x done rest)

-- the next slot of a walk is one of the list
pub passing_within : (now chain : ℕ) (wheel : Wheel) (links : List Links) (at : Option ℕ) (s : ℕ) → IsPassing now chain wheel links at → at ≡ Some s → s < length links
passing_within now chain wheel links at s p is =
    let l = p.linked in
    let has = next_there s p.done p.rest (sym p.front ∙ is) in
    let P : List ℕ → Type 0 = λ xs. 0 < times s xs in
    member_within wheel.heads.items wheel.turns links l.chains l.linked chain s (subst P (sym p.split) has)

no_more : (rest : List ℕ) → first_of_chain rest ≡ None → rest ≡ []
no_more [] h = refl
no_more (x ∷ rest) h = absurd (none-some x (sym h))

-- at the end of a walk no slot of the chain is due
pub passing_all : (now chain : ℕ) (wheel : Wheel) (links : List Links) (at : Option ℕ) → IsPassing now chain wheel links at → at ≡ None → (s : ℕ) → stands wheel.turns chain (links_of links s).due ≡ true → is_due now (links_of links s).due ≡ false
passing_all now chain wheel links at p is s stood =
    let l = p.linked in
    let has = in_chain wheel.heads.items wheel.turns links l.chains l.linked chain s stood in
    let none = no_more p.rest (sym p.front ∙ is) in
    let there : 0 < times s p.done = omega (arith, has, ap (times s) p.split, times-append s p.done p.rest, ap (times s) none) in
    p.passed s there

in_either : (now : ℕ) (links : List Links) (s t : ℕ) (done : List ℕ) → is_due now (links_of links s).due ≡ false → ((k : ℕ) → 0 < times k done → is_due now (links_of links k).due ≡ false) → 0 < times t (done ++ s ∷ []) → is_due now (links_of links t).due ≡ false
in_either now links s t done not before has =
    elim (cases_Bool (eqb s t)) [
      | inl same ↦ ap (λ k. is_due now (links_of links k).due) (sym (eqb-true s t same)) ∙ not
      | inr other ↦ before t (omega (arith, times-append t done (s ∷ []), cond-false {A = ℕ} (eqb s t) 1 0 other))
    ]

still_not_due : (now : ℕ) (links after : List Links) (list longer : List ℕ) → AreTaken now (moments links) (moments after) list longer → (t : ℕ) → is_due now (links_of links t).due ≡ false → is_due now (links_of after t).due ≡ false
still_not_due now links after list longer taken t h =
    ap (is_due now) (sym (moment_of after t)) ∙ still_not now (moments links) (moments after) list longer taken t (ap (is_due now) (moment_of links t) ∙ h) (get_or (moments after) t None) refl

further : (now chain : ℕ) (old new : Wheel) (links after : List Links) (list longer : List ℕ) (s : ℕ) (at to : Option ℕ) (l : IsLinked old links) (done rest : List ℕ) → l.chains chain ≡ done ++ rest → first_of_chain rest ≡ Some s → ((t : ℕ) → 0 < times t done → is_due now (links_of links t).due ≡ false) → to ≡ (links_of links s).next → IsLinked new after → ((chains : ℕ → List ℕ) → AreChains old.heads.items old.turns links chains → AreChains new.heads.items new.turns after (λ c. passed now links s (chains c))) → AreTaken now (moments links) (moments after) list longer → (q : IsPassing now chain new after to) × (length q.rest + 1 ≡ length rest)
further now chain old new links after list longer s at to l done [] split is before next linked chains taken = absurd (none-some s is)
further now chain old new links after list longer s at to l done (x ∷ rest) split is before next linked chains taken =
    let same : x ≡ s = same_Some x s is in
    let P : List ℕ → Type 0 = λ xs. Leads links None (get_or old.heads.items chain None) xs in
    let Q : ℕ → Type 0 = λ k. Leads links (led_end links None (get_or old.heads.items chain None) done (x ∷ rest) (subst P split (l.linked.led chain))).0 (Some k) (k ∷ rest) in
    let led = led_end links None (get_or old.heads.items chain None) done (x ∷ rest) (subst P split (l.linked.led chain)) in
    let front = next ∙ next_is_first links led.0 s rest (subst Q same led.1) in
    let kept = λ (t : ℕ) (h : is_due now (links_of links t).due ≡ false). still_not_due now links after list longer taken t h in
    let here_split : l.chains chain ≡ done ++ s ∷ rest = split ∙ ap (λ k. done ++ k ∷ rest) same in
    let R : List ℕ → Type 0 = λ xs. times s xs ≤ 1 in
    let apart = only_between s done rest (subst R here_split (few old.heads.items old.turns links l.chains l.linked chain s)) in
    elim (cases_Bool (is_due now (links_of links s).due)) [
      | inl is_due_now ↦ (
        record {
          linked = record { heads = linked.heads; count = linked.count; room = linked.room; cleared = linked.cleared; chains = λ c. passed now links s (l.chains c); linked = chains l.chains l.linked };
          done = done;
          rest = rest;
          split = cond-true (is_due now (links_of links s).due) (without s (l.chains chain)) (l.chains chain) is_due_now ∙ ap (without s) here_split ∙ without_between s done rest apart.0 apart.1;
          front = front;
          passed = λ t has. kept t (before t has);
        },
        omega arith,
      )
      | inr not_due ↦ (
        record {
          linked = record { heads = linked.heads; count = linked.count; room = linked.room; cleared = linked.cleared; chains = λ c. passed now links s (l.chains c); linked = chains l.chains l.linked };
          done = done ++ s ∷ [];
          rest = rest;
          split = cond-false (is_due now (links_of links s).due) (without s (l.chains chain)) (l.chains chain) not_due ∙ here_split ∙ sym (append_assoc done (s ∷ []) rest);
          front = front;
          passed = λ t has. kept t (in_either now links s t done not_due before has);
        },
        omega arith,
      )
    ]

-- a walk goes one slot further
pub passing_more : (now chain : ℕ) (old new : Wheel) (links after : List Links) (list longer : List ℕ) (s : ℕ) (at to : Option ℕ) → (p : IsPassing now chain old links at) → at ≡ Some s → to ≡ (links_of links s).next → IsLinked new after → ((chains : ℕ → List ℕ) → AreChains old.heads.items old.turns links chains → AreChains new.heads.items new.turns after (λ c. passed now links s (chains c))) → AreTaken now (moments links) (moments after) list longer → (q : IsPassing now chain new after to) × (length q.rest + 1 ≡ length p.rest)
passing_more now chain old new links after list longer s at to p is next linked chains taken =
    further now chain old new links after list longer s at to p.linked p.done p.rest p.split (sym p.front ∙ is) p.passed next linked chains taken
