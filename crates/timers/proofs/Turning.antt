-- The chains from the wheel's present one to that of a moment.
use Rattle.std.proofs.Common.{◌≡◌, ℕ, suc, ◌+◌, ◌-◌, ◌/◌, ◌%◌, ◌<◌, ◌≤◌, true, false, cond, max, nat_le, eqb, Option, Some, None, inl, inr, List, [], ◌∷◌, ◌++◌, length, get_or, map, take, drop, append-nil, refl, sym, ap, ◌∙◌, subst, arith}
use Rattle.std.specs.List.Sorted.{IsPermutation}
use Rattle.std.proofs.lemmas.Bool.{cond-false, cases_Bool, eq-eqb, leb-true, leb-false}
use Rattle.timers.specs.Due.{is_due, due_from, due_slots, cleared}
use Rattle.timers.specs.declared.links.Links.{Links}
use Rattle.timers.specs.declared.wheel.Wheel.{Wheel}
use Rattle.timers.specs.Chains.{links_of, stands, chain_of, AreChains, moments}
use Rattle.timers.specs.Steps.{chain_count}
use Rattle.timers.specs.Linked.{IsLinked}
use Rattle.timers.specs.Steps.{AreTaken, HasNoneDue, AreNoneDue}
use Rattle.timers.proofs.Counting.{moment_of}
use Rattle.timers.proofs.Standing.{moment_there}

quotient_le : (a b : ℕ) → a ≤ b → a / 1024 ≤ b / 1024
quotient_le a b h = omega arith

-- the chain of a due moment is one of the chains that are passed
pub due_chain : (turns now due : ℕ) → due ≤ now → (k : ℕ) × (k < chain_count turns now) × ((turns % 1024 + k) % 1024 ≡ chain_of turns due)
due_chain turns now due h =
    let far : ℕ = max turns (due / 1024) - turns in (
      far % 1024,
      omega (arith, quotient_le due now h),
      omega arith,
    )

-- a moment that isn't due keeps its chain after the wheel has turned to `now`
same_chain : (turns now due : ℕ) → now < due → chain_of (max turns (now / 1024)) due ≡ chain_of turns due
same_chain turns now due h =
    let same : max (max turns (now / 1024)) (due / 1024) ≡ max turns (due / 1024) = omega (arith, quotient_le now due (omega arith)) in
    ap (λ n. n % 1024) same

-- a chain without due slots has none while slots are unset
pub stays_none : (turns chain now : ℕ) (links after : List Links) (list new : List ℕ) → AreTaken now (moments links) (moments after) list new → HasNoneDue turns chain now links → HasNoneDue turns chain now after
stays_none turns chain now links after list new taken none s stood =
    let m = moment_there turns chain (links_of after s).due stood in
    let before : (links_of links s).due ≡ Some m.0 = sym (moment_of links s) ∙ taken.left s m.0 (moment_of after s ∙ m.1) in
    let same : (links_of links s).due ≡ (links_of after s).due = before ∙ sym m.1 in
    ap (is_due now) (sym same) ∙ none s (ap (stands turns chain) same ∙ stood)

none_at : (turns now : ℕ) (links : List Links) (s : ℕ) → ((k : ℕ) → k < chain_count turns now → HasNoneDue turns ((turns % 1024 + k) % 1024) now links) → (o : Option ℕ) → (links_of links s).due ≡ o → is_due now o ≡ false
none_at turns now links s none None is = refl
none_at turns now links s none (Some due) is =
    elim (cases_Bool (nat_le due now)) [
      | inl passed ↦ (
          let there = due_chain turns now due (leb-true due now passed) in
          let stood : stands turns ((turns % 1024 + there.0) % 1024) (Some due) ≡ true = eq-eqb (chain_of turns due) ((turns % 1024 + there.0) % 1024) (sym there.2) in
          ap (is_due now) (sym is) ∙ none there.0 there.1 s (ap (stands turns ((turns % 1024 + there.0) % 1024)) is ∙ stood)
          )
      | inr not ↦ not
    ]

-- once the chains from the present one to that of `now` have no due slot, no slot is due
pub none_left : (turns now : ℕ) (links : List Links) → ((k : ℕ) → k < chain_count turns now → HasNoneDue turns ((turns % 1024 + k) % 1024) now links) → AreNoneDue now links
none_left turns now links none s = none_at turns now links s none (links_of links s).due refl

same_stands : (turns now chain : ℕ) (o : Option ℕ) → is_due now o ≡ false → stands (max turns (now / 1024)) chain o ≡ stands turns chain o
same_stands turns now chain None not = refl
same_stands turns now chain (Some due) not =
    ap (λ c. eqb c chain) (same_chain turns now due (leb-false due now not))

-- a linked wheel where no slot is due is linked after it has turned to `now`
pub turned : (old new : Wheel) (now : ℕ) (links : List Links) → IsLinked old links → AreNoneDue now links → new.heads.items ≡ old.heads.items → new.turns ≡ max old.turns (now / 1024) → new.count ≡ old.count → IsLinked new links
turned old new now links l none heads turns count =
    let P : List (Option ℕ) → Type 0 = λ hs. AreChains hs new.turns links l.chains in
    let Q : ℕ → Type 0 = λ n. AreChains old.heads.items n links l.chains in
    let a : AreChains old.heads.items (max old.turns (now / 1024)) links l.chains = record {
      led = l.linked.led;
      once = λ chain s. l.linked.once chain s ∙ ap (λ b. cond {A = ℕ} b 1 0) (sym (same_stands old.turns now chain (links_of links s).due (none s)));
    } in
    record {
      heads = ap length heads ∙ l.heads;
      count = count ∙ l.count;
      room = l.room;
      cleared = l.cleared;
      chains = l.chains;
      linked = subst P (sym heads) (subst Q (sym turns) a);
    }

-- where no slot is due none is found, and unsetting the due ones changes nothing
none_found : (now first : ℕ) (ms : List (Option ℕ)) → ((s : ℕ) → is_due now (get_or ms s None) ≡ false) → due_from now first ms ≡ []
none_found now first [] none = refl
none_found now first (m ∷ ms) none =
    cond-false (is_due now m) (first ∷ due_from now (first + 1) ms) (due_from now (first + 1) ms) (none 0) ∙ none_found now (first + 1) ms (λ s. none (suc s))

none_cleared : (now : ℕ) (ms : List (Option ℕ)) → ((s : ℕ) → is_due now (get_or ms s None) ≡ false) → map (cleared now) ms ≡ ms
none_cleared now [] none = refl
none_cleared now (m ∷ ms) none =
    ap (λ o. o ∷ map (cleared now) ms) (cond-false (is_due now m) None m (none 0)) ∙ ap (λ os. m ∷ os) (none_cleared now ms (λ s. none (suc s)))

by_moment : (now : ℕ) (links : List Links) → AreNoneDue now links → (s : ℕ) → is_due now (get_or (moments links) s None) ≡ false
by_moment now links none s = ap (is_due now) (moment_of links s) ∙ none s

drop_front : (xs ys : List ℕ) → drop (length xs) (xs ++ ys) ≡ ys
drop_front [] ys = refl
drop_front (x ∷ xs) ys = drop_front xs ys

take_front : (xs ys : List ℕ) → take (length xs) (xs ++ ys) ≡ xs
take_front [] ys = refl
take_front (x ∷ xs) ys = ap (λ zs. x ∷ zs) (take_front xs ys)

-- all due slots were appended
pub all_found : (now : ℕ) (links after : List Links) (list new : List ℕ) → AreTaken now (moments links) (moments after) list new → AreNoneDue now after → IsPermutation (due_slots now (moments links)) (drop (length list) new)
all_found now links after list new taken none =
    let P : List ℕ → Type 0 = λ xs. IsPermutation (due_slots now (moments links)) (taken.taken ++ xs) in
    let Q : List ℕ → Type 0 = λ xs. IsPermutation (due_slots now (moments links)) xs in
    let left : Q taken.taken = subst Q (append-nil taken.taken) (subst P (none_found now 0 (moments after) (by_moment now after none)) taken.found) in
    subst Q (sym (ap (drop (length list)) taken.appended ∙ drop_front list taken.taken)) left

pub all_cleared : (now : ℕ) (links after : List Links) (list new : List ℕ) → AreTaken now (moments links) (moments after) list new → AreNoneDue now after → moments after ≡ map (cleared now) (moments links)
all_cleared now links after list new taken none = sym (none_cleared now (moments after) (by_moment now after none)) ∙ taken.cleared

pub all_kept : (now : ℕ) (links after : List Links) (list new : List ℕ) → AreTaken now (moments links) (moments after) list new → take (length list) new ≡ list
all_kept now links after list new taken = ap (take (length list)) taken.appended ∙ take_front list taken.taken
