-- What single calls do to a wheel and its slots.
use Rattle.std.specs.Prelude.{◌≡◌, ℕ, ◌+◌, ◌-◌, ◌/◌, ◌++◌, true, false, cond, nat_eq, min, List, [], ◌∷◌, map, slice_set, Option, Some, None, is_some}
use Rattle.std.proofs.Common.{get_or}
use Rattle.std.specs.List.Sorted.{IsPermutation}
use Rattle.timers.specs.Due.{is_due, due_slots, cleared}
use Rattle.timers.specs.declared.links.Links.{Links}
use Rattle.timers.specs.Chains.{links_of, stands}

-- a chain without a slot
abbrev pub without : ℕ → List ℕ → List ℕ
without slot [] = []
without slot (other ∷ rest) = cond (nat_eq other slot) (without slot rest) (other ∷ without slot rest)

-- the links with `next` as the slot after a slot, where there is one
abbrev pub with_next : List Links → Option ℕ → Option ℕ → List Links
with_next links None next = links
with_next links (Some slot) next = slice_set links slot (record (links_of links slot) { next = next })

-- the links with `previous` as the slot before a slot, where there is one
abbrev pub with_previous : List Links → Option ℕ → Option ℕ → List Links
with_previous links None previous = links
with_previous links (Some slot) previous = slice_set links slot (record (links_of links slot) { previous = previous })

-- the heads after the slot with these links was removed from a chain
abbrev pub with_head : List (Option ℕ) → ℕ → Links → List (Option ℕ)
with_head heads chain links = cond (is_some links.previous) heads (slice_set heads chain links.next)

-- a chain after one of its slots was passed: without the slot where it was due
abbrev pub passed : ℕ → List Links → ℕ → List ℕ → List ℕ
passed now links slot chain = cond (is_due now (links_of links slot).due) (without slot chain) chain

-- how many chains there are from the present one to that of `now`, each counted once
abbrev pub chain_count : ℕ → ℕ → ℕ
chain_count turns now = min (now / 1024 - turns) 1023 + 1

-- some due slots were cleared and appended; no slot was set
pub record AreTaken (now : ℕ) (before after : List (Option ℕ)) (list new : List ℕ) : Type 0 where
  pub taken : List ℕ
  pub appended : new ≡ list ++ taken
  pub found : IsPermutation (due_slots now before) (taken ++ due_slots now after)
  pub cleared : map (cleared now) after ≡ map (cleared now) before
  pub left : (slot due : ℕ) → get_or after slot None ≡ Some due → get_or before slot None ≡ Some due

-- no slot in a chain is due
abbrev pub HasNoneDue : ℕ → ℕ → ℕ → List Links → Type 0
HasNoneDue turns chain now links = (slot : ℕ) → stands turns chain (links_of links slot).due ≡ true → is_due now (links_of links slot).due ≡ false

-- no slot is due
abbrev pub AreNoneDue : ℕ → List Links → Type 0
AreNoneDue now links = (slot : ℕ) → is_due now (links_of links slot).due ≡ false
