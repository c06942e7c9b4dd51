-- Slots in 1,024 chains by their due moments, each slot with the numbers of its neighbours.
use Rattle.std.specs.Prelude.{◌≡◌, ℕ, ◌+◌, ◌/◌, ◌%◌, ◌<◌, Bool, false, cond, nat_eq, max, List, [], ◌∷◌, length, map, Option, Some, None, IfSome}
use Rattle.std.proofs.Common.{get_or}
use Rattle.timers.specs.declared.links.Links.{Links}

-- the links of a slot that is in no chain
abbrev pub unset_links : Links
unset_links = record { next = None; previous = None; due = None }

-- the links of a slot by its number
abbrev pub links_of : List Links → ℕ → Links
links_of links slot = get_or links slot unset_links

-- the moment of a slot with these links
abbrev pub due_of : Links → Option ℕ
due_of links = links.due

-- a slot's number, if there is one, is that of a slot of the list
abbrev pub IsSlot : List Links → Option ℕ → Type 0
IsSlot links slot = IfSome slot (λ s. s < length links)

-- a slot's number, if there is one, is below the limit
abbrev pub IsBelow : ℕ → Option ℕ → Type 0
IsBelow limit slot = IfSome slot (λ s. s < limit)

-- for each slot its moment, or None where it isn't set
abbrev pub moments : List Links → List (Option ℕ)
moments links = map (λ l. l.due) links

-- the chain of a moment, once the wheel has turned so many times: the wheel turns by a chain in 1,024 centiseconds, and
-- a moment that has passed is in the present chain
abbrev pub chain_of : ℕ → ℕ → ℕ
chain_of turns due = max turns (due / 1024) % 1024

-- a slot of a moment is in a chain
abbrev pub stands : ℕ → ℕ → Option ℕ → Bool
stands turns chain None = false
stands turns chain (Some due) = nat_eq (chain_of turns due) chain

-- how often a slot is in a chain
abbrev pub times : ℕ → List ℕ → ℕ
times slot [] = 0
times slot (other ∷ rest) = cond (nat_eq other slot) 1 0 + times slot rest

-- from the slot `at` on, the links lead through these slots, and back to the slot before them
unfoldable pub Leads : List Links → Option ℕ → Option ℕ → List ℕ → Type 0
Leads links previous at [] = at ≡ None
Leads links previous at (slot ∷ rest) = (at ≡ Some slot) × ((links_of links slot).previous ≡ previous) × Leads links (Some slot) (links_of links slot).next rest

-- a slot that isn't set has no neighbours
abbrev pub AreCleared : List Links → Type 0
AreCleared links = (slot : ℕ) → (links_of links slot).due ≡ None → links_of links slot ≡ unset_links

-- from these heads the links lead through these chains, and each slot that is set is in its own chain once, and in no
-- other
pub record AreChains (heads : List (Option ℕ)) (turns : ℕ) (links : List Links) (chains : ℕ → List ℕ) : Type 0 where
  pub led : (chain : ℕ) → Leads links None (get_or heads chain None) (chains chain)
  pub once : (chain slot : ℕ) → times slot (chains chain) ≡ cond (stands turns chain (links_of links slot).due) 1 0
