-- What callers see of an index from endpoints to slots.
use Rattle.std.specs.Prelude.{◌≡◌, ℕ, ◌+◌, ◌-◌, ◌<◌, Bool, ◌&&◌, All, List, [], ◌∷◌, Option, None, Some, sum_by, min, if◌then◌else◌}
use Rattle.addresses.specs.declared.internet.Ip.{Ip}
use Rattle.nat_types.specs.declared.pairs.Endpoint.{Endpoint}
use Rattle.nat_types.specs.Same.{same_endpoint}
use Rattle.slots.specs.declared.numbers.SlotNumber.{SlotNumber}
use Rattle.slots.specs.declared.ranks.Rank.{Rank}
use Rattle.slots.specs.declared.ranks.Places.{Places}
use Rattle.slots.specs.Ranks.{same_rank, no_places, slot_in, first_slot, slot_count}
use Rattle.slots.specs.Counts.{AddressCounts, is_address, count_at}

-- the endpoints with their slots, in no certain order, how many more slots fit without more memory, and what makes its
-- hashers
pub record EndpointIndex (S : Type 0) : Type 0 where
  pub entries : List (Endpoint × Places)
  pub spare : ℕ
  pub hasher : S

-- the slots of an endpoint
abbrev pub look_up : List (Endpoint × Places) → Endpoint → Places
look_up [] x = no_places
look_up (e ∷ es) x = (if same_endpoint x e.0 then e.1 else look_up es x)

-- the slot of an endpoint of this rank
abbrev pub slot_on : {S : Type 0} → EndpointIndex S → Rank → Endpoint → Option SlotNumber
slot_on index rank x = slot_in rank (look_up index.entries x)

-- the slot of an endpoint of the first rank, else that of the second
abbrev pub slot_of : {S : Type 0} → EndpointIndex S → Endpoint → Option SlotNumber
slot_of index x = first_slot (look_up index.entries x)

-- the slots with that of this rank and endpoint replaced
abbrev pub set_on : (Rank → Endpoint → Option SlotNumber) → Rank → Endpoint → Option SlotNumber → Rank → Endpoint → Option SlotNumber
set_on slots rank x slot r q = (if same_rank rank r && same_endpoint x q then slot else slots r q)

-- how many of these slots of an endpoint count for an address
abbrev pub slots_for : Ip → Endpoint → Places → ℕ
slots_for address x places = (if is_address x.address address then slot_count places else 0)

-- how many slots the endpoints of an address have
abbrev pub slots_at : Ip → List (Endpoint × Places) → ℕ
slots_at address entries = sum_by (λ e. slots_for address e.0 e.1) entries

-- how many slots all endpoints have
abbrev pub slots_among : List (Endpoint × Places) → ℕ
slots_among entries = sum_by (λ e. slot_count e.1) entries

abbrev pub count_in : {S : Type 0} → EndpointIndex S → Ip → ℕ
count_in index address = slots_at address index.entries

-- the counts of addresses are those of the slots of their endpoints
abbrev pub AreCounted : List (Endpoint × Places) → AddressCounts → Type 0
AreCounted entries counts = (address : Ip) → count_at counts.entries address ≡ slots_at address entries

-- each endpoint that is listed has a slot
abbrev pub AreServed : List (Endpoint × Places) → Type 0
AreServed entries = All (λ e. 0 < slot_count e.1) entries

-- an endpoint was given these slots, or left the list where there are none, and the slots of each other endpoint stayed
pub record AreRewritten (old : List (Endpoint × Places)) (x : Endpoint) (places : Places) (new : List (Endpoint × Places)) : Type 0 where
  pub slots : (q : Endpoint) → look_up new q ≡ (if same_endpoint x q then places else look_up old q)
  pub counted : (address : Ip) → slots_at address new + slots_for address x (look_up old x) ≡ slots_at address old + slots_for address x places
  pub all : slots_among new + slot_count (look_up old x) ≡ slots_among old + slot_count places

-- how many more slots fit: into either map without more memory, and so that a count fits in 32 bits
abbrev pub spare_of : ℕ → ℕ → ℕ → ℕ
spare_of slots endpoints addresses = min (min endpoints addresses) (4294967295 - slots)
