-- The log of the neighbours that were learnt, and its index by address.
use Rattle.std.specs.Prelude.{◌≡◌, ◌≤◌, ◌<◌, ◌+◌, ◌-◌, ℕ, Bool, true, false, ◌==◌, nat_lt, List, [], ◌∷◌, length, map, take, slice_index, slice_index_or, vec_capacity, Option, Some, None, slice_set, if◌then◌else◌}
use Rattle.addresses.specs.declared.ethernet.Mac.{Mac}
use Rattle.arp.specs.declared.caches.TheConstants.{ENTRIES, VALID_FOR}
use Rattle.arp.specs.declared.caches.CacheEntry.{CacheEntry}
use Rattle.arp.specs.declared.learnt.TheConstants.{PLACES}
use Rattle.arp.specs.declared.learnt.Learnt.{Learnt}
use Rattle.arp.specs.declared.learnt.Spot.{Spot}
use Rattle.arp.specs.Neighbours.{all_sent, sent_entry, wants_asking, after_one_left}

-- the entries of the places that aren't empty
abbrev pub kept : List (Option CacheEntry) → List CacheEntry
kept [] = []
kept (None ∷ places) = kept places
kept (Some e ∷ places) = e ∷ kept places

-- a place has an entry of that address
abbrev pub is_of : ℕ → Option CacheEntry → Bool
is_of address None = false
is_of address (Some e) = e.address.0 == address

-- the hardware address of a place's entry, if the entry is valid
abbrev pub valid_mac : ℕ → Option CacheEntry → Option Mac
valid_mac now None = None
valid_mac now (Some e) = if nat_lt (now - e.at) VALID_FOR then Some e.mac else None

-- a place has an entry for which a request is due
abbrev pub place_asks : ℕ → Option CacheEntry → Bool
place_asks now None = false
place_asks now (Some e) = wants_asking now e

-- the place after a packet was sent by its entry at the time `now`
abbrev pub place_sent : ℕ → Option CacheEntry → Option CacheEntry
place_sent now None = None
place_sent now (Some e) = Some (sent_entry now e)

abbrev pub entry_addresses : List CacheEntry → List ℕ
entry_addresses entries = map (λ e. e.address.0) entries

abbrev pub spot_addresses : List Spot → List ℕ
spot_addresses spots = map (λ s. s.address.0) spots

-- how often an address is in a list
abbrev pub tally : ℕ → List ℕ → ℕ
tally address [] = 0
tally address (a ∷ rest) = (if a == address then 1 else 0) + tally address rest

abbrev pub IsRising : List ℕ → Type 0
IsRising xs = (i j : ℕ) → i < j → j < length xs → slice_index xs i < slice_index xs j

-- x is at place i of a list
pub record IsAt (xs : List ℕ) (x i : ℕ) : Type 0 where
  pub within : i < length xs
  pub is : slice_index xs i ≡ x

-- x would be inserted at place i: lower numbers are before it, and greater ones from it on
pub record IsGapFor (xs : List ℕ) (x i : ℕ) : Type 0 where
  pub within : i ≤ length xs
  pub lower : (j : ℕ) → j < i → slice_index xs j < x
  pub greater : (j : ℕ) → i ≤ j → j < length xs → x < slice_index xs j

-- the place that is `at` once place `out` is removed
abbrev pub place_without : ℕ → ℕ → ℕ
place_without out at = if nat_lt out at then at - 1 else at

-- place i of the log has an entry of that address
pub record IsPlaceOf (address : ℕ) (log : List (Option CacheEntry)) (i : ℕ) : Type 0 where
  pub within : i < length log
  pub is : is_of address (slice_index_or log i None) ≡ true

-- the first entry of the log is that of place i
pub record IsFirst (log : List (Option CacheEntry)) (i : ℕ) (e : CacheEntry) : Type 0 where
  pub within : i < length log
  pub is : slice_index_or log i None ≡ Some e
  pub before : kept (take i log) ≡ []

-- the first entry of the log by which no packet was sent is that of place i
pub record IsFirstUnsent (log : List (Option CacheEntry)) (i : ℕ) (e : CacheEntry) : Type 0 where
  pub within : i < length log
  pub is : slice_index_or log i None ≡ Some e
  pub unsent : e.sent ≡ false
  pub before : all_sent (kept (take i log)) ≡ true

-- the entry that leaves a full cache is that of place i
pub record IsLeaving (log : List (Option CacheEntry)) (i : ℕ) (e : CacheEntry) : Type 0 where
  pub within : i < length log
  pub is : slice_index_or log i None ≡ Some e
  pub rest : kept (slice_set log i None) ≡ after_one_left (kept log)

-- a log and its index agree: the index has each entry's address once, in order, and the places before the start are
-- empty
pub record IsIndexed (log : List (Option CacheEntry)) (start : ℕ) (index : List Spot) : Type 0 where
  pub rising : IsRising (spot_addresses index)
  pub same : (a : ℕ) → tally a (entry_addresses (kept log)) ≡ tally a (spot_addresses index)
  pub count : length (kept log) ≡ length index
  pub most : length index ≤ ENTRIES
  pub within : start ≤ length log
  pub front : kept (take start log) ≡ []

-- log and index agree, and their capacity suffices for all that may be learnt
pub record IsLearnt (l : Learnt) : Type 0 where
  pub indexed : IsIndexed l.log.items l.start l.index.items
  pub places : length l.log.items ≤ PLACES
  pub log_room : PLACES ≤ vec_capacity l.log
  pub index_room : ENTRIES ≤ vec_capacity l.index
