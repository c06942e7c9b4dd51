-- The entries of a table in slots, and what the index of endpoints has of them.
use Rattle.std.specs.Prelude.{◌≡◌, ℕ, Bool, Option, List, [], ◌∷◌, map, if◌then◌else◌}
use Rattle.std.specs.List.{find}
use Rattle.std.specs.Option.{option_map}
use Rattle.addresses.specs.declared.internet.Ip.{Ip}
use Rattle.nat_types.specs.declared.pairs.Endpoint.{Endpoint}
use Rattle.nat_types.specs.declared.pairs.EntryState.{EntryState}
use Rattle.nat_types.specs.declared.pairs.Key.{Key}
use Rattle.activity.specs.Lives.{Activity}
use Rattle.slots.specs.declared.numbers.SlotNumber.{SlotNumber}
use Rattle.slots.specs.declared.hashers.Hashers.{Hashers}
use Rattle.slots.specs.Rows.{Row}
use Rattle.slots.specs.declared.ranks.Rank.{Rank}
use Rattle.slots.specs.Endpoints.{EndpointIndex, count_in, slot_on}
use Rattle.bindings.specs.declared.entries.Entry.{Entry}
use Rattle.bindings.specs.declared.store.Item.{Item}
use Rattle.bindings.specs.declared.tallies.Sought.{Sought}
use Rattle.bindings.specs.declared.tallies.Sought.TheVariants.{ToMark, ToTell}
use Rattle.bindings.specs.declared.tallies.Tally.{Tally}
use Rattle.bindings.specs.Entries.{serves, is_pair_of, pairs_of, waits, is_alone, state_count}

-- entries and their lives, for how many there is capacity, for how many more pairs the index has capacity, by what it
-- hashes, and the keys that were found last to be looked at
pub record Store : Type 0 where
  pub entries : List Entry
  pub lives : List Activity
  pub room : ℕ
  pub spare : ℕ
  pub hashers : Hashers
  pub found : List Key

abbrev pub entries_of : List (Row Item) → List Entry
entries_of rows = map (λ r. r.item.entry) rows

abbrev pub lives_of : List (Row Item) → List Activity
lives_of rows = map (λ r. r.item.life) rows

-- each row is under its entry's key
abbrev pub AreKeyed : List (Row Item) → Type 0
AreKeyed [] = Unit {0}
AreKeyed (r ∷ rows) = (r.key ≡ r.item.entry.pair.key) × AreKeyed rows

-- the slot of the first pair of that rank that serves an endpoint
abbrev pub number_for : List (Row Item) → Rank → Endpoint → Option SlotNumber
number_for rows rank x = option_map (λ r. r.number) (find (λ r. serves rank x r.item.entry) rows)

-- 1 where the entry is a pair of that inside address, else 0
abbrev pub one_of : Ip → Entry → ℕ
one_of address e = (if is_pair_of address e then 1 else 0)

-- The index has the slot of each pair, and no other, and counts the pairs of each inside address.
pub record IsIndexed (rows : List (Row Item)) (index : EndpointIndex Hashers) : Type 0 where
  pub keyed : AreKeyed rows
  pub indexed : (rank : Rank) (x : Endpoint) → slot_on index rank x ≡ number_for rows rank x
  pub counted : (address : Ip) → count_in index address ≡ pairs_of address (entries_of rows)

-- 1 where the state passes, else 0
abbrev pub one_if : (EntryState → Bool) → EntryState → ℕ
one_if test state = (if test state then 1 else 0)

-- the count of those that are sought
abbrev pub tally_of : Sought → Tally → ℕ
tally_of ToMark tally = tally.waiting
tally_of ToTell tally = tally.alone

-- the counts are those of these entries
pub record IsTally (entries : List Entry) (tally : Tally) : Type 0 where
  pub waiting : tally.waiting ≡ state_count waits entries
  pub alone : tally.alone ≡ state_count is_alone entries
