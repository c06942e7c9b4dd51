-- What callers see of a table.
use Rattle.std.specs.Prelude.{◌≡◌, ℕ, ◌≤◌, Bool, true, false, Option, Some, None, List, [], length}
use Rattle.std.specs.List.{filter, insert}
use Rattle.nat_types.specs.declared.pairs.EntryState.{EntryState}
use Rattle.nat_types.specs.declared.pairs.Key.{Key}
use Rattle.activity.specs.Lives.{History, Activity}
use Rattle.activity.specs.Rests.{AccountsFor}
use Rattle.port_range.specs.Ports.{is_listed, AreRising}
use Rattle.slots.specs.declared.hashers.Hashers.{Hashers}
use Rattle.bindings.specs.declared.entries.Entry.{Entry}
use Rattle.bindings.specs.declared.entries.PortBounds.{PortBounds}
use Rattle.bindings.specs.declared.ports.Ports.{Ports}
use Rattle.bindings.specs.Entries.{slot_of, is_alone_by, is_marked, HasDistinctKeys, HasDistinctEndpoints}
use Rattle.bindings.specs.Lists.{AreInOrder, IsOneToOne, place_in, put_in, without, with_state}
use Rattle.bindings.specs.Ports.{AreAlike, AreFree, in_either, lowest_of, highest_of, key_count}
use Rattle.bindings.specs.Lives.{HasPast, lives_without, idle_keys_in}

-- A table: its entries by protocol (icmp first) and port, their lives, the ports that the gateway owns, the ranges of
-- both gateways, for how many entries there is capacity, for how many more adds the table is ready, and by what it
-- hashes endpoints and inside addresses.
pub record Table : Type 0 where
  pub entries : List Entry
  pub lives : List Activity
  pub owned : List ℕ
  pub zero : PortBounds
  pub one : PortBounds
  pub capacity : ℕ
  pub ready : ℕ
  pub hashers : Hashers

-- the gateway owns a port
abbrev pub owns : Table → ℕ → Bool
owns t port = is_listed port t.owned

-- the entry of a key agrees with a past
abbrev pub IsPast : Table → Key → History → Type 0
IsPast t key past = HasPast t.entries t.lives key past

-- the entry of a key agrees with a past that accounts for these uses
abbrev pub Accounts : Table → Key → ℕ → List ℕ → Type 0
Accounts t key now uses = (past : History) × IsPast t key past × AccountsFor key.protocol now past uses

-- the keys of a table's idle entries that may be released, by protocol and port
abbrev pub idle_keys_of : Table → Bool → ℕ → List Key
idle_keys_of t lone now = idle_keys_in lone now t.entries t.lives

-- what each table keeps
pub record IsTable (t : Table) : Type 0 where
  pub order : AreInOrder t.entries
  pub keys : HasDistinctKeys t.entries
  pub endpoints : HasDistinctEndpoints t.entries
  pub one_to_one : IsOneToOne t.entries
  pub lives : length t.lives ≡ length t.entries
  pub within : length t.entries ≤ t.capacity
  pub room : t.capacity ≡ key_count t.zero t.one
  pub owned : (port : ℕ) → owns t port ≡ true → in_either t.zero t.one port ≡ true
  pub rising : AreRising t.owned

-- each entry's port lies in one of the ranges
abbrev pub AreInRanges : Table → Type 0
AreInRanges t = (key : Key) (entry : Entry) → slot_of t.entries key ≡ Some entry → in_either t.zero t.one key.port.0 ≡ true

-- a table for these ranges without entries and owned ports, that is ready for no add and hashes by these hashers
abbrev pub empty_table : PortBounds → PortBounds → Hashers → Table
empty_table zero one hashers = record {
  entries = [];
  lives = [];
  owned = [];
  zero = zero;
  one = one;
  capacity = key_count zero one;
  ready = 0;
  hashers = hashers;
}

abbrev pub is_marked_by : Option Entry → Bool
is_marked_by None = false
is_marked_by (Some e) = is_marked e.state

-- a key's entry is marked
abbrev pub is_marked_at : Table → Key → Bool
is_marked_at t key = is_marked_by (slot_of t.entries key)

-- a key's entry is Alone
abbrev pub is_alone_at : Table → Key → Bool
is_alone_at t key = is_alone_by (slot_of t.entries key)

-- the keys of a table's idle entries that are Alone, by protocol and port
abbrev pub alone_keys_of : Table → ℕ → List Key
alone_keys_of t now = filter (is_alone_at t) (idle_keys_of t false now)

-- the table with one more entry and its life
abbrev pub with_entry : Table → Entry → Activity → Table
with_entry t e life = record t {
  entries = put_in e t.entries;
  lives = insert t.lives (place_in e.pair t.entries) life;
}

-- the table with a key's entry in another state
abbrev pub with_entry_state : Table → Key → EntryState → Table
with_entry_state t key state = record t { entries = with_state key state t.entries }

-- the table without a key's entry
abbrev pub without_entry : Table → Key → Table
without_entry t key = record t { entries = without key t.entries; lives = lives_without key t.entries t.lives }

-- The parts of a table agree with one another, with capacity for all entries that may come.
pub record IsStored (entries : List Entry) (lives : List Activity) (ports : Ports) (zero one : PortBounds) (capacity places : ℕ) : Type 0 where
  pub order : AreInOrder entries
  pub keys : HasDistinctKeys entries
  pub endpoints : HasDistinctEndpoints entries
  pub alike : length lives ≡ length entries
  pub within : length entries ≤ capacity
  pub room : capacity ≡ key_count zero one
  pub fits : capacity ≤ places
  pub same : AreAlike (lowest_of zero one) (highest_of zero one) ports
  pub free : AreFree (lowest_of zero one) (highest_of zero one) entries ports
  pub owned : (port : ℕ) → is_listed port ports.tcp.owned ≡ true → in_either zero one port ≡ true
