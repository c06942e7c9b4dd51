-- When a table looks at its entries again. A slot is due at the moment of its entry's next look.
use Rattle.std.specs.Prelude.{◌≡◌, ℕ, ◌≤◌, Bool, true, false, ◌&&◌, Option, Some, None, List, length, count_by, if◌then◌else◌}
use Rattle.std.specs.List.{filter}
use Rattle.nat_types.specs.declared.pairs.EntryState.{EntryState}
use Rattle.nat_types.specs.declared.pairs.Key.{Key}
use Rattle.nat_types.specs.Same.{same_key}
use Rattle.activity.specs.Lives.{Activity}
use Rattle.activity.specs.Dues.{due_moment}
use Rattle.slots.specs.declared.numbers.SlotNumber.{SlotNumber}
use Rattle.slots.specs.Dues.{moment_of, times}
use Rattle.slots.specs.Rows.{PortSlots, Row, row_of, number_of}
use Rattle.bindings.specs.declared.entries.Entry.{Entry}
use Rattle.bindings.specs.declared.store.Item.{Item}
use Rattle.bindings.specs.declared.watches.Watch.{Watch}
use Rattle.bindings.specs.declared.watches.Watch.TheVariants.{OnlyAlone, Own, HeldToo}
use Rattle.bindings.specs.Entries.{is_alone, is_alone_by, slot_of}
use Rattle.bindings.specs.Lives.{rests_at, may_go, idle_keys_in, is_among}

-- entries of this state are looked at
abbrev pub is_watched : Watch → EntryState → Bool
is_watched OnlyAlone state = is_alone state
is_watched Own state = may_go false state
is_watched HeldToo state = may_go true state

-- the watch that looks at the entries that may be released, and at no others
abbrev pub watch_of : Bool → Watch
watch_of lone = (if lone then HeldToo else Own)

-- all entries at which the second looks are looked at by the first
abbrev pub covers : Watch → Watch → Bool
covers HeldToo watch = true
covers Own OnlyAlone = true
covers Own Own = true
covers Own HeldToo = false
covers OnlyAlone OnlyAlone = true
covers OnlyAlone Own = false
covers OnlyAlone HeldToo = false

-- a row's slot is due at a moment that isn't later than the one from which its entry is idle
abbrev pub IsTimed : List (Option ℕ) → Row Item → Type 0
IsTimed moments r =
    (moment : ℕ) × (moment_of moments r.number ≡ Some moment) × (moment ≤ due_moment r.key.protocol r.item.life)

-- a key's entry is looked at in time, where it is looked at
abbrev pub IsTimedAt : Watch → List (Option ℕ) → List (Row Item) → Key → Type 0
IsTimedAt watch moments rows key =
    (r : Row Item) → row_of rows key ≡ Some r → is_watched watch r.item.entry.state ≡ true → IsTimed moments r

-- each entry that is looked at is looked at in time
abbrev pub AreTimed : Watch → List (Option ℕ) → List (Row Item) → Type 0
AreTimed watch moments rows = (key : Key) → IsTimedAt watch moments rows key

-- each entry that is looked at and whose key isn't listed is looked at in time
abbrev pub AreTimedBut : Watch → List Key → List (Option ℕ) → List (Row Item) → Type 0
AreTimedBut watch keys moments rows = (key : Key) → is_among key keys ≡ false → IsTimedAt watch moments rows key

-- the slots of all other keys are due as before
abbrev pub KeepsDues : List (Row Item) → Key → List (Option ℕ) → List (Option ℕ) → Type 0
KeepsDues rows key old new =
    (q : Key) (n : SlotNumber) → number_of rows q ≡ Some n → (q ≡ key → ⊥) → moment_of new n ≡ moment_of old n

-- what a store keeps: there is a moment or none for each slot, and capacity to list so many keys
pub record AreWatched (watch : Watch) (moments : List (Option ℕ)) (slots : PortSlots Item) (places : ℕ) : Type 0 where
  pub timed : AreTimed watch moments slots.rows
  pub count : length moments ≡ slots.limit
  pub room : slots.limit ≤ places

-- how often a key is listed
abbrev pub key_times : Key → List Key → ℕ
key_times key keys = count_by (λ k. same_key k key) keys

-- each key is listed as often as its slot
abbrev pub AreListed : List (Row Item) → List ℕ → List Key → Type 0
AreListed rows found keys =
    (key : Key) (n : SlotNumber) → number_of rows key ≡ Some n → key_times key keys ≡ times n.0 found

abbrev pub is_watched_by : Watch → Option Entry → Bool
is_watched_by watch None = false
is_watched_by watch (Some e) = is_watched watch e.state

-- a key's entry is looked at, and is idle
abbrev pub is_idle_key : Watch → ℕ → List Entry → List Activity → Key → Bool
is_idle_key watch now es ls key = is_watched_by watch (slot_of es key) && rests_at es ls key now

-- the keys among these whose entries are looked at and are idle
abbrev pub idle_among : Watch → ℕ → List Entry → List Activity → List Key → List Key
idle_among watch now es ls keys = filter (is_idle_key watch now es ls) keys

-- the keys of all idle entries that are looked at, in the order of the list
abbrev pub watched_keys : Watch → ℕ → List Entry → List Activity → List Key
watched_keys OnlyAlone now es ls = filter (λ key. is_alone_by (slot_of es key)) (idle_keys_in false now es ls)
watched_keys Own now es ls = idle_keys_in false now es ls
watched_keys HeldToo now es ls = idle_keys_in true now es ls
