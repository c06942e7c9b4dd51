-- What callers see of slots: items under keys, by protocol (icmp first) and port, each with the number of its slot.
use Rattle.std.specs.Prelude.{◌≡◌, ℕ, suc, ◌+◌, ◌*◌, ◌<◌, ◌≤◌, Bool, true, not, nat_lt, List, [], ◌∷◌, map, Option, None, Some, cond, if◌then◌else◌}
use Rattle.std.specs.List.{find, filter}
use Rattle.std.specs.Option.{option_map}
use Rattle.addresses.specs.Transport.{protocol_number}
use Rattle.nat_types.specs.declared.pairs.Key.{Key}
use Rattle.nat_types.specs.Same.{same_key}
use Rattle.slots.specs.declared.numbers.SlotNumber.{SlotNumber}

-- an item under its key, and the number of its slot
pub record Row (T : Type 0) : Type 0 where
  pub key : Key
  pub number : SlotNumber
  pub item : T

-- the rows by protocol (icmp first) and port, for how many there is capacity, and a limit above all numbers of slots
pub record PortSlots (T : Type 0) : Type 0 where
  pub rows : List (Row T)
  pub room : ℕ
  pub limit : ℕ

-- a key's place in the order by protocol (icmp first) and port
abbrev pub key_place : Key → ℕ
key_place key = 65536 * protocol_number key.protocol + key.port.0

module _ {T : Type 0} where
  abbrev pub has_key : Key → Row T → Bool
  has_key key row = same_key row.key key

  -- the row of a key, its item, and its slot
  abbrev pub row_of : List (Row T) → Key → Option (Row T)
  row_of rows key = find (has_key key) rows

  abbrev pub item_of : List (Row T) → Key → Option T
  item_of rows key = option_map (λ r. r.item) (row_of rows key)

  abbrev pub number_of : List (Row T) → Key → Option SlotNumber
  number_of rows key = option_map (λ r. r.number) (row_of rows key)

  -- the rows with one more, at its place in the order
  abbrev pub put_in : Row T → List (Row T) → List (Row T)
  put_in r [] = r ∷ []
  put_in r (x ∷ xs) = (if nat_lt (key_place r.key) (key_place x.key) then r ∷ x ∷ xs else x ∷ put_in r xs)

  -- the rows but that of the key
  abbrev pub without : Key → List (Row T) → List (Row T)
  without key rows = filter (λ r. not (has_key key r)) rows

  -- the rows, where that of the key has this item
  abbrev pub with_item : Key → T → List (Row T) → List (Row T)
  with_item key item rows = map (λ r. cond (has_key key r) (record r { item = item }) r) rows

  -- a row is after a key; each row is where there is no key
  abbrev pub stands_behind : Option Key → Row T → Bool
  stands_behind None r = true
  stands_behind (Some key) r = nat_lt (key_place key) (key_place r.key)

  -- each row's place is at least `low`, and after that of the row before it
  abbrev pub Rises : ℕ → List (Row T) → Type 0
  Rises low [] = Unit {0}
  Rises low (r ∷ rows) = (low ≤ key_place r.key) × Rises (suc (key_place r.key)) rows

  -- no two keys have one slot
  abbrev pub HasDistinctNumbers : List (Row T) → Type 0
  HasDistinctNumbers rows =
      (k q : Key) (n : SlotNumber) → number_of rows k ≡ Some n → number_of rows q ≡ Some n → k ≡ q

  -- the number of each key's slot is below this one
  abbrev pub AreBelow : ℕ → List (Row T) → Type 0
  AreBelow limit rows = (key : Key) (n : SlotNumber) → number_of rows key ≡ Some n → n.0 < limit
