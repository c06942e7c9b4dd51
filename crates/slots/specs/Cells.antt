-- What the code keeps: a cell for each protocol and port, with the number of a slot.
use Rattle.std.specs.Prelude.{◌≡◌, ℕ, suc, ◌+◌, ◌-◌, ◌*◌, ◌/◌, ◌<◌, ◌≤◌, Bool, false, nat_lt, List, [], ◌∷◌, length, Option, None, Some, IsSome, if◌then◌else◌}
use Rattle.std.proofs.Common.{get_or}
use Rattle.std.specs.List.{cons_option}
use Rattle.std.specs.Option.{option_map}
use Rattle.addresses.specs.declared.transport.Protocol.{Protocol}
use Rattle.addresses.specs.declared.transport.Protocol.TheVariants.{Icmp, Tcp, Udp}
use Rattle.nat_types.specs.declared.pairs.Key.{Key}
use Rattle.slab.specs.Slab.{Slab, slab_len}
use Rattle.slab.specs.Slab.{get as slab_get}
use Rattle.slots.specs.declared.numbers.SlotNumber.{SlotNumber}
use Rattle.slots.specs.Rows.{Row}

-- a cell that isn't empty lies in a marked block of 256
abbrev pub AreMarked : List (Option SlotNumber) → List Bool → Type 0
AreMarked cells marks = (i : ℕ) → get_or marks (i / 256) false ≡ false → get_or cells i None ≡ None

-- each cell is in a block
abbrev pub HasBlocks : List (Option SlotNumber) → List Bool → Type 0
HasBlocks cells marks = length cells ≤ 256 * length marks

-- the first cell of a protocol
abbrev pub first_cell : Protocol → ℕ
first_cell Icmp = 0
first_cell Tcp = 65536
first_cell Udp = 131072

-- the cell of a key
abbrev pub cell_of : Key → ℕ
cell_of key = first_cell key.protocol + key.port.0

-- the cell after a key's, or the first of all for None
abbrev pub cell_behind : Option Key → ℕ
cell_behind None = 0
cell_behind (Some key) = suc (cell_of key)

-- the protocol to which a cell belongs
abbrev pub protocol_at : ℕ → Protocol
protocol_at cell = (if nat_lt cell 65536 then Icmp else (if nat_lt cell 131072 then Tcp else Udp))

-- the key of a cell
abbrev pub key_at : ℕ → Key
key_at cell = record { protocol = protocol_at cell; port = record { 0 = cell - first_cell (protocol_at cell) } }

module _ {T : Type 0} where
  -- the item of a slot
  abbrev pub item_at : Slab T → SlotNumber → Option T
  item_at slots number = slab_get slots number.0

  abbrev pub row_in : (SlotNumber → Option T) → ℕ → Option SlotNumber → Option (Row T)
  row_in at cell None = None
  row_in at cell (Some number) = option_map (λ t. record { key = key_at cell; number = number; item = t }) (at number)

  -- the rows of these cells, of which the first has this number
  abbrev pub rows_from : (SlotNumber → Option T) → ℕ → List (Option SlotNumber) → List (Row T)
  rows_from at cell [] = []
  rows_from at cell (n ∷ ns) = cons_option (row_in at cell n) (rows_from at (suc cell) ns)

  -- each cell has a slot of its own, and no other slot is in use
  pub record IsStored (slots : Slab T) (cells : List (Option SlotNumber)) (places : ℕ) : Type 0 where
    pub all : length cells ≡ 196608
    pub used : (i : ℕ) (n : SlotNumber) → get_or cells i None ≡ Some n → IsSome (item_at slots n)
    pub distinct : (i j : ℕ) (n : SlotNumber) → get_or cells i None ≡ Some n → get_or cells j None ≡ Some n → i ≡ j
    pub count : length (rows_from (item_at slots) 0 cells) ≡ slab_len slots
    pub room : places ≤ slots.capacity
    pub below : (i : ℕ) (n : SlotNumber) → get_or cells i None ≡ Some n → n.0 < slots.capacity
    pub held : (n : SlotNumber) → IsSome (item_at slots n) → (i : ℕ) × (get_or cells i None ≡ Some n)
    -- each slot's number fits in 32 bits
    pub small : slots.capacity ≤ 2147483647
