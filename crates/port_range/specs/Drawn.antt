-- The port that is drawn for an endpoint by two numbers, x and y, which are of a hash (RFC 6056, section 3.3.3, in
-- blocks): first a block of ports that has an open one, then a place among the block's owned ports, and the first open
-- port from there on. A port is open if it passes a test; a block is 64 ports, the first a multiple of 64.
use Rattle.std.specs.Prelude.{◌≡◌, ℕ, ◌+◌, ◌*◌, ◌%◌, Bool, true, Option, Some, None, is_some, List, length, slice_get, option_and_then, if◌then◌else◌}
use Rattle.addresses.specs.declared.transport.Parity.{Parity}
use Rattle.addresses.specs.declared.transport.Port.{Port}
use Rattle.addresses.specs.Transport.{parity_of}
use Rattle.port_range.specs.Ports.{Range, is_open, is_owned, is_available, lowest_open, or_else, same_parity}
use Rattle.port_range.specs.Marks.{other_parity, ports_where}

-- of n items the one with the number z mod n; none where there are none
abbrev pub picked : List ℕ → ℕ → Option ℕ
picked items z = slice_get items (z % length items)

-- the first open port of the parity in a block from a place on, up to the block's end
abbrev pub first_from : (ℕ → Bool) → Parity → ℕ → ℕ → Option Port
first_from open_at parity block place = lowest_open open_at place (block * 64 + 63) (Some parity)

-- the same, and then from the block's beginning
abbrev pub first_round : (ℕ → Bool) → Parity → ℕ → ℕ → Option Port
first_round open_at parity block place =
    or_else (first_from open_at parity block place) (first_from open_at parity block (block * 64))

-- the block has an open port of the parity
abbrev pub has_open : (ℕ → Bool) → Parity → ℕ → Bool
has_open open_at parity block = is_some (first_from open_at parity block (block * 64))

-- the blocks that have an open port of the parity, in rising order
unfoldable pub open_blocks : (ℕ → Bool) → Parity → List ℕ
open_blocks open_at parity = ports_where (has_open open_at parity) 0 1024

-- the owned ports of the parity in a block, open or not, in rising order
unfoldable pub owned_in : (ℕ → Bool) → Parity → ℕ → List ℕ
owned_in owned parity block = ports_where (is_open owned (Some parity)) (block * 64) 64

-- the port that is drawn in a block: the place is the owned port with the number y mod m
abbrev pub drawn_in : (ℕ → Bool) → (ℕ → Bool) → Parity → ℕ → ℕ → Option Port
drawn_in open_at owned parity y block =
    option_and_then (first_round open_at parity block) (picked (owned_in owned parity block) y)

-- the port that is drawn of one parity: the block is the open one with the number x mod n
abbrev pub drawn_like : (ℕ → Bool) → (ℕ → Bool) → Parity → ℕ → ℕ → Option Port
drawn_like open_at owned parity x y =
    option_and_then (drawn_in open_at owned parity y) (picked (open_blocks open_at parity) x)

-- the port that is drawn: of the parity, and where no block has an open port of it, of the other one
abbrev pub drawn_open : (ℕ → Bool) → (ℕ → Bool) → Parity → ℕ → ℕ → Option Port
drawn_open open_at owned parity x y =
    or_else (drawn_like open_at owned parity x y) (drawn_like open_at owned (other_parity parity) x y)

abbrev pub drawn_port : Range → Parity → ℕ → ℕ → Option Port
drawn_port range parity x y = drawn_open (is_available range) (is_owned range) parity x y

-- what each choice of a port keeps: the port is open, and has the parity where any open port does
pub record IsLike (open_at : ℕ → Bool) (parity : Parity) (port : Port) : Type 0 where
  pub available : open_at port.0 ≡ true
  pub like : (q : ℕ) → open_at q ≡ true → parity_of q ≡ parity → parity_of port.0 ≡ parity

-- The words that the draw looks at: a parity's summary is counted whole, 16 words. One of them is looked at again, and
-- then the block's owned and free word. The other parity's come behind the 16 of its own.
abbrev pub words_drawn_at : Parity → Option Port → ℕ
words_drawn_at parity None = 32
words_drawn_at parity (Some port) = (if same_parity (parity_of port.0) parity then 19 else 35)
