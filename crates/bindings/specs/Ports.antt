-- The ports of a table: which are free, which are owned, and which of them is chosen.
use Rattle.std.specs.Prelude.{◌≡◌, ℕ, ◌+◌, ◌-◌, ◌*◌, ◌≤◌, Bool, ◌&&◌, ◌||◌, Option, is_none, List, nat_lt, if◌then◌else◌}
use Rattle.std.specs.List.{filter}
use Rattle.addresses.specs.declared.transport.Protocol.{Protocol}
use Rattle.addresses.specs.declared.transport.Protocol.TheVariants.{Icmp, Tcp, Udp}
use Rattle.addresses.specs.declared.transport.Parity.{Parity}
use Rattle.addresses.specs.declared.transport.Port.{Port}
use Rattle.nat_types.specs.declared.pairs.Key.{Key}
use Rattle.port_range.specs.Drawn.{drawn_open}
use Rattle.port_range.specs.Ports.{Range, is_free, is_owned, is_within, is_listed, chosen_open}
use Rattle.port_range.specs.declared.TheConstants.{FIRST_PORT}
use Rattle.bindings.specs.declared.entries.Entry.{Entry}
use Rattle.bindings.specs.declared.entries.PortBounds.{PortBounds}
use Rattle.bindings.specs.declared.ports.Ports.{Ports}
use Rattle.bindings.specs.Entries.{slot_of}

abbrev pub key_of : Protocol → ℕ → Key
key_of protocol port = record { protocol = protocol; port = record { 0 = port } }

-- no entry of that protocol has the port, not even a Doomed or a Pending one
abbrev pub is_free_in : List Entry → Protocol → ℕ → Bool
is_free_in entries protocol port = is_none (slot_of entries (key_of protocol port))

-- no entry of any protocol has the port
abbrev pub is_vacant : List Entry → ℕ → Bool
is_vacant entries port = is_free_in entries Icmp port && (is_free_in entries Tcp port && is_free_in entries Udp port)

-- an owned port that no entry has
abbrev pub is_spare : List Entry → List ℕ → ℕ → Bool
is_spare entries owned port = is_listed port owned && is_vacant entries port

-- a port that may be given out: owned, and with no entry of the protocol
abbrev pub is_open_in : List Entry → List ℕ → Protocol → ℕ → Bool
is_open_in entries owned protocol port = is_listed port owned && is_free_in entries protocol port

-- ---- ranges

-- a range that isn't bad
pub record AreBounds (b : PortBounds) : Type 0 where
  pub low : FIRST_PORT.0 ≤ b.lowest.0
  pub order : b.lowest.0 ≤ b.highest.0

abbrev pub in_bounds : PortBounds → ℕ → Bool
in_bounds b port = is_within b.lowest.0 b.highest.0 port

abbrev pub in_either : PortBounds → PortBounds → ℕ → Bool
in_either zero one port = in_bounds zero port || in_bounds one port

-- how many ports a range has, and how many keys both have for the three protocols
abbrev pub ports_in : PortBounds → ℕ
ports_in b = b.highest.0 + 1 - b.lowest.0

abbrev pub key_count : PortBounds → PortBounds → ℕ
key_count zero one = 3 * (ports_in zero + ports_in one)

-- the lowest and the highest port of both ranges
abbrev pub lowest_of : PortBounds → PortBounds → ℕ
lowest_of zero one = (if nat_lt zero.lowest.0 one.lowest.0 then zero.lowest.0 else one.lowest.0)

abbrev pub highest_of : PortBounds → PortBounds → ℕ
highest_of zero one = (if nat_lt zero.highest.0 one.highest.0 then one.highest.0 else zero.highest.0)

-- the lowest owned free port with that parity, else the lowest owned free port
abbrev pub chosen_port : List Entry → List ℕ → PortBounds → PortBounds → Protocol → Parity → Option Port
chosen_port entries owned zero one protocol parity =
    chosen_open (is_open_in entries owned protocol) (lowest_of zero one) (highest_of zero one) parity

-- The port that is drawn by two numbers, x and y, of the owned ports without an entry of the protocol. Owned ports with
-- an entry of it are places too.
abbrev pub drawn_port : List Entry → List ℕ → Protocol → Parity → ℕ → ℕ → Option Port
drawn_port entries owned protocol parity x y =
    drawn_open (is_open_in entries owned protocol) (λ port. is_listed port owned) parity x y

-- the owned ports without an entry of the protocol
abbrev pub open_ports : List Entry → List ℕ → Protocol → List ℕ
open_ports entries owned protocol = filter (is_free_in entries protocol) owned

-- ---- what the code keeps: a range for each protocol

abbrev pub range_of : Ports → Protocol → Range
range_of ports Icmp = ports.icmp
range_of ports Tcp = ports.tcp
range_of ports Udp = ports.udp

abbrev pub is_free_at : Ports → Key → Bool
is_free_at ports key = is_free (range_of ports key.protocol) key.port.0

-- a port is owned, and free for each protocol
abbrev pub is_spare_in : Ports → ℕ → Bool
is_spare_in ports port =
    ((is_owned ports.tcp port && is_free ports.icmp port) && is_free ports.tcp port) && is_free ports.udp port

-- a range goes from the one port to the other, and the same ports are owned as in this one
pub record IsLike (first : Range) (lowest highest : ℕ) (range : Range) : Type 0 where
  pub low : range.lowest ≡ lowest
  pub high : range.highest ≡ highest
  pub owned : (port : ℕ) → is_owned range port ≡ is_owned first port

-- the ranges go from the one port to the other, and the same ports are owned in each
pub record AreAlike (lowest highest : ℕ) (ports : Ports) : Type 0 where
  pub icmp : IsLike ports.tcp lowest highest ports.icmp
  pub tcp : IsLike ports.tcp lowest highest ports.tcp
  pub udp : IsLike ports.tcp lowest highest ports.udp

-- the bounds of a range don't change
pub record SameEnds (old new : Range) : Type 0 where
  pub low : new.lowest ≡ old.lowest
  pub high : new.highest ≡ old.highest

pub record SameBounds (old new : Ports) : Type 0 where
  pub icmp : SameEnds old.icmp new.icmp
  pub tcp : SameEnds old.tcp new.tcp
  pub udp : SameEnds old.udp new.udp

-- the owned ports don't change
pub record SameOwned (old new : Ports) : Type 0 where
  pub icmp : new.icmp.owned ≡ old.icmp.owned
  pub tcp : new.tcp.owned ≡ old.tcp.owned
  pub udp : new.udp.owned ≡ old.udp.owned

-- the free ports don't change
pub record SameFree (old new : Ports) : Type 0 where
  pub icmp : new.icmp.free ≡ old.icmp.free
  pub tcp : new.tcp.free ≡ old.tcp.free
  pub udp : new.udp.free ≡ old.udp.free

-- a key is free where its port lies in a range and it has no entry
abbrev pub AreFree : ℕ → ℕ → List Entry → Ports → Type 0
AreFree lowest highest entries ports =
    (q : Key) → is_free_at ports q ≡ (is_within lowest highest q.port.0 && is_none (slot_of entries q))
