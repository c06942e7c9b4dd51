-- The ports of a range: which of them are free, which are owned, and which is chosen.
use Rattle.std.specs.Prelude.{◌≡◌, ℕ, zero, suc, ◌+◌, ◌-◌, ◌≤◌, ◌==◌, nat_le, nat_lt, ◌<◌, Bool, true, false, ◌&&◌, ◌||◌, Option, Some, None, List, [], ◌∷◌, if◌then◌else◌}
use Rattle.std.specs.List.{filter, list_any}
use Rattle.addresses.specs.declared.transport.Parity.{Parity}
use Rattle.addresses.specs.declared.transport.Parity.TheVariants.{Even, Odd}
use Rattle.addresses.specs.declared.transport.Port.{Port}
use Rattle.addresses.specs.Transport.{parity_of}
use Rattle.port_range.specs.declared.RangeFault.{RangeFault}
use Rattle.port_range.specs.declared.RangeFault.TheVariants.{BadRange, NoMemory}
use Rattle.port_range.specs.declared.TheConstants.{FIRST_PORT}

-- what callers see of a range: its first and last port, those that are free, and those that are owned
pub record Range : Type 0 where
  pub lowest : ℕ
  pub highest : ℕ
  pub free : List ℕ
  pub owned : List ℕ

abbrev pub is_listed : ℕ → List ℕ → Bool
is_listed port ports = list_any (λ p. p == port) ports

abbrev pub is_free : Range → ℕ → Bool
is_free range port = is_listed port range.free

abbrev pub is_owned : Range → ℕ → Bool
is_owned range port = is_listed port range.owned

-- a port that may be given out is free and owned
abbrev pub is_available : Range → ℕ → Bool
is_available range port = is_free range port && is_owned range port

-- the owned ports that are free, rising
abbrev pub open_ports : Range → List ℕ
open_ports range = filter (is_free range) range.owned

-- a port lies between the first and the last of a range
abbrev pub is_within : ℕ → ℕ → ℕ → Bool
is_within lowest highest port = nat_le lowest port && nat_le port highest

-- a range begins among the well-known ports, or ends before it begins
abbrev pub is_bad : ℕ → ℕ → Bool
is_bad lowest highest = nat_lt lowest FIRST_PORT.0 || nat_lt highest lowest

-- a range is refused as BadRange where it is bad, and else as NoMemory
abbrev pub IsReason : ℕ → ℕ → RangeFault → Type 0
IsReason lowest highest BadRange = is_bad lowest highest ≡ true
IsReason lowest highest NoMemory = is_bad lowest highest ≡ false

-- the ports rise, each above the one before it and the first above this one
abbrev pub RiseAbove : ℕ → List ℕ → Type 0
RiseAbove low [] = Unit {0}
RiseAbove low (port ∷ ports) = (low < port) × RiseAbove port ports

-- the ports rise, and none is 0
abbrev pub AreRising : List ℕ → Type 0
AreRising ports = RiseAbove 0 ports

-- the range isn't bad, each port that is free or owned lies in it, and the owned ones rise
pub record IsRange (range : Range) : Type 0 where
  pub low : FIRST_PORT.0 ≤ range.lowest
  pub order : range.lowest ≤ range.highest
  pub high : range.highest ≤ 65535
  pub free : (port : ℕ) → is_free range port ≡ true → is_within range.lowest range.highest port ≡ true
  pub owned : (port : ℕ) → is_owned range port ≡ true → is_within range.lowest range.highest port ≡ true
  pub rising : AreRising range.owned

abbrev pub same_parity : Parity → Parity → Bool
same_parity Even Even = true
same_parity Even Odd = false
same_parity Odd Even = false
same_parity Odd Odd = true

-- ---- the choice of a port, by a test of the ports that may be given out

-- the parity is the wanted one, if one is wanted
abbrev pub fits : Option Parity → ℕ → Bool
fits None port = true
fits (Some parity) port = same_parity (parity_of port) parity

-- the port may be given out, and is of the wanted parity
abbrev pub is_open : (ℕ → Bool) → Option Parity → ℕ → Bool
is_open test wanted port = test port && fits wanted port

-- the first of so many ports from a start that passes a test
abbrev pub first_where : (ℕ → Bool) → ℕ → ℕ → Option Port
first_where test start zero = None
first_where test start (suc count) = (if test start then Some (record { 0 = start }) else first_where test (start + 1) count)

-- the lowest port between two that may be given out, of the wanted parity
abbrev pub lowest_open : (ℕ → Bool) → ℕ → ℕ → Option Parity → Option Port
lowest_open test lowest highest wanted = first_where (is_open test wanted) lowest (highest + 1 - lowest)

abbrev pub or_else : Option Port → Option Port → Option Port
or_else None second = second
or_else (Some port) second = Some port

-- the lowest port with that parity, else the lowest one, of those that may be given out (RFC 4787, section 4.2.2)
abbrev pub chosen_open : (ℕ → Bool) → ℕ → ℕ → Parity → Option Port
chosen_open test lowest highest parity =
    or_else (lowest_open test lowest highest (Some parity)) (lowest_open test lowest highest None)

abbrev pub chosen_port : Range → Parity → Option Port
chosen_port range parity = chosen_open (is_available range) range.lowest range.highest parity

-- The choice as a relation: the port may be given out, has the parity where any does, and none below it is of its
-- parity.
pub record IsChosen (test : ℕ → Bool) (parity : Parity) (port : Port) : Type 0 where
  pub available : test port.0 ≡ true
  pub like : (q : ℕ) → test q ≡ true → parity_of q ≡ parity → parity_of port.0 ≡ parity
  pub lowest : (q : ℕ) → test q ≡ true → parity_of q ≡ parity_of port.0 → port.0 ≤ q
