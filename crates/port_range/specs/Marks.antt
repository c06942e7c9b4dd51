-- Free and owned ports as bits by their numbers, and a summary for each parity: the words that have a port to give out.
use Rattle.std.specs.Prelude.{◌≡◌, ℕ, ◌+◌, ◌-◌, ◌/◌, ◌≤◌, ◌<◌, zero, suc, nat_lt, Bool, true, false, ◌&&◌, Option, Some, None, List, [], ◌∷◌, length, slice_index, bit_and, if◌then◌else◌}
use Rattle.addresses.specs.declared.transport.Parity.{Parity}
use Rattle.addresses.specs.declared.transport.Parity.TheVariants.{Even, Odd}
use Rattle.addresses.specs.declared.transport.Port.{Port}
use Rattle.addresses.specs.Transport.{parity_of}
use Rattle.port_range.specs.declared.TheConstants.{FIRST_PORT}
use Rattle.port_range.specs.Ports.{Range, is_within, same_parity}
use Rattle.port_range.specs.Words.{has_bit}

-- the words of the free ports, and those of the owned ones
pub record Marked : Type 0 where
  pub free : List ℕ
  pub owned : List ℕ

-- a port may be given out where both its bits are set
abbrev pub has_both : List ℕ → List ℕ → ℕ → Bool
has_both free owned port = has_bit free port && has_bit owned port

-- the ports that pass a test, of so many ports from a start
abbrev pub ports_where : (ℕ → Bool) → ℕ → ℕ → List ℕ
ports_where test start zero = []
ports_where test start (suc count) = (if test start then start ∷ ports_where test (start + 1) count else ports_where test (start + 1) count)

-- how many ports may be given out
unfoldable pub open_count : List ℕ → List ℕ → ℕ
open_count free owned = length (ports_where (has_both free owned) 0 65536)

abbrev pub other_parity : Parity → Parity
other_parity Even = Odd
other_parity Odd = Even

-- the bits of a word at numbers of a parity
abbrev pub mask_of : Parity → ℕ
mask_of Even = 0x5555555555555555
mask_of Odd = 0xAAAAAAAAAAAAAAAA

-- the ports of a parity that a word has to give out
abbrev pub open_word : Parity → List ℕ → List ℕ → ℕ → ℕ
open_word parity free owned index = bit_and (bit_and (slice_index free index) (slice_index owned index)) (mask_of parity)

-- the summary of a parity has the bit of each word that has a port of that parity to give out
pub record IsSummary (parity : Parity) (free owned summary : List ℕ) : Type 0 where
  pub size : length summary ≡ 16
  pub each : (index : ℕ) → index < 1024 → has_bit summary index ≡ nat_lt 0 (open_word parity free owned index)

-- the words cover the ports, both summaries are right, and so is the count
pub record AreMarks (free owned even odd : List ℕ) (count : ℕ) : Type 0 where
  pub free_size : length free ≡ 1024
  pub owned_size : length owned ≡ 1024
  pub summed_even : IsSummary Even free owned even
  pub summed_odd : IsSummary Odd free owned odd
  pub counted : count ≡ open_count free owned

-- the port passes, is of the parity, and is the lowest such
pub record IsLowestOf (test : ℕ → Bool) (parity : Parity) (port : Port) : Type 0 where
  pub passes : test port.0 ≡ true
  pub kind : parity_of port.0 ≡ parity
  pub lowest : (q : ℕ) → q < port.0 → parity_of q ≡ parity → test q ≡ false

-- The words that the search for a port looks at: those of a summary up to the one that has the port, each for 4,096 ports, and the port's
-- free and owned word. The summary of its own parity comes first, and is looked at whole where the port is of the other.
abbrev pub words_looked_at : Parity → Option Port → ℕ
words_looked_at parity None = 32
words_looked_at parity (Some port) = (if same_parity (parity_of port.0) parity then 0 else 16) + (port.0 / 4096 + 3)

-- ---- a range by its marks

abbrev pub ranged : ℕ → ℕ → Marked → Range
ranged lowest highest marks = record {
  lowest = lowest;
  highest = highest;
  free = ports_where (has_bit marks.free) lowest (highest + 1 - lowest);
  owned = ports_where (has_bit marks.owned) lowest (highest + 1 - lowest);
}

-- the range isn't bad, and no port outside is marked
pub record HasMarks (lowest highest : ℕ) (marks : Marked) : Type 0 where
  pub low : FIRST_PORT.0 ≤ lowest
  pub order : lowest ≤ highest
  pub high : highest ≤ 65535
  pub free : (port : ℕ) → has_bit marks.free port ≡ true → is_within lowest highest port ≡ true
  pub owned : (port : ℕ) → has_bit marks.owned port ≡ true → is_within lowest highest port ≡ true
