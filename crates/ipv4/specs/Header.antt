-- IPv4 headers (RFC 791, section 3.1).
use Rattle.std.specs.Prelude.{◌≡◌, ◌≤◌, ℕ, ◌-◌, ◌*◌, ◌/◌, ◌%◌, Bool, false, ◌==◌, nat_lt, not, ◌||◌, List, [], ◌∷◌, length, take, drop, slice_index, Option}
use Rattle.byteorder.specs.Endian.{big_number}
use Rattle.sums.specs.Sum.{word_sum, IsRight}
use Rattle.ipv4.specs.Options.{has_source_route}
use Rattle.ipv4.specs.Order.{first_fault}
use Rattle.ipv4.specs.declared.header.TheConstants.{DONT_FRAGMENT, MORE_FRAGMENTS}
use Rattle.ipv4.specs.declared.header.field.TheConstants.{FIXED}
use Rattle.ipv4.specs.declared.faults.Ipv4Fault.{Ipv4Fault}
use Rattle.ipv4.specs.declared.faults.Ipv4Fault.TheVariants.{TooShort, BadVersion, BadLength, BadHeaderSum, SourceRoute, Fragment}

-- the 16-bit word at a place
abbrev pub word_at : ℕ → List ℕ → ℕ
word_at place bytes = big_number 2 (drop place bytes)

-- the fields of a header, its lengths in bytes
pub record Header : Type 0 where
  pub version : ℕ
  pub header_length : ℕ
  pub type_of_service : ℕ
  pub total_length : ℕ
  pub identification : ℕ
  pub flags_word : ℕ
  pub more_fragments : ℕ
  pub fragment_offset : ℕ
  pub ttl : ℕ
  pub protocol : ℕ
  pub checksum : ℕ
  pub source : ℕ
  pub destination : ℕ

-- the fields that a packet's first 20 bytes spell
abbrev pub header_of : List ℕ → Header
header_of bytes = record {
  version = slice_index bytes 0 / 16;
  header_length = 4 * (slice_index bytes 0 % 16);
  type_of_service = slice_index bytes 1;
  total_length = word_at 2 bytes;
  identification = word_at 4 bytes;
  flags_word = word_at 6 bytes;
  more_fragments = word_at 6 bytes / MORE_FRAGMENTS % 2;
  fragment_offset = word_at 6 bytes % MORE_FRAGMENTS;
  ttl = slice_index bytes 8;
  protocol = slice_index bytes 9;
  checksum = word_at 10 bytes;
  source = big_number 4 (drop 12 bytes);
  destination = big_number 4 (drop 16 bytes);
}

-- the bytes of the header after its first 20
abbrev pub options_of : List ℕ → List ℕ
options_of bytes = take ((header_of bytes).header_length - FIXED) (drop FIXED bytes)

-- the bytes after the header, without padding
abbrev pub payload_of : List ℕ → List ℕ
payload_of bytes =
    let header = header_of bytes in
    take (header.total_length - header.header_length) (drop header.header_length bytes)

-- the bytes begin with a whole IPv4 packet that has a right header without a source route and is no fragment
pub record IsIpv4 (bytes : List ℕ) : Type 0 where
  pub long : FIXED ≤ length bytes
  pub version : (header_of bytes).version ≡ 4
  pub holds_fields : FIXED ≤ (header_of bytes).header_length
  pub holds_header : (header_of bytes).header_length ≤ (header_of bytes).total_length
  pub there : (header_of bytes).total_length ≤ length bytes
  pub sum : IsRight (take (header_of bytes).header_length bytes)
  pub no_source_route : has_source_route (options_of bytes) ≡ false
  pub last : (header_of bytes).more_fragments ≡ 0
  pub first : (header_of bytes).fragment_offset ≡ 0

-- the packet has the flag Don't Fragment
unfoldable pub is_unbroken : List ℕ → Bool
is_unbroken bytes = (header_of bytes).flags_word / DONT_FRAGMENT % 2 == 1

-- the checksum of a header is wrong
abbrev pub has_wrong_sum : List ℕ → Bool
has_wrong_sum bytes = not (word_sum bytes % 65535 == 0) || (word_sum bytes == 0)

-- the packet is a part of a larger one
abbrev pub is_fragment : Header → Bool
is_fragment header = not (header.more_fragments == 0) || not (header.fragment_offset == 0)

-- why bytes are no IPv4 packet, None where they are one
abbrev pub ipv4_refusal : List ℕ → Option Ipv4Fault
ipv4_refusal bytes =
    let header = header_of bytes in
    first_fault (
    (nat_lt (length bytes) FIXED, TooShort)
    ∷ (not (header.version == 4) || nat_lt header.header_length FIXED, BadVersion)
    ∷ (
      nat_lt header.total_length header.header_length
          || nat_lt (length bytes) header.total_length,
      BadLength,
    )
    ∷ (has_wrong_sum (take header.header_length bytes), BadHeaderSum)
    ∷ (has_source_route (options_of bytes), SourceRoute)
    ∷ (is_fragment header, Fragment)
    ∷ [])
