-- Fragments of IPv4 packets, and which bytes of its datagram's payload each carries (RFC 791, sections 2.3 and 3.2;
-- RFC 815).
use Rattle.std.specs.Prelude.{◌≡◌, ◌≤◌, ℕ, ◌+◌, ◌*◌, ◌%◌, Bool, true, false, not, ◌==◌, ◌&&◌, ◌||◌, nat_le, nat_lt, List, length, take}
use Rattle.std.specs.Str.{bytes_eq}
use Rattle.sums.specs.Sum.{IsRight}
use Rattle.frames.specs.Frame.{IsFrame, frame_of}
use Rattle.ipv4.specs.Header.{header_of, is_fragment, options_of, payload_of}
use Rattle.ipv4.specs.Options.{has_source_route}

-- the IPv4 packet in a frame, with the padding behind it
abbrev pub ipv4_in : List ℕ → List ℕ
ipv4_in frame = (frame_of frame).body

-- bytes begin with a whole IPv4 packet that has a right header without a source route, be it a fragment or not
pub record HasHeader (packet : List ℕ) : Type 0 where
  pub long : 20 ≤ length packet
  pub version : (header_of packet).version ≡ 4
  pub holds_fields : 20 ≤ (header_of packet).header_length
  pub holds_header : (header_of packet).header_length ≤ (header_of packet).total_length
  pub there : (header_of packet).total_length ≤ length packet
  pub sum : IsRight (take (header_of packet).header_length packet)
  pub no_source_route : has_source_route (options_of packet) ≡ false

-- a frame carries a fragment: More Fragments is set, or the offset isn't 0
pub record IsFragment (frame : List ℕ) : Type 0 where
  pub whole : IsFrame frame
  pub header : HasHeader (ipv4_in frame)
  pub part : is_fragment (header_of (ipv4_in frame)) ≡ true

-- a frame without its padding
unfoldable pub trimmed : List ℕ → List ℕ
trimmed frame = take (14 + (header_of (ipv4_in frame)).total_length) frame

-- the bytes that a fragment carries
unfoldable pub carried : List ℕ → List ℕ
carried frame = payload_of (ipv4_in frame)

-- the place of the first of them in the datagram's payload: the offset counts units of 8 bytes
unfoldable pub first_of : List ℕ → ℕ
first_of frame = 8 * (header_of (ipv4_in frame)).fragment_offset

-- the flag More Fragments: 1 where more fragments follow, 0 in the last one
unfoldable pub more_of : List ℕ → ℕ
more_of frame = (header_of (ipv4_in frame)).more_fragments

-- the place behind the last byte that a fragment carries
abbrev pub end_of : List ℕ → ℕ
end_of frame = first_of frame + length (carried frame)

abbrev pub starts : List ℕ → Bool
starts frame = first_of frame == 0

abbrev pub is_last : List ℕ → Bool
is_last frame = more_of frame == 0

-- a fragment carries the byte at a place
unfoldable pub carries : ℕ → List ℕ → Bool
carries place frame = nat_le (first_of frame) place && nat_lt place (end_of frame)

-- a fragment that no sender cuts: it carries nothing, or it isn't the last and carries no multiple of 8 bytes
unfoldable pub is_broken : List ℕ → Bool
is_broken frame =
    (length (carried frame) == 0)
    || (not (is_last frame) && not (length (carried frame) % 8 == 0))

-- the same fragment: at the same place, with the same More Fragments and the same bytes; other fields aren't compared
unfoldable pub is_same : List ℕ → List ℕ → Bool
is_same f g =
    (first_of f == first_of g) && (more_of f == more_of g) && bytes_eq (carried f) (carried g)

-- two fragments carry the same byte
abbrev pub overlaps : List ℕ → List ℕ → Bool
overlaps f g = nat_lt (first_of f) (end_of g) && nat_lt (first_of g) (end_of f)

-- a fragment ends behind the end that the last one gives
abbrev pub is_past : List ℕ → List ℕ → Bool
is_past f last = is_last last && nat_lt (end_of last) (end_of f)

-- two fragments can't be of one datagram
unfoldable pub contradicts : List ℕ → List ℕ → Bool
contradicts f g = overlaps f g || is_past f g || is_past g f
