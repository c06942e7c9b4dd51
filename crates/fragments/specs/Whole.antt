-- The whole frame that the fragments of a datagram make (RFC 791, section 3.2; RFC 815; RFC 3168, section 5.3).
use Rattle.std.specs.Prelude.{◌≡◌, ◌≤◌, ◌<◌, ℕ, ◌+◌, ◌-◌, ◌*◌, ◌/◌, ◌%◌, Bool, ◌==◌, ◌&&◌, unwrap_or, List, [], ◌∷◌, ◌++◌, length, take, map, slice_index, find, if◌then◌else◌}
use Rattle.std.specs.List.{count_by, sum_by, list_any, range_with_len, AllByRecursion}
use Rattle.ipv4.specs.Header.{header_of, options_of}
use Rattle.fragments.specs.Fragment.{carried, carries, end_of, first_of, ipv4_in, is_last, starts}
use Rattle.fragments.specs.Header.{header_with}
use Rattle.fragments.specs.declared.headers.Fields.{Fields}

-- the fragment with offset 0, and the one with More Fragments clear; where there is none, no bytes
abbrev pub first_fragment : List (List ℕ) → List ℕ
first_fragment fragments = unwrap_or (find starts fragments) []

abbrev pub last_fragment : List (List ℕ) → List ℕ
last_fragment fragments = unwrap_or (find is_last fragments) []

-- the end of the payload: that of the last fragment
unfoldable pub payload_end : List (List ℕ) → ℕ
payload_end fragments = end_of (last_fragment fragments)

-- the fragments of a datagram are all there: one with offset 0, one with More Fragments clear, and each byte up to the
-- end of that one is carried by exactly one of them, and no byte behind it by any
pub record IsComplete (fragments : List (List ℕ)) : Type 0 where
  pub first : count_by starts fragments ≡ 1
  pub last : count_by is_last fragments ≡ 1
  pub each : (place : ℕ) → place < payload_end fragments → count_by (carries place) fragments ≡ 1
  pub behind : (place : ℕ) → payload_end fragments ≤ place → count_by (carries place) fragments ≡ 0

-- how many bytes fragments carry
abbrev pub carried_by : List (List ℕ) → ℕ
carried_by fragments = sum_by (λ f. length (carried f)) fragments

-- nothing is missing: the last fragment is there, and they carry as many bytes as it ends at. Of fragments that don't
-- contradict each other this says that each byte up to that end is carried
unfoldable pub is_whole : List (List ℕ) → Bool
is_whole fragments =
    list_any is_last fragments && (carried_by fragments == payload_end fragments)

-- the byte at a place of the payload, as the fragment has it that carries it
abbrev pub byte_at : List (List ℕ) → ℕ → ℕ
byte_at [] place = 0
byte_at (f ∷ fragments) place =
    (if carries place f then slice_index (carried f) (place - first_of f)
    else byte_at fragments place)

abbrev pub payload_again : List (List ℕ) → List ℕ
payload_again fragments = map (byte_at fragments) (range_with_len 0 (payload_end fragments))

-- the bytes of the whole packet's header, and of header and payload
unfoldable pub first_header_length : List (List ℕ) → ℕ
first_header_length fragments =
    (header_of (ipv4_in (first_fragment fragments))).header_length

abbrev pub whole_length : List (List ℕ) → ℕ
whole_length fragments = first_header_length fragments + payload_end fragments

-- fragments of which a whole frame can be made: they are all there, none ends behind the end of the payload, and the whole
-- packet isn't too long
pub record IsReady (fragments : List (List ℕ)) : Type 0 where
  pub complete : IsComplete fragments
  pub within : AllByRecursion (λ f. end_of f ≤ payload_end fragments) fragments
  pub short : whole_length fragments ≤ 65535

-- a fragment met congestion: the last two bits of its type of service are 11
unfoldable pub is_marked : List ℕ → Bool
is_marked frame = (header_of (ipv4_in frame)).type_of_service % 4 == 3

-- the type of service of the fragment with offset 0, marked where one fragment is
unfoldable pub whole_service : List (List ℕ) → ℕ
whole_service fragments =
    let service = (header_of (ipv4_in (first_fragment fragments))).type_of_service in
    (if list_any is_marked fragments then service / 4 * 4 + 3 else service)

-- the fields of the whole packet's header that aren't those of the fragment with offset 0: of the flags the reserved bit
-- alone stays, and the offset is 0
unfoldable pub whole_fields : List (List ℕ) → Fields
whole_fields fragments =
    let header = header_of (ipv4_in (first_fragment fragments)) in
    record {
      service = whole_service fragments;
      total = whole_length fragments;
      identification = header.identification;
      flags = header.flags_word / 0x8000 * 0x8000;
    }

-- Ethernet header, IPv4 header and options are those of the fragment with offset 0, but for these fields and the
-- checksum; behind them stands the payload
unfoldable pub reassembled : List (List ℕ) → List ℕ
reassembled fragments =
    let first = first_fragment fragments in
    take 14 first
    ++ header_with (whole_fields fragments) (ipv4_in first) (options_of (ipv4_in first))
    ++ payload_again fragments
