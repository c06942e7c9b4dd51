-- The fragments in which a packet is sent that is too long for its exit (RFC 791, section 3.2).
use Rattle.std.specs.Prelude.{◌≡◌, ◌≤◌, ◌<◌, ℕ, ◌+◌, ◌-◌, ◌*◌, ◌/◌, ◌%◌, Bool, ◌==◌, ◌&&◌, nat_le, nat_lt, is_none, List, [], ◌∷◌, ◌++◌, length, take, drop, map, if◌then◌else◌}
use Rattle.std.specs.List.{range_with_len}
use Rattle.frames.specs.Frame.{IsFrame, frame_of}
use Rattle.ipv4.specs.Header.{IsIpv4, header_of, ipv4_refusal, options_of, payload_of}
use Rattle.fragments.specs.Bytes.{AreBytes}
use Rattle.fragments.specs.Fragment.{HasHeader, IsFragment, ipv4_in}
use Rattle.fragments.specs.Header.{header_with}
use Rattle.fragments.specs.Options.{later_options}
use Rattle.fragments.specs.declared.headers.Fields.{Fields}

-- a frame carries an IPv4 packet that is no fragment
pub record IsIpv4Frame (frame : List ℕ) : Type 0 where
  pub whole : IsFrame frame
  pub packet : IsIpv4 (ipv4_in frame)

-- the frame's packet has no Don't Fragment (the flag 0x4000)
abbrev pub MayBeCut : List ℕ → Type 0
MayBeCut frame = (header_of (ipv4_in frame)).flags_word / 0x4000 % 2 ≡ 0

-- the limits of an `mtu`, the most bytes of a packet that an exit takes
pub record IsMtu (mtu : ℕ) : Type 0 where
  pub least : 576 ≤ mtu
  pub most : mtu ≤ 1500

-- the bytes of payload in each fragment but the last: the greatest multiple of 8 for which there is room behind the header
unfoldable pub step_of : ℕ → List ℕ → ℕ
step_of mtu packet = (mtu - (header_of packet).header_length) / 8 * 8

-- how many fragments a packet is cut into: one where it fits
unfoldable pub piece_count : ℕ → List ℕ → ℕ
piece_count mtu packet =
    let step = step_of mtu packet in
    ((header_of packet).total_length - mtu + (step - 1)) / step + 1

-- the k-th fragment (from 0) begins at this place of the payload
abbrev pub piece_place : ℕ → List ℕ → ℕ → ℕ
piece_place mtu packet k = k * step_of mtu packet

-- the k-th fragment is the last one: all that is left goes into it
unfoldable pub is_last_piece : ℕ → List ℕ → ℕ → Bool
is_last_piece mtu packet k =
    nat_le ((header_of packet).total_length - piece_place mtu packet k) mtu

unfoldable pub piece_payload : ℕ → List ℕ → ℕ → List ℕ
piece_payload mtu packet k =
    let left = drop (piece_place mtu packet k) (payload_of packet) in
    (if is_last_piece mtu packet k then left else take (step_of mtu packet) left)

-- the first fragment has the packet's options, the others those that are copied
unfoldable pub piece_options : List ℕ → ℕ → List ℕ
piece_options packet k =
    (if k == 0 then options_of packet else later_options (options_of packet))

-- the packet's flags, More Fragments in all fragments but the last, and the place in units of 8 bytes
abbrev pub piece_flags : ℕ → List ℕ → ℕ → ℕ
piece_flags mtu packet k =
    (header_of packet).flags_word
    + (if is_last_piece mtu packet k then 0 else 0x2000)
    + piece_place mtu packet k / 8

-- the fields of its header that aren't those of the packet; the type of service is
unfoldable pub piece_fields : ℕ → ℕ → List ℕ → ℕ → Fields
piece_fields mtu identification packet k = record {
  service = (header_of packet).type_of_service;
  total = (header_of packet).header_length + length (piece_payload mtu packet k);
  identification = identification;
  flags = piece_flags mtu packet k;
}

-- the k-th fragment of a frame's packet, as a frame
unfoldable pub piece : ℕ → ℕ → List ℕ → ℕ → List ℕ
piece mtu identification frame k =
    let packet = ipv4_in frame in
    take 14 frame
    ++ header_with (piece_fields mtu identification packet k) packet (piece_options packet k)
    ++ piece_payload mtu packet k

-- all of them, in order
abbrev pub cut : ℕ → ℕ → List ℕ → List (List ℕ)
cut mtu identification frame =
    map (piece mtu identification frame) (range_with_len 0 (piece_count mtu (ipv4_in frame)))

-- the fields of a packet's own header, but for its identification
abbrev pub numbered_fields : ℕ → List ℕ → Fields
numbered_fields identification packet =
    let header = header_of packet in
    record {
      service = header.type_of_service;
      total = header.total_length;
      identification = identification;
      flags = header.flags_word;
    }

-- a frame without its padding, whose packet has another identification
unfoldable pub identified : ℕ → List ℕ → List ℕ
identified identification frame =
    let packet = ipv4_in frame in
    take 14 frame
    ++ header_with (numbered_fields identification packet) packet (options_of packet)
    ++ payload_of packet

-- a frame is an IPv4 packet without padding, and without Don't Fragment
unfoldable pub is_cuttable : List ℕ → Bool
is_cuttable frame =
    let header = header_of (ipv4_in frame) in
    nat_le 14 (length frame) && ((frame_of frame).ethertype == 2048)
    && is_none (ipv4_refusal (ipv4_in frame)) && (length frame == 14 + header.total_length)
    && (header.flags_word / 0x4000 % 2 == 0)

-- a frame's packet has to be cut for an exit that takes `mtu` bytes of IPv4
unfoldable pub is_long : ℕ → List ℕ → Bool
is_long mtu frame = nat_lt (14 + mtu) (length frame) && is_cuttable frame

-- what goes out for a frame at such an exit: its fragments where it has to be cut, else itself
abbrev pub pieces : ℕ → List ℕ → List (List ℕ)
pieces mtu frame =
    (if is_long mtu frame then cut mtu (header_of (ipv4_in frame)).identification frame
    else frame ∷ [])

-- a frame whose packet may be cut for an exit, with this identification
pub record IsCut (mtu identification : ℕ) (frame : List ℕ) : Type 0 where
  pub packet : IsIpv4Frame frame
  pub bytes : AreBytes frame
  pub may_be_cut : MayBeCut frame
  pub limits : IsMtu mtu
  pub fits : identification < 65536

-- what each fragment of such a packet is: a frame of at most `mtu` bytes of IPv4 with a right header without a source route,
-- and it is a fragment where there are several. Each but the last carries as many bytes as a multiple of 8 allows
pub record IsPiece (mtu identification : ℕ) (frame : List ℕ) (k : ℕ) : Type 0 where
  pub header : HasHeader (ipv4_in (piece mtu identification frame k))
  pub short : length (piece mtu identification frame k) ≤ 14 + mtu
  pub part : 1 < piece_count mtu (ipv4_in frame)
      → IsFragment (piece mtu identification frame k)
  pub full : k + 1 < piece_count mtu (ipv4_in frame)
      → 14 + mtu < length (piece mtu identification frame k) + 8
  pub eighths : k + 1 < piece_count mtu (ipv4_in frame)
      → length (piece_payload mtu (ipv4_in frame) k) % 8 ≡ 0
