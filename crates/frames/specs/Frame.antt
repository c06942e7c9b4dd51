-- Ethernet frames (IEEE 802.3, without the check sequence).
use Rattle.std.specs.Prelude.{◌≤◌, ℕ, List, ◌++◌, length, take, drop}
use Rattle.byteorder.specs.Endian.{big_number, big_bytes}
use Rattle.frames.specs.declared.ethernet.field.TheConstants.{HEADER}

-- the fields of a frame
pub record Frame : Type 0 where
  pub dst : List ℕ
  pub src : List ℕ
  pub ethertype : ℕ
  pub body : List ℕ

-- bytes are a frame where the header is whole
abbrev pub IsFrame : List ℕ → Type 0
IsFrame bytes = HEADER ≤ length bytes

-- the fields that a frame's bytes spell
abbrev pub frame_of : List ℕ → Frame
frame_of bytes = record {
  dst = take 6 bytes;
  src = take 6 (drop 6 bytes);
  ethertype = big_number 2 (drop 12 bytes);
  body = drop HEADER bytes;
}

-- a frame's header: to whom, from whom, of which type
abbrev pub header_bytes : List ℕ → List ℕ → ℕ → List ℕ
header_bytes dst src ethertype = dst ++ src ++ big_bytes 2 ethertype
