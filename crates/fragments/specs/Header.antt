-- The header of a whole packet, and those of the fragments of one that is cut: a packet's header with other fields and
-- its checksum (RFC 791, section 3.1).
use Rattle.std.specs.Prelude.{ℕ, List, [], ◌∷◌, ◌++◌, slice_index}
use Rattle.byteorder.specs.Endian.{big_bytes}
use Rattle.sums.specs.Sum.{checksum_of}
use Rattle.ipv4.specs.Header.{header_of}
use Rattle.fragments.specs.declared.headers.Fields.{Fields}

-- the first 20 bytes: those of a packet, but for these fields and the checksum
abbrev pub fixed_with : (checksum : ℕ) → Fields → List ℕ → List ℕ
fixed_with checksum fields packet =
    let header = header_of packet in
    (slice_index packet 0 ∷ fields.service ∷ []) ++ big_bytes 2 fields.total
    ++ big_bytes 2 fields.identification ++ big_bytes 2 fields.flags
    ++ (header.ttl ∷ header.protocol ∷ []) ++ big_bytes 2 checksum
    ++ big_bytes 4 header.source ++ big_bytes 4 header.destination

-- the first 20 bytes before these options, with the complement of the header's whole sum as checksum
unfoldable pub fixed_summed : Fields → List ℕ → List ℕ → List ℕ
fixed_summed fields packet options =
    fixed_with (checksum_of (fixed_with 0 fields packet ++ options)) fields packet

-- a packet's header with these fields and options
unfoldable pub header_with : Fields → List ℕ → List ℕ → List ℕ
header_with fields packet options = fixed_summed fields packet options ++ options
