-- Frames that may carry a fragment.
use Rattle.std.specs.Prelude.{ℕ, ◌%◌, Bool, not, ◌==◌, ◌&&◌, nat_le, List, length, drop}
use Rattle.byteorder.specs.Endian.{big_number}

-- A frame looks as one that carries a fragment: of an IPv4 packet's flags and offset, which are bytes 20 and 21 of its
-- frame, some bit is set beside the reserved one and Don't Fragment.
abbrev pub looks_cut : List ℕ → Bool
looks_cut bytes = nat_le 22 (length bytes) && not (big_number 2 (drop 20 bytes) % 0x4000 == 0)
