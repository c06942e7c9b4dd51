-- The options of all fragments of a packet but the first (RFC 791, section 3.1).
use Rattle.std.specs.Prelude.{ℕ, zero, suc, nat_le, ◌==◌, List, ◌++◌, length, take, drop, replicate, slice_index, if◌then◌else◌}
use Rattle.ipv4.specs.Options.{option_size}

-- the option here, of so many bytes, in later fragments: as it is where it is copied (its first byte is 128 or more), else
-- No Operation
abbrev pub option_later : ℕ → List ℕ → List ℕ
option_later size options =
    (if nat_le 128 (slice_index options 0) then take size options else replicate size 1)

-- at most so many options in later fragments; where the options end, what follows stays
unfoldable pub later_from : ℕ → List ℕ → List ℕ
later_from zero options = options
later_from (suc most) options =
    let size = option_size options in
    (if size == 0 then options
    else option_later size options ++ later_from most (drop size options))

-- the options of later fragments: there are no more options than bytes
abbrev pub later_options : List ℕ → List ℕ
later_options options = later_from (length options) options
