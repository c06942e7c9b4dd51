-- The options of an IPv4 header, one after another (RFC 791, section 3.1).
use Rattle.std.specs.Prelude.{ℕ, zero, suc, ◌-◌, Bool, false, not, nat_le, ◌==◌, ◌&&◌, ◌||◌, List, [], ◌∷◌, length, slice_index, if◌then◌else◌}

-- the bytes of the option that begins here: of No Operation (1) one, of any other as many as its second byte says. 0 where
-- the options end: with End of Option List (0), or where that length is missing, below 2 or beyond the header
abbrev pub option_size : List ℕ → ℕ
option_size [] = 0
option_size (kind ∷ rest) =
    let size = slice_index rest 0 in
    (if kind == 0 then 0
    else if kind == 1 then 1
    else if nat_le 2 size && nat_le size (length (kind ∷ rest)) then size
    else 0)

-- an option that begins with this byte is a loose or a strict source route, whatever its length is
abbrev pub is_source_route : ℕ → Bool
is_source_route kind = (kind == 0x83) || (kind == 0x89)

-- of the options that begin behind so many bytes, one is a source route
abbrev pub has_route_behind : ℕ → List ℕ → Bool
has_route_behind skipped [] = false
has_route_behind (suc skipped) (byte ∷ rest) = has_route_behind skipped rest
has_route_behind zero (kind ∷ rest) =
    let size = option_size (kind ∷ rest) in
    is_source_route kind || (not (size == 0) && has_route_behind (size - 1) rest)

-- one of a header's options is a source route
unfoldable pub has_source_route : List ℕ → Bool
has_source_route options = has_route_behind 0 options
