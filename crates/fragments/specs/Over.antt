-- A payload over whose bytes fragments are written.
use Rattle.std.specs.Prelude.{ℕ, ◌-◌, List, [], ◌∷◌, length, map, slice_index, if◌then◌else◌}
use Rattle.std.specs.List.{range_with_len}
use Rattle.fragments.specs.Fragment.{carried, carries, first_of}

-- the byte at a place: as the first fragment has it that carries it, and where none does, as it was
abbrev pub byte_over : List ℕ → List (List ℕ) → ℕ → ℕ
byte_over old [] place = slice_index old place
byte_over old (f ∷ fragments) place =
    (if carries place f then slice_index (carried f) (place - first_of f)
    else byte_over old fragments place)

abbrev pub written_over : List ℕ → List (List ℕ) → List ℕ
written_over old fragments = map (byte_over old fragments) (range_with_len 0 (length old))
