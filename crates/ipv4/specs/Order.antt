-- The first of several tests that fails.
use Rattle.std.specs.Prelude.{Bool, List, [], ◌∷◌, Option, Some, None, if◌then◌else◌}

-- the fault of the first test that fails; each test is true where it fails
abbrev pub first_fault : {F : Type 0} → List (Bool × F) → Option F
first_fault [] = None
first_fault (test ∷ tests) = (if test.0 then Some test.1 else first_fault tests)
