-- A modelled disk's past, and a device's count of failures. Neither takes bytes in the program.
use Rattle.std.specs.Prelude.{ℕ, ◌+◌, List, [], ◌∷◌, ◌++◌, Option, Some, None}
use Rattle.std.specs.declared.snapshot.Snapshot.{Snapshot}
use Rattle.boot_store.specs.Moment.{Moment}

-- the moments before the last one, and the last one
abbrev pub passed : Option (Snapshot Moment × Snapshot (List Moment)) → List Moment
passed None = []
passed (Some last) = last.1.value ++ last.0.value ∷ []

-- the count before, and one
abbrev pub counted : Option (Snapshot ℕ) → ℕ
counted None = 0
counted (Some before) = before.value + 1
