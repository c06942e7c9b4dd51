-- The ports of which some are granted, by range.
use Rattle.std.specs.Prelude.{ℕ, ◌-◌, List}
use Rattle.std.specs.List.{filter}
use Rattle.bindings.specs.declared.entries.Entry.{Entry}
use Rattle.bindings.specs.Ports.{is_spare}
use Rattle.spec_binding.specs.Rows.{falling}

-- the spare ports from lowest on and below end, in falling order
abbrev pub spares_between : List Entry → List ℕ → ℕ → ℕ → List ℕ
spares_between entries owned lowest end = filter (is_spare entries owned) (falling (end - 1) (end - lowest))
