-- Lists of values.
use Rattle.std.proofs.Common.{◌≡◌, ◌&&◌, Bool, List, [], ◌∷◌, map, refl, ap}
use Rattle.std.specs.List.{list_all}
use Rattle.toml.specs.declared.value.Value.{Value}
use Rattle.settings_file.specs.Document.{is_table}
use Rattle.toml.specs.Data.{Data}
use Rattle.toml.specs.View.{view, items_of}
use Rattle.settings_file.specs.Document.{list_of}

-- the items of a list are its values again
pub list_of_items : (xs : List Data) → list_of (items_of xs) ≡ xs
list_of_items [] = refl
list_of_items (x ∷ xs) = ap (λ ys. x ∷ ys) (list_of_items xs)

-- values are tables where their data are
pub all_tables : (xs : List Value) → list_all is_table (map view xs) ≡ list_all (λ v. is_table (view v)) xs
all_tables [] = refl
all_tables (x ∷ xs) = ap (λ (b : Bool). is_table (view x) && b) (all_tables xs)
