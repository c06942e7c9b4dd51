-- The key that a fault has, and which fault it is.
use Rattle.std.specs.Prelude.{◌≡◌, Bool, if◌then◌else◌, List, [], ◌∷◌, Option, Some, None, Result, MatchResult}
use Rattle.settings_file.specs.declared.keys.Section.{Section}
use Rattle.settings_file.specs.declared.keys.Name.{Name}
use Rattle.settings_file.specs.declared.keys.Key.{Key}
use Rattle.settings_file.specs.declared.faults.SettingFault.{SettingFault}
use Rattle.settings_file.specs.declared.faults.SettingFault.TheVariants as faults
use Rattle.settings_file.specs.Keys.{key}

-- the key of a value that can't be read
abbrev pub IsBadAt : {X : Type 0} → Section → Name → Option X → Key → Type 0
IsBadAt section name value k = (k ≡ key section name) × (value ≡ None)

-- the first key of rows whose value is not good
abbrev pub first_bad : List (Key × Bool) → Option Key
first_bad [] = None
first_bad (row ∷ rest) = if row.1 then first_bad rest else Some row.0

-- all keys of rows whose values are not good
abbrev pub all_bad : List (Key × Bool) → List Key
all_bad [] = []
all_bad (row ∷ rest) = if row.1 then all_bad rest else row.0 ∷ all_bad rest

-- the first of some keys
abbrev pub first : List Key → Option Key
first [] = None
first (k ∷ rest) = Some k

-- a key of the first part, or else of the second
abbrev pub earlier : Option Key → Option Key → Option Key
earlier (Some k) rest = Some k
earlier None rest = rest

-- where a value comes of it no key is bad; else it tells the first that is
abbrev pub FindsBad : {X : Type 0} → Option Key → Result X Key → Type 0
FindsBad bad result = MatchResult result (λ value. bad ≡ None) (λ k. bad ≡ Some k)

-- a fault tells this key of a bad value, or that memory was refused
abbrev pub TellsBad : Option Key → SettingFault → Type 0
TellsBad bad (faults.BadValue k) = bad ≡ Some k
TellsBad bad faults.NoMemory = Unit {0}
TellsBad bad _ = ⊥

-- the same where the result is a fault
abbrev pub FindsBadValue : {X : Type 0} → Option Key → Result X SettingFault → Type 0
FindsBadValue bad result = MatchResult result (λ value. bad ≡ None) (TellsBad bad)
