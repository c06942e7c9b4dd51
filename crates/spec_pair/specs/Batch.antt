-- The list of parcels by which a batch puts the pairs of a table.
use Rattle.std.specs.Prelude.{◌≡◌, Bool, true, List, [], ◌∷◌, Some, IsTrue}
use Rattle.nat_types.specs.declared.pairs.Endpoint.{Endpoint}
use Rattle.nat_types.specs.declared.pairs.Key.{Key}
use Rattle.nat_types.specs.declared.pairs.Pair.{Pair}
use Rattle.spec_pair.specs.Box.{In, Parcel}
use Rattle.spec_pair.specs.Ownership.{Ranges, keyed}
use Rattle.spec_pair.specs.Talk.{Slot, held}

-- The keys of the list are distinct. A parcel whose endpoint stands before it goes as a Tell, and the two are on
-- different sides: `own` says which keys are owned by the gateway that is loaded.
abbrev pub AreApart : (Key → Bool) → List Parcel → Type 0
AreApart own [] = Unit {0}
AreApart own (x ∷ xs) =
    ((y : Parcel) → In y xs → (y.pair.key ≡ x.pair.key → ⊥)
    × (y.pair.endpoint ≡ x.pair.endpoint →
    (y.told ≡ true) × (own y.pair.key ≡ own x.pair.key → ⊥)))
    × AreApart own xs

-- the list has exactly the pairs that the table holds
abbrev pub AreThose : (Key → Slot) → List Parcel → Type 0
AreThose table xs =
    ((x : Parcel) → In x xs → held (table x.pair.key) ≡ Some x.pair.endpoint)
    × ((p : Pair) → held (table p.key) ≡ Some p.endpoint →
    (x : Parcel) × In x xs × (x.pair ≡ p))

-- the port of each pair that the table holds is in the ranges
abbrev pub LieWithin : Ranges → (Key → Slot) → Type 0
LieWithin r table =
    (k : Key) (e : Endpoint) → held (table k) ≡ Some e → IsTrue (keyed r.in_ranges k)
