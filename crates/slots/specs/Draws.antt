-- Keys that were drawn.
use Rattle.std.specs.Prelude.{◌⊎◌, ℕ}
use Rattle.std.specs.declared.io.Error.{Error}
use Rattle.slots.specs.declared.keyed_hasher.Keys.{Keys}
use Rattle.slots.specs.declared.hashers.Hashers.{Hashers}
use Rattle.slots.specs.declared.hashers.Hashers.TheVariants.{Fixed, Drawn}

-- each key was drawn by a draw of its own, the factor first
pub record AreDrawn {D : Type 0} (drew : D → ℕ → D → Type 0) (before : D) (keys : Keys) (after : D) : Type 0 where
  pub between : D
  pub factor : drew before keys.factor between
  pub summand : drew between keys.summand after

abbrev pub HaveDrawnKeys : {D : Type 0} → (D → ℕ → D → Type 0) → D → Hashers → D → Type 0
HaveDrawnKeys drew before Fixed after = ⊥
HaveDrawnKeys drew before (Drawn keys) after = AreDrawn drew before keys after

-- one of the two draws failed: the first, or the second after a first that gave a number
abbrev pub LacksKeys : {D : Type 0} → (D → ℕ → D → Type 0) → (D → Error → D → Type 0) → D → Error → D → Type 0
LacksKeys {D} drew refused before why after =
    refused before why after
    ⊎ ((factor : ℕ) × ((between : D) × (drew before factor between × refused between why after)))
