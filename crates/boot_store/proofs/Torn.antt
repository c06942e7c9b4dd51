-- Writes that are torn or undone.
use Rattle.std.proofs.Common.{◌≡◌, ◌≢◌, ◌+◌, ◌≤◌, ℕ, List, length, take, drop, inl, inr, refl, arith}
use Rattle.std.proofs.lemmas.List.{length-drop, length-take}
use Rattle.boot_store.specs.declared.model.Fate.{Fate}
use Rattle.boot_store.specs.declared.model.Fate.TheVariants.{Done, Torn, Undone}
use Rattle.boot_store.specs.Moment.{FailedWrite, Moment}
use Rattle.boot_store.specs.Troubles.{written_as}

-- a write that isn't done is one that failed
pub undone_failed : (fate : Fate) (at : ℕ) (bytes any : List ℕ) (old new : Moment) → fate ≢ Done → at + length bytes ≤ length any
    → new ≡ written_as fate at bytes any old → FailedWrite at (length bytes) old new
undone_failed Done at bytes any old new isnt fits is = absurd (isnt refl)
undone_failed Torn at bytes any old new isnt fits is =
    let part = take (length bytes) (drop at any) in
    let size : length part ≡ length bytes = omega (arith, length-take (length bytes) (drop at any), length-drop at any, fits) in
    inr (part, size, is)
undone_failed Undone at bytes any old new isnt fits is = inl is
