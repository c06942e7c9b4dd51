-- A wheel and the slots that it keeps in chains.
use Rattle.std.specs.Prelude.{◌≡◌, ℕ, ◌<◌, ◌^◌, List, length}
use Rattle.timers.specs.Due.{set_count}
use Rattle.timers.specs.Chains.{AreChains, AreCleared, moments}
use Rattle.timers.specs.declared.links.Links.{Links}
use Rattle.timers.specs.declared.wheel.Wheel.{Wheel}

-- how often a wheel has turned: by a chain in 1,024 centiseconds
abbrev pub turns_of : Wheel → ℕ
turns_of wheel = wheel.turns

-- the slots that are set are linked in some chains, and counted; the others have no neighbours
pub record IsLinked (wheel : Wheel) (links : List Links) : Type 0 where
  pub heads : length wheel.heads.items ≡ 1024
  pub count : wheel.count ≡ set_count (moments links)
  pub room : length links < 2 ^ 64
  pub cleared : AreCleared links
  pub chains : ℕ → List ℕ
  pub linked : AreChains wheel.heads.items wheel.turns links chains
