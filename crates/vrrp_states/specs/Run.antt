-- A run of a router: the events that it receives one after another, and what it sends.
use Rattle.std.specs.Prelude.{◌≡◌, ℕ, List, [], ◌∷◌}
use Rattle.vrrp_states.specs.declared.Action.{Action}
use Rattle.vrrp_states.specs.Table.{Router, Event, Heard, IsStep}

-- one event, its time, and what was sent
pub record RouterInput : Type 0 where
  pub event : Event
  pub now : ℕ
  pub action : Action

-- steps one after another lead from a router to the last one
abbrev pub Runs : Router → List RouterInput → Router → Type 0
Runs router [] last = last ≡ router
Runs router (told ∷ more) last = (next : Router)
    × IsStep router told.event told.now told.action next × Runs next more last

-- the event in which a router receives the advertisement of another one, from its primary address
abbrev pub hears : Router → Event
hears other = Heard other.priority other.interval other.address
