-- A router that starts sends nothing.
use Rattle.std.proofs.Common.{◌≡◌, ℕ, inl, refl}
use Rattle.vrrp_states.specs.declared.State.{State}
use Rattle.vrrp_states.specs.declared.State.TheVariants.{Initialize, Backup, Active}
use Rattle.vrrp_states.specs.declared.Action.{Action}
use Rattle.vrrp_states.specs.declared.Action.TheVariants.{Nothing}
use Rattle.vrrp_states.specs.Table.{Router, Event, Start, IsStep, InitializeStart, NothingDue}

-- each step has one outcome
abbrev pub OneOutcome : Type 0
OneOutcome = (r : Router) (e : Event) (now : ℕ) (a b : Action) (s t : Router) → IsStep r e now a s → IsStep r e now b t → (a ≡ b) × (s ≡ t)

silent-at : (one : OneOutcome) (state : State) (r s : Router) (now : ℕ) (a : Action) → r.state ≡ state → IsStep r Start now a s → a ≡ Nothing
silent-at one Initialize r s now a is step = (one r Start now a Nothing s _ step (InitializeStart, (is, refl, refl, refl))).0
silent-at one Backup r s now a is step = (one r Start now a Nothing s r step (NothingDue, (λ e. absurd (cc), inl refl, refl, refl))).0
silent-at one Active r s now a is step = (one r Start now a Nothing s r step (NothingDue, (λ e. absurd (cc), inl refl, refl, refl))).0

pub start-silent : (one : OneOutcome) (r s : Router) (now : ℕ) (a : Action) → IsStep r Start now a s → a ≡ Nothing
start-silent one r s now a step = silent-at one r.state r s now a refl step
