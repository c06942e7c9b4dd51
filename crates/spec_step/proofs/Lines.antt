-- What a gateway's routers are after a line of the state table: which lines lead to Initialize and away from it, and
-- that a tick in Initialize sends nothing.
use Rattle.std.proofs.Common.{◌≡◌, ◌⊎◌, ℕ, List, [], ◌∷◌, inl, inr, refl, sym, ap, ◌∙◌}
use Rattle.nat_types.specs.declared.gateways.Side.{Side}
use Rattle.nat_types.specs.declared.gateways.Side.TheVariants.{Inside, Outside}
use Rattle.vrrp_states.specs.declared.Action.{Action}
use Rattle.vrrp_states.specs.declared.Action.TheVariants.{Nothing}
use Rattle.vrrp_states.specs.declared.State.{State}
use Rattle.vrrp_states.specs.declared.State.TheVariants.{Initialize, Backup, Active}
use Rattle.vrrp_states.specs.Table as table
use Rattle.vrrp_states.specs.Table.{Event as RouterEvent, IsDue, Line, Router, Says, timer_of}
use Rattle.spec_step.specs.Parts.{all_framed, framed, frames_of, started_in}
use Rattle.spec_step.specs.Routers.{BothAct, RouterActs}
use Rattle.spec_step.specs.Settled.{AreIdle}
use Rattle.spec_step.specs.Shown.{GatewayAndOutput, Shown, scene, with_station}

-- from Initialize only a start leads away
pub line-idles : (line : Line) (r : Router) (event : RouterEvent) (now : ℕ) (action : Action) (r2 : Router) → Says line r event now action r2 → (event ≡ table.Start → ⊥) → r.state ≡ Initialize → r2.state ≡ Initialize
line-idles table.InitializeStart r event now action r2 says other idle = absurd (other says.1)
line-idles table.InitializeOther r event now action r2 says other idle = ap (λ (x : Router). x.state) says.3 ∙ idle
line-idles table.BackupStop r event now action r2 says other idle = let no : Backup ≡ Initialize = sym says.0 ∙ idle in absurd (cc)
line-idles table.BackupTimer r event now action r2 says other idle = let no : Backup ≡ Initialize = sym says.0 ∙ idle in absurd (cc)
line-idles table.BackupPriorityZero r event now action r2 says other idle = let no : Backup ≡ Initialize = sym says.2 ∙ idle in absurd (cc)
line-idles table.BackupFollows r event now action r2 says other idle = let no : Backup ≡ Initialize = sym says.3 ∙ idle in absurd (cc)
line-idles table.BackupOther r event now action r2 says other idle = let no : Backup ≡ Initialize = sym says.3 ∙ idle in absurd (cc)
line-idles table.ActiveStop r event now action r2 says other idle = let no : Active ≡ Initialize = sym says.0 ∙ idle in absurd (cc)
line-idles table.ActiveTimer r event now action r2 says other idle = let no : Active ≡ Initialize = sym says.0 ∙ idle in absurd (cc)
line-idles table.ActivePriorityZero r event now action r2 says other idle = let no : Active ≡ Initialize = sym says.2 ∙ idle in absurd (cc)
line-idles table.ActiveYields r event now action r2 says other idle = let no : Active ≡ Initialize = sym says.3 ∙ idle in absurd (cc)
line-idles table.ActiveOther r event now action r2 says other idle = let no : Active ≡ Initialize = sym says.3 ∙ idle in absurd (cc)
line-idles table.NothingDue r event now action r2 says other idle = absurd (says.0 idle)

-- a stop leads to Initialize from each state
pub line-stops : (line : Line) (r : Router) (now : ℕ) (action : Action) (r2 : Router) → Says line r table.Stop now action r2 → r2.state ≡ Initialize
line-stops table.InitializeStart r now action r2 says = let no = says.1 in absurd (cc)
line-stops table.InitializeOther r now action r2 says = ap (λ (x : Router). x.state) says.3 ∙ says.0
line-stops table.BackupStop r now action r2 says = ap (λ (x : Router). x.state) says.3
line-stops table.BackupTimer r now action r2 says = let no = says.1 in absurd (cc)
line-stops table.BackupPriorityZero r now action r2 says = let no = says.3 in absurd (cc)
line-stops table.BackupFollows r now action r2 says = let no = says.4 in absurd (cc)
line-stops table.BackupOther r now action r2 says = let no = says.4 in absurd (cc)
line-stops table.ActiveStop r now action r2 says = ap (λ (x : Router). x.state) says.3
line-stops table.ActiveTimer r now action r2 says = let no = says.1 in absurd (cc)
line-stops table.ActivePriorityZero r now action r2 says = let no = says.3 in absurd (cc)
line-stops table.ActiveYields r now action r2 says = let no = says.4 in absurd (cc)
line-stops table.ActiveOther r now action r2 says = let no = says.4 in absurd (cc)
line-stops table.NothingDue r now action r2 says = at says.1
  where
    at : (table.Stop ≡ table.Start) ⊎ ((table.Stop ≡ table.Tick) × (IsDue (timer_of r.state r) now → ⊥)) → r2.state ≡ Initialize
    at (inl never) = absurd (cc)
    at (inr never) = let clash = never.0 in absurd (cc)

-- only a stop leads to Initialize
pub line-stays : (line : Line) (r : Router) (event : RouterEvent) (now : ℕ) (action : Action) (r2 : Router) → Says line r event now action r2 → (event ≡ table.Stop → ⊥) → r2.state ≡ Initialize → r.state ≡ Initialize
line-stays table.InitializeStart r event now action r2 says other idle = says.0
line-stays table.InitializeOther r event now action r2 says other idle = says.0
line-stays table.BackupStop r event now action r2 says other idle = absurd (other says.1)
line-stays table.BackupTimer r event now action r2 says other idle = let no : Active ≡ Initialize = sym (ap (λ (x : Router). x.state) says.4) ∙ idle in absurd (cc)
line-stays table.BackupPriorityZero r event now action r2 says other idle = sym (ap (λ (x : Router). x.state) says.5) ∙ idle
line-stays table.BackupFollows r event now action r2 says other idle = sym (ap (λ (x : Router). x.state) says.8) ∙ idle
line-stays table.BackupOther r event now action r2 says other idle = sym (ap (λ (x : Router). x.state) says.8) ∙ idle
line-stays table.ActiveStop r event now action r2 says other idle = absurd (other says.1)
line-stays table.ActiveTimer r event now action r2 says other idle = sym (ap (λ (x : Router). x.state) says.4) ∙ idle
line-stays table.ActivePriorityZero r event now action r2 says other idle = sym (ap (λ (x : Router). x.state) says.5) ∙ idle
line-stays table.ActiveYields r event now action r2 says other idle = let no : Backup ≡ Initialize = sym (ap (λ (x : Router). x.state) says.8) ∙ idle in absurd (cc)
line-stays table.ActiveOther r event now action r2 says other idle = sym (ap (λ (x : Router). x.state) says.8) ∙ idle
line-stays table.NothingDue r event now action r2 says other idle = sym (ap (λ (x : Router). x.state) says.3) ∙ idle

-- a tick in Initialize sends nothing
pub line-quiet : (line : Line) (r : Router) (now : ℕ) (action : Action) (r2 : Router) → Says line r table.Tick now action r2 → r.state ≡ Initialize → action ≡ Nothing
line-quiet table.InitializeStart r now action r2 says idle = let no = says.1 in absurd (cc)
line-quiet table.InitializeOther r now action r2 says idle = says.2
line-quiet table.BackupStop r now action r2 says idle = let no = says.1 in absurd (cc)
line-quiet table.BackupTimer r now action r2 says idle = let no : Backup ≡ Initialize = sym says.0 ∙ idle in absurd (cc)
line-quiet table.BackupPriorityZero r now action r2 says idle = let no = says.3 in absurd (cc)
line-quiet table.BackupFollows r now action r2 says idle = let no = says.4 in absurd (cc)
line-quiet table.BackupOther r now action r2 says idle = let no = says.4 in absurd (cc)
line-quiet table.ActiveStop r now action r2 says idle = let no = says.1 in absurd (cc)
line-quiet table.ActiveTimer r now action r2 says idle = let no : Active ≡ Initialize = sym says.0 ∙ idle in absurd (cc)
line-quiet table.ActivePriorityZero r now action r2 says idle = let no = says.3 in absurd (cc)
line-quiet table.ActiveYields r now action r2 says idle = let no = says.4 in absurd (cc)
line-quiet table.ActiveOther r now action r2 says idle = let no = says.4 in absurd (cc)
line-quiet table.NothingDue r now action r2 says idle = says.2

-- a router that was started isn't in Initialize
pub started-begun : (state : State) (r : Router) (now : ℕ) → r.state ≡ state → (started_in state r now).state ≡ Initialize → ⊥
started-begun Initialize r now is idle = absurd (cc)
started-begun Backup r now is idle = let no : Backup ≡ Initialize = sym is ∙ idle in absurd (cc)
started-begun Active r now is idle = let no : Active ≡ Initialize = sym is ∙ idle in absurd (cc)

-- ---- both routers

pub all-framed-shown : (s : GatewayAndOutput) (side : Side) (fs : List (List ℕ)) → (all_framed s side fs).shown ≡ s.shown
all-framed-shown s side [] = refl
all-framed-shown s side (f ∷ fs) = all-framed-shown (framed s side f) side fs

pub acts-shown : (s : GatewayAndOutput) (side : Side) (event : RouterEvent) (s2 : GatewayAndOutput) → (a : RouterActs s side event s2) → s2.shown ≡ with_station s.shown side a.station
acts-shown s side event s2 a =
    ap (λ (x : GatewayAndOutput). x.shown) a.is ∙ all-framed-shown (scene (with_station s.shown side a.station) s.told) side (frames_of a.station a.action)

-- a step of both routers changes only the interfaces
pub both-shown : (s : GatewayAndOutput) (event : RouterEvent) (s2 : GatewayAndOutput) → (both : BothAct s event s2) → s2.shown ≡ with_station (with_station s.shown Inside both.inside.station) Outside both.outside.station
both-shown s event s2 both =
    acts-shown both.between Outside event s2 both.outside
    ∙ ap (λ (g : Shown). with_station g Outside both.outside.station) (acts-shown s Inside event both.between both.inside)

-- after a stop both routers are in Initialize
pub both-stopped : (s : GatewayAndOutput) (s2 : GatewayAndOutput) → BothAct s table.Stop s2 → AreIdle s2.shown
both-stopped s s2 both =
    let one = both.inside in
    let two = both.outside in
    let first = one.step.line in
    let second = two.step.line in
    let shown = both-shown s table.Stop s2 both in (
      ap (λ (g : Shown). g.inside.router.state) shown ∙ line-stops first.0 s.shown.inside.router s.shown.moment one.action one.station.router first.1,
      ap (λ (g : Shown). g.outside.router.state) shown ∙ line-stops second.0 both.between.shown.outside.router both.between.shown.moment two.action two.station.router second.1,
    )
