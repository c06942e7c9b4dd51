-- What a turn does, in its three cases.
use Rattle.std.proofs.Common.{◌≡◌, Bool, cond, false, refl, sym, subst}
use Rattle.vrrp_states.specs.Table as table
use Rattle.spec_step.specs.declared.turns.Turn.{Turn}
use Rattle.spec_step.specs.declared.turns.Turn.TheVariants.{Leaves, Returns, Stays}
use Rattle.spec_step.specs.GivingWay.{TakesTurn, left}
use Rattle.spec_step.specs.Parts.{routers_started}
use Rattle.spec_step.specs.Routers.{BothAct}
use Rattle.spec_step.specs.Shown.{GatewayAndOutput, Shown, is_up, scene}

-- the gateway that comes back, with its routers started or not
abbrev pub back_as : Bool → Shown → Shown
back_as starts g = let back : Shown = record g { away = false } in cond starts (routers_started back) back

-- a property of scenes holds after a turn, where it holds of a gateway that was stopped and is away, of one that comes
-- back, and of the scene before
pub turn-by : (P : GatewayAndOutput → Type 0) (s s2 : GatewayAndOutput)
    → ((middle : GatewayAndOutput) → BothAct s table.Stop middle → P (left middle))
    → ((starts : Bool) → is_up s.shown ≡ starts → P (scene (back_as starts s.shown) s.told))
    → P s
    → (t : Turn) → TakesTurn s t s2 → P s2
turn-by P s s2 gone back here Leaves takes = subst P (sym takes.2) (gone takes.0 takes.1)
turn-by P s s2 gone back here Returns takes = subst P (sym takes) (back (is_up s.shown) refl)
turn-by P s s2 gone back here Stays takes = subst P (sym takes) here
