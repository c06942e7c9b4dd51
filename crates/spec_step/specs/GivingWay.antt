-- Giving way: a gateway with a side out leaves both sides to a peer that serves. It comes back once both of its sides
-- are whole, or once the peer doesn't serve.
use Rattle.std.specs.Prelude.{◌≡◌, true, false, not, ◌&&◌, ◌||◌, if◌then◌else◌}
use Rattle.link.specs.Hearing.{peer_serves}
use Rattle.vrrp_states.specs.Table as table
use Rattle.spec_step.specs.declared.turns.Turn.{Turn}
use Rattle.spec_step.specs.declared.turns.Turn.TheVariants.{Leaves, Returns, Stays}
use Rattle.spec_step.specs.Parts.{routers_started}
use Rattle.spec_step.specs.Routers.{BothAct}
use Rattle.spec_step.specs.Shown.{GatewayAndOutput, Shown, has_side_out, is_up, is_whole, scene}

-- the turn with which a tick begins, at the time of its clock
abbrev pub turn_of : Shown → Turn
turn_of g = let served = peer_serves g.link g.moment in
    if g.away
    then (if is_whole g || not served then Returns else Stays)
    else (if has_side_out g && served then Leaves else Stays)

-- the scene of a gateway that is away now
abbrev pub left : GatewayAndOutput → GatewayAndOutput
left s = scene (record s.shown { away = true }) s.told

-- the gateway that comes back, with its routers started where it is up
abbrev pub returned : Shown → Shown
returned g = let back = record g { away = false } in if is_up g then routers_started back else back

-- what a turn does: both routers get the stop or the start (Shutdown and Startup of RFC 9568, section 6.4)
abbrev pub TakesTurn : GatewayAndOutput → Turn → GatewayAndOutput → Type 0
TakesTurn s Leaves s2 = (middle : GatewayAndOutput) × BothAct s table.Stop middle × (s2 ≡ left middle)
TakesTurn s Returns s2 = s2 ≡ scene (returned s.shown) s.told
TakesTurn s Stays s2 = s2 ≡ s

-- the scene after the turn with which a tick begins
abbrev pub GivingWay : GatewayAndOutput → GatewayAndOutput → Type 0
GivingWay s s2 = TakesTurn s (turn_of s.shown) s2
