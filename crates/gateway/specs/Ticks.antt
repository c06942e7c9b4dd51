-- A tick, up to the packets that are taken again at its end.
use Rattle.std.specs.Prelude.{◌≡◌, ℕ, Bool}
use Rattle.vrrp_states.specs.Table as table
use Rattle.spec_binding.specs.Ledgers.{sought_keys}
use Rattle.spec_step.specs.GivingWay.{GivingWay}
use Rattle.spec_step.specs.Parts.{all_sought_done, idle_taken, old_dropped}
use Rattle.spec_step.specs.Routers.{BothAct}
use Rattle.spec_step.specs.Shown.{GatewayAndOutput, Shown, is_apart}
use Rattle.spec_step.specs.Steps.{clock_after, ticked}

-- whether the gateway is apart at a tick of this time
abbrev pub is_apart_at : Shown → ℕ → Bool
is_apart_at g now = is_apart (record g { moment = clock_after g.moment now })

-- the scene after a gateway that is apart marked what waits, or another one told the peer of what was made alone
abbrev pub sought_taken : GatewayAndOutput → GatewayAndOutput
sought_taken s =
    let apart = is_apart s.shown in
    all_sought_done apart s (sought_keys apart s.shown.ledger.book.entries)

-- a tick, before the packets whose wait it ends are taken again: its turn, its routers, its idle pairs, and those that
-- it marks or of which it tells
abbrev pub TicksTo : GatewayAndOutput → ℕ → GatewayAndOutput → Type 0
TicksTo s now s2 = (turned middle : GatewayAndOutput) × GivingWay (ticked s now) turned × BothAct turned table.Tick middle × (s2 ≡ sought_taken (idle_taken (old_dropped middle)))
