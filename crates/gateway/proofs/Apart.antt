-- Whether a gateway is apart stays as it is within a tick, once the clock has moved; and what a tick does then.
use Rattle.std.proofs.Common.{◌≡◌, ◌≤◌, ℕ, suc, Bool, true, false, cond, List, [], ◌∷◌, length, Option, Some, None, refl, sym, ap, ◌∙◌, arith}
use Rattle.std.specs.List.{filter}
use Rattle.nat_types.specs.declared.gateways.Side.{Side}
use Rattle.nat_types.specs.declared.gateways.Side.TheVariants.{Inside, Outside}
use Rattle.nat_types.specs.declared.pairs.Key.{Key}
use Rattle.nat_types.specs.declared.records.Record.{Record}
use Rattle.bindings.specs.Lives.{idle_keys_in}
use Rattle.link.specs.Link.{Link}
use Rattle.interfaces.specs.Stations.{Interface}
use Rattle.vrrp_states.specs.Table as table
use Rattle.vrrp_states.specs.Table.{Event as RouterEvent}
use Rattle.vrrp_states.specs.declared.Action.{Action}
use Rattle.waiting.specs.declared.waits.Ended.TheVariants.{AllPairs}
use Rattle.waiting.specs.Packets.{HeldPacket}
use Rattle.spec_binding.specs.declared.changes.Transition.{Transition}
use Rattle.spec_binding.specs.Books.{Book, is_apart as is_book_apart, is_lone}
use Rattle.spec_binding.specs.Ledgers.{ledger_after, may_ask}
use Rattle.spec_binding.specs.Rows.{answered, idle_row}
use Rattle.spec_binding.proofs.Offered.{change-leaves}
use Rattle.spec_step.specs.declared.events.Event.TheVariants.{Tick}
use Rattle.spec_step.specs.declared.turns.Turn.{Turn}
use Rattle.spec_step.specs.declared.turns.Turn.TheVariants.{Leaves, Returns, Stays as Remains}
use Rattle.spec_step.specs.GivingWay.{GivingWay, TakesTurn, returned, turn_of}
use Rattle.spec_step.specs.Parts.{acted, all_idle_done, alone_taken, by_row, frames_of, idle_done, idle_taken, old_dropped, released}
use Rattle.spec_step.specs.Routers.{BothAct, RouterActs}
use Rattle.spec_step.specs.Shown.{GatewayAndOutput, Shown, is_apart, is_up, scene, with_station}
use Rattle.spec_step.specs.Steps.{Does, ticked}
use Rattle.gateway.specs.Ticks.{TicksTo, is_apart_at, sought_taken}
use Rattle.gateway.proofs.Lasting.{framed-same}

-- what a gateway is apart by: its stage, its settings' time, and when the peer last answered
apart-so : (b b2 : Book) (e e2 : Link) (now : ℕ) → b2.stage ≡ b.stage → b2.alone ≡ b.alone → e2.answered ≡ e.answered → is_book_apart b2 e2 now ≡ is_book_apart b e now
apart-so b b2 e e2 now stage alone answers = rw (stage, alone, answers) refl

-- pushing an answer, or none, leaves when the peer last answered
answered-still : (e : Link) (a : Option Record) → (answered e a).answered ≡ e.answered
answered-still e None = refl
answered-still e (Some r) = refl

row-apart : (s : GatewayAndOutput) (row : Transition) → is_apart (by_row s row).shown ≡ is_apart s.shown
row-apart s row =
    let g = s.shown in
    let beside = change-leaves g.ledger.book row.change in
    apart-so g.ledger.book (ledger_after g.moment row.change g.ledger).book g.link (answered g.link row.answer) g.moment beside.stage beside.alone (answered-still g.link row.answer)

-- idle pairs that are let go leave it
idle-apart : (s : GatewayAndOutput) (keys : List Key) → is_apart (all_idle_done s keys).shown ≡ is_apart s.shown
idle-apart s [] = refl
idle-apart s (k ∷ ks) = idle-apart (idle_done s k) ks ∙ row-apart s (idle_row s.shown.ledger.book (may_ask s.shown.moment s.shown.ledger.book s.shown.link) k)

-- ---- the routers

station-apart : (g : Shown) (side : Side) (station : Interface) → is_apart (with_station g side station) ≡ is_apart g
station-apart g Inside station = refl
station-apart g Outside station = refl

acted-apart : (s : GatewayAndOutput) (side : Side) (station : Interface) (action : Action) → is_apart (acted s side station action).shown ≡ is_apart s.shown
acted-apart s side station action =
    ap is_apart (framed-same (scene (with_station s.shown side station) s.told) side (frames_of station action)) ∙ station-apart s.shown side station

router-apart : (s : GatewayAndOutput) (side : Side) (e : RouterEvent) (s2 : GatewayAndOutput) → RouterActs s side e s2 → is_apart s2.shown ≡ is_apart s.shown
router-apart s side e s2 a = ap (λ (x : GatewayAndOutput). is_apart x.shown) a.is ∙ acted-apart s side a.station a.action

both-apart : (s : GatewayAndOutput) (e : RouterEvent) (s2 : GatewayAndOutput) → BothAct s e s2 → is_apart s2.shown ≡ is_apart s.shown
both-apart s e s2 b = router-apart b.between Outside e s2 b.outside ∙ router-apart s Inside e b.between b.inside

returned-apart : (g : Shown) (up : Bool) → is_up g ≡ up → is_apart (returned g) ≡ is_apart g
returned-apart g true is = rw is refl
returned-apart g false is = rw is refl

turn-apart : (s : GatewayAndOutput) (turn : Turn) (s2 : GatewayAndOutput) → TakesTurn s turn s2 → is_apart s2.shown ≡ is_apart s.shown
turn-apart s Leaves s2 takes = ap (λ (x : GatewayAndOutput). is_apart x.shown) takes.2 ∙ both-apart s table.Stop takes.0 takes.1
turn-apart s Returns s2 takes = ap (λ (x : GatewayAndOutput). is_apart x.shown) takes ∙ returned-apart s.shown (is_up s.shown) refl
turn-apart s Remains s2 takes = ap (λ (x : GatewayAndOutput). is_apart x.shown) takes

-- ---- a tick

-- the gateway is apart once its idle pairs were let go, where it was when the clock had moved
tick-apart : (s : GatewayAndOutput) (now : ℕ) (turned middle : GatewayAndOutput) → GivingWay (ticked s now) turned → BothAct turned table.Tick middle → is_apart (idle_taken (old_dropped middle)).shown ≡ is_apart_at s.shown now
tick-apart s now turned middle turn acts =
    let young = old_dropped middle in
    let l = young.shown.ledger in
    idle-apart young (idle_keys_in (is_lone l.book.stage) young.shown.moment l.book.entries l.lives)
    ∙ both-apart turned table.Tick middle acts
    ∙ turn-apart (ticked s now) (turn_of (ticked s now).shown) turned turn

alone-as : (s : GatewayAndOutput) → is_apart s.shown ≡ true → alone_taken s ≡ released (sought_taken s) AllPairs
alone-as s apart = rw apart refl

together-as : (s : GatewayAndOutput) → is_apart s.shown ≡ false → alone_taken s ≡ sought_taken s
together-as s together = rw together refl

-- where the gateway is apart, the packets that waited for pairs are taken again at the end of the tick
pub ticks-alone : (s : GatewayAndOutput) (now : ℕ) (s1 s2 : GatewayAndOutput) → is_apart_at s.shown now ≡ true → TicksTo s now s1 → s2 ≡ released s1 AllPairs → Does s (Tick now) s2
ticks-alone s now s1 s2 apart ticks takes =
    let idle = idle_taken (old_dropped ticks.1) in
    let so = alone-as idle (tick-apart s now ticks.0 ticks.1 ticks.2 ticks.3 ∙ apart) in
    (ticks.0, ticks.1, ticks.2, ticks.3, takes ∙ ap (λ (x : GatewayAndOutput). released x AllPairs) ticks.4 ∙ sym so)

-- where it isn't, none is
pub ticks-together : (s : GatewayAndOutput) (now : ℕ) (s1 : GatewayAndOutput) → is_apart_at s.shown now ≡ false → TicksTo s now s1 → Does s (Tick now) s1
ticks-together s now s1 together ticks =
    let idle = idle_taken (old_dropped ticks.1) in
    let so = together-as idle (tick-apart s now ticks.0 ticks.1 ticks.2 ticks.3 ∙ together) in
    (ticks.0, ticks.1, ticks.2, ticks.3, ticks.4 ∙ sym so)

-- no more packets are young than there are
pub filter-short : (test : HeldPacket → Bool) (ws : List HeldPacket) → length (filter test ws) ≤ length ws
filter-short test [] = omega arith
filter-short test (w ∷ ws) = at (test w) (filter-short test ws)
  where
    at : (b : Bool) → length (filter test ws) ≤ length ws → length (let kept : List HeldPacket = cond b (w ∷ filter test ws) (filter test ws) in kept) ≤ suc (length ws)
    at true h = omega (arith, h)
    at false h = omega (arith, h)
