-- Whether a gateway is away after a tick: where a side is out and the peer serves, and never where the peer doesn't
-- serve.
use Rattle.std.proofs.Common.{◌≡◌, ◌∙◌, ℕ, Bool, true, false, cond, not, ◌&&◌, ◌||◌, refl, sym, ap}
use Rattle.link.specs.Hearing.{peer_serves}
use Rattle.link.specs.Link.{is_due_on_tick, sent_on_tick}
use Rattle.bindings.specs.Lives.{idle_keys_in}
use Rattle.spec_binding.specs.Books.{is_lone}
use Rattle.interfaces.specs.declared.cables.Cable.{Cable}
use Rattle.interfaces.specs.declared.cables.Cable.TheVariants.{Out, In}
use Rattle.interfaces.specs.Cables.{is_in, is_long_ago, is_whole as is_whole_at}
use Rattle.output.specs.Output.{with_datagram}
use Rattle.vrrp_states.specs.Table as table
use Rattle.vrrp_states.specs.Table.{Event as RouterEvent}
use Rattle.spec_step.specs.declared.events.Event.TheVariants.{Tick}
use Rattle.spec_step.specs.declared.turns.Turn.{Turn}
use Rattle.spec_step.specs.declared.turns.Turn.TheVariants.{Leaves, Returns, Stays}
use Rattle.spec_step.specs.GivingWay.{TakesTurn, turn_of}
use Rattle.spec_step.specs.Parts.{datagram_in, handed_in, idle_taken, link_ticked, old_dropped, alone_taken}
use Rattle.spec_step.specs.Routers.{BothAct}
use Rattle.spec_step.specs.Settled.{AreIdle, HaveBegun, IsSettled}
use Rattle.spec_step.specs.Shown.{GatewayAndOutput, Shown, has_side_out, is_up, is_whole, scene}
use Rattle.spec_step.specs.Steps.{IsStepOn, clock_after, ticked}
use Rattle.spec_step.proofs.Idle.{idle-at-once}
use Rattle.spec_step.proofs.Lines.{both-shown}
use Rattle.spec_step.proofs.Settling.{step-settles}
use Rattle.spec_step.proofs.Standing.{alone-stands}
use Rattle.spec_step.proofs.Turning.{back_as, turn-by}

-- the time of the clock, and whether the gateway is away, stay the same
pub record Lasts (s s2 : GatewayAndOutput) : Type 0 where
  pub moment : s2.shown.moment ≡ s.shown.moment
  pub away : s2.shown.away ≡ s.shown.away

lasts-then : (a b c : GatewayAndOutput) → Lasts a b → Lasts b c → Lasts a c
lasts-then a b c x y = record { moment = y.moment ∙ x.moment; away = y.away ∙ x.away }

both-last : (s s2 : GatewayAndOutput) (event : RouterEvent) → BothAct s event s2 → Lasts s s2
both-last s s2 event both =
    let shown = both-shown s event s2 both in
    record { moment = ap (λ (g : Shown). g.moment) shown; away = ap (λ (g : Shown). g.away) shown }

pub idle-lasts : (s : GatewayAndOutput) → Lasts s (idle_taken s)
idle-lasts s =
    let l = s.shown.ledger in
    let once = idle-at-once s (idle_keys_in (is_lone l.book.stage) s.shown.moment l.book.entries l.lives) in
    record { moment = ap (λ (x : GatewayAndOutput). x.shown.moment) once; away = ap (λ (x : GatewayAndOutput). x.shown.away) once }

pub alone-lasts : (s : GatewayAndOutput) → Lasts s (alone_taken s)
alone-lasts s = let stands = alone-stands s in record { moment = stands.moment; away = stands.away }

pub ended-lasts : (s : GatewayAndOutput) → Lasts s (link_ticked s)
ended-lasts s = at (is_due_on_tick (handed_in s.shown).link s.shown.moment)
  where
    at : (b : Bool) → Lasts s (let g = handed_in s.shown in let x : GatewayAndOutput = cond b (scene (record g { link = sent_on_tick g.link g.moment }) (with_datagram s.told (datagram_in g))) (scene g s.told) in x)
    at true = record { moment = refl; away = refl }
    at false = record { moment = refl; away = refl }

-- whether a gateway is away after a turn
abbrev pub away_by : Turn → Bool → Bool
away_by Leaves away = true
away_by Returns away = false
away_by Stays away = away

back-away : (starts : Bool) (g : Shown) → (back_as starts g).away ≡ false
back-away true g = refl
back-away false g = refl

back-moment : (starts : Bool) (g : Shown) → (back_as starts g).moment ≡ g.moment
back-moment true g = refl
back-moment false g = refl

turned-away : (s s2 : GatewayAndOutput) (t : Turn) → TakesTurn s t s2 → s2.shown.away ≡ away_by t s.shown.away
turned-away s s2 Leaves takes = ap (λ (x : GatewayAndOutput). x.shown.away) takes.2
turned-away s s2 Returns takes = ap (λ (x : GatewayAndOutput). x.shown.away) takes ∙ back-away (is_up s.shown) s.shown
turned-away s s2 Stays takes = ap (λ (x : GatewayAndOutput). x.shown.away) takes

turned-moment : (s s2 : GatewayAndOutput) (t : Turn) → TakesTurn s t s2 → s2.shown.moment ≡ s.shown.moment
turned-moment s s2 t takes =
    turn-by (λ (x : GatewayAndOutput). x.shown.moment ≡ s.shown.moment) s s2
    (λ middle both. ap (λ (g : Shown). g.moment) (both-shown s table.Stop middle both))
    (λ starts up. back-moment starts s.shown) refl t takes

-- what a whole tick does to whether the gateway is away
pub record Ticks (s : GatewayAndOutput) (now : ℕ) (s2 : GatewayAndOutput) : Type 0 where
  pub moment : s2.shown.moment ≡ clock_after s.shown.moment now
  pub away : s2.shown.away ≡ away_by (turn_of (ticked s now).shown) s.shown.away

pub tick-ticks : (s : GatewayAndOutput) (now : ℕ) (s2 : GatewayAndOutput) → IsStepOn s (Tick now) s2 → Ticks s now s2
tick-ticks s now s2 step =
    let does = step.does in
    let turned = does.0 in
    let middle = does.1 in
    let young = old_dropped middle in
    let idle = idle_taken young in
    let last = alone_taken idle in
    let rest = lasts-then turned middle (link_ticked last) (both-last turned middle table.Tick does.3)
    (lasts-then middle last (link_ticked last)
    (lasts-then middle idle last (lasts-then middle young idle (record { moment = refl; away = refl }) (idle-lasts young)) (alone-lasts idle))
    (ended-lasts last)) in
    let same : s2 ≡ link_ticked last = step.sends ∙ ap (λ (x : GatewayAndOutput). link_ticked x) does.4 in
    let t = turn_of (ticked s now).shown in
    record {
      moment = ap (λ (x : GatewayAndOutput). x.shown.moment) same ∙ rest.moment ∙ turned-moment (ticked s now) turned t does.2;
      away = ap (λ (x : GatewayAndOutput). x.shown.away) same ∙ rest.away ∙ turned-away (ticked s now) turned t does.2;
    }

-- ---- which turn it is

abbrev pub turn_as : (away out whole served : Bool) → Turn
turn_as away out whole served = cond away (cond (whole || not served) Returns Stays) (cond (out && served) Leaves Stays)

-- a gateway with a side out isn't whole
out-unwhole : (a b : Cable) (now : ℕ) → not (is_in a && is_in b) ≡ true → (is_whole_at a now && is_whole_at b now) ≡ false
out-unwhole Out b now out = refl
out-unwhole (In since) Out now out = at (is_long_ago since now)
  where
    at : (w : Bool) → (w && false) ≡ false
    at true = refl
    at false = refl
out-unwhole (In since) (In last) now out = absurd (cc)

goes-away : (away out whole served : Bool) → out ≡ true → served ≡ true → whole ≡ false → away_by (turn_as away out whole served) away ≡ true
goes-away true true false true a b c = refl
goes-away false true false true a b c = refl
goes-away away false whole served a b c = absurd (cc)
goes-away away true true served a b c = absurd (cc)
goes-away away true false false a b c = absurd (cc)

comes-back : (away out whole served : Bool) → served ≡ false → away_by (turn_as away out whole served) away ≡ false
comes-back away out whole true none = absurd (cc)
comes-back true out true false none = refl
comes-back true out false false none = refl
comes-back false true whole false none = refl
comes-back false false whole false none = refl

-- ---- the two laws

up-not-away : (up away : Bool) → away ≡ true → (up && not away) ≡ false
up-not-away true away is = ap not is
up-not-away false away is = refl

up-and-there : (up away : Bool) → up ≡ true → away ≡ false → (up && not away) ≡ true
up-and-there up away one two = ap (λ (b : Bool). b && not away) one ∙ ap not two

pub gives-way : (s : GatewayAndOutput) (now : ℕ) (s2 : GatewayAndOutput) → IsStepOn s (Tick now) s2 → IsSettled s.shown → has_side_out s.shown ≡ true → peer_serves s.shown.link s2.shown.moment ≡ true → AreIdle s2.shown
gives-way s now s2 step settled out served =
    let x = tick-ticks s now s2 step in
    let g = (ticked s now).shown in
    let serves : peer_serves s.shown.link g.moment ≡ true = ap (λ (n : ℕ). peer_serves s.shown.link n) (sym x.moment) ∙ served in
    let away : s2.shown.away ≡ true = x.away ∙ goes-away s.shown.away (has_side_out g) (is_whole g) (peer_serves g.link g.moment) out serves (out-unwhole s.shown.inside.cable s.shown.outside.cable g.moment out) in
    (step-settles s (Tick now) s2 step settled).idle (up-not-away (is_up s2.shown) s2.shown.away away)

pub never-alone : (s : GatewayAndOutput) (now : ℕ) (s2 : GatewayAndOutput) → IsStepOn s (Tick now) s2 → IsSettled s.shown → peer_serves s.shown.link s2.shown.moment ≡ false → is_up s2.shown ≡ true → HaveBegun s2.shown
never-alone s now s2 step settled none up =
    let x = tick-ticks s now s2 step in
    let g = (ticked s now).shown in
    let nobody : peer_serves s.shown.link g.moment ≡ false = ap (λ (n : ℕ). peer_serves s.shown.link n) (sym x.moment) ∙ none in
    let there : s2.shown.away ≡ false = x.away ∙ comes-back s.shown.away (has_side_out g) (is_whole g) (peer_serves g.link g.moment) nobody in
    (step-settles s (Tick now) s2 step settled).running (up-and-there (is_up s2.shown) s2.shown.away up there)
