-- What the parts of a tick before its idle pairs leave as it was, and whether the gateway is apart there.
use Rattle.std.proofs.Common.{◌≡◌, ℕ, Bool, true, false, List, [], ◌∷◌, refl, ap, ◌∙◌}
use Rattle.nat_types.specs.declared.gateways.Side.{Side}
use Rattle.nat_types.specs.declared.gateways.Side.TheVariants.{Inside, Outside}
use Rattle.link.specs.Link.{Link}
use Rattle.spec_binding.specs.Ledgers.{Ledger}
use Rattle.vrrp_states.specs.Table as table
use Rattle.spec_step.specs.GivingWay.{GivingWay, turn_of}
use Rattle.spec_step.specs.Parts.{all_framed, framed, frames_of, idle_taken, old_dropped}
use Rattle.spec_step.specs.Routers.{BothAct, RouterActs}
use Rattle.spec_step.specs.Shown.{GatewayAndOutput, Shown, is_apart, scene, with_station}
use Rattle.spec_step.specs.Steps.{ticked}
use Rattle.spec_step.proofs.Lines.{both-shown}
use Rattle.spec_step.proofs.Turning.{back_as, turn-by}
use Rattle.spec_step.proofs.WhileApart.{apart-same, idle-apart}

-- what the parts of a tick before the idle pairs leave as it was
pub record Leaves (s s2 : GatewayAndOutput) : Type 0 where
  pub ledger : s2.shown.ledger ≡ s.shown.ledger
  pub link : s2.shown.link ≡ s.shown.link
  pub moment : s2.shown.moment ≡ s.shown.moment
  pub notes : s2.told.notes ≡ s.told.notes

back-leaves : (starts : Bool) (s : GatewayAndOutput) → Leaves s (scene (back_as starts s.shown) s.told)
back-leaves true s = record { ledger = refl; link = refl; moment = refl; notes = refl }
back-leaves false s = record { ledger = refl; link = refl; moment = refl; notes = refl }

framed-notes : (s : GatewayAndOutput) (side : Side) (fs : List (List ℕ)) → (all_framed s side fs).told.notes ≡ s.told.notes
framed-notes s side [] = refl
framed-notes s side (f ∷ fs) = framed-notes (framed s side f) side fs

acts-notes : (s : GatewayAndOutput) (side : Side) (event : table.Event) (s2 : GatewayAndOutput) → RouterActs s side event s2 → s2.told.notes ≡ s.told.notes
acts-notes s side event s2 a = ap (λ (x : GatewayAndOutput). x.told.notes) a.is ∙ framed-notes (scene (with_station s.shown side a.station) s.told) side (frames_of a.station a.action)

pub both-leaves : (s : GatewayAndOutput) (event : table.Event) (s2 : GatewayAndOutput) → BothAct s event s2 → Leaves s s2
both-leaves s event s2 both =
    let shown = both-shown s event s2 both in
    record {
      ledger = ap (λ (g : Shown). g.ledger) shown;
      link = ap (λ (g : Shown). g.link) shown;
      moment = ap (λ (g : Shown). g.moment) shown;
      notes = acts-notes both.between Outside event s2 both.outside ∙ acts-notes s Inside event both.between both.inside;
    }

pub leaves-then : (a b c : GatewayAndOutput) → Leaves a b → Leaves b c → Leaves a c
leaves-then a b c x y = record { ledger = y.ledger ∙ x.ledger; link = y.link ∙ x.link; moment = y.moment ∙ x.moment; notes = y.notes ∙ x.notes }

pub turn-leaves-all : (s turned : GatewayAndOutput) → GivingWay s turned → Leaves s turned
turn-leaves-all s turned gives =
    turn-by (λ (x : GatewayAndOutput). Leaves s x) s turned
    (λ middle both. let x = both-leaves s table.Stop middle both in record { ledger = x.ledger; link = x.link; moment = x.moment; notes = x.notes })
    (λ starts up. back-leaves starts s)
    (record { ledger = refl; link = refl; moment = refl; notes = refl })
    (turn_of s.shown) gives

-- the scene of a tick whose idle pairs are still to be let go leaves what was there at the tick's time
pub young-leaves : (s : GatewayAndOutput) (now : ℕ) (turned middle : GatewayAndOutput) → GivingWay (ticked s now) turned → BothAct turned table.Tick middle → Leaves (ticked s now) (old_dropped middle)
young-leaves s now turned middle gives both =
    let first = turn-leaves-all (ticked s now) turned gives in
    let second = both-leaves turned table.Tick middle both in
    leaves-then (ticked s now) turned (old_dropped middle) first (record { ledger = second.ledger; link = second.link; moment = second.moment; notes = second.notes })

-- the gateway is apart between the idle pairs and the link where it is so at the tick's time
pub apart-then : (s : GatewayAndOutput) (now : ℕ) (turned middle : GatewayAndOutput) → GivingWay (ticked s now) turned → BothAct turned table.Tick middle → is_apart (idle_taken (old_dropped middle)).shown ≡ is_apart (ticked s now).shown
apart-then s now turned middle gives both =
    let x = young-leaves s now turned middle gives both in
    idle-apart (old_dropped middle)
    ∙ apart-same (ticked s now).shown (old_dropped middle).shown (ap (λ (l : Ledger). l.book.stage) x.ledger) (ap (λ (l : Ledger). l.book.alone) x.ledger) (ap (λ (e : Link). e.answered) x.link) x.moment
