-- What a step does with an ARP packet, at a router, and with old packets is no act of the machine, but for the packets
-- whose wait an ARP packet ends.
use Rattle.std.proofs.Common.{ℕ, Bool, true, false, cond, List, [], ◌∷◌, Option, Some, None, refl, subst, sym}
use Rattle.addresses.specs.declared.ethernet.Mac.{Mac}
use Rattle.nat_types.specs.declared.gateways.Side.{Side}
use Rattle.nat_types.specs.declared.gateways.Side.TheVariants.{Inside, Outside}
use Rattle.arp.specs.declared.packets.ArpPacket.{ArpPacket}
use Rattle.waiting.specs.declared.waits.Ended.TheVariants.{One}
use Rattle.waiting.specs.declared.waits.WaitsFor.TheVariants as wait
use Rattle.spec_pair.specs.Box.{Letter}
use Rattle.packet_rules.specs.Arping.{answer_to}
use Rattle.interfaces.specs.Stations.{Interface, after_arp, is_active, with_plug}
use Rattle.vrrp_states.specs.declared.Action.{Action}
use Rattle.vrrp_states.specs.Table as table
use Rattle.vrrp_states.specs.Table.{Event as RouterEvent}
use Rattle.spec_step.specs.GivingWay.{GivingWay, left, turn_of}
use Rattle.spec_step.specs.Parts.{acted, all_framed, answered_by, arp_taken, framed, frames_of, old_dropped, released, side_plugged, waits_for_sender, is_taught}
use Rattle.spec_step.specs.Shown.{GatewayAndOutput, scene, station_on, with_station}
use Rattle.spec_step.specs.Routers.{BothAct, RouterActs}
use Rattle.spec_step.specs.Steps.{stopped}
use Rattle.spec_step.proofs.Passing.{Going, going-then, going-unseen}
use Rattle.spec_step.proofs.Turning.{back_as, turn-by}
use Rattle.spec_step.proofs.Packets.{Reads, framed-goes, here, kept-filter, released-goes}

module _ (letters : List Letter) (words : List ℕ) where
  -- a change of an interface is no act of the machine
  station-goes : (s : GatewayAndOutput) (side : Side) (station : Interface) → Going letters words s (scene (with_station s.shown side station) s.told)
  station-goes s Inside station = going-unseen letters words s _ refl refl refl refl refl (λ k. k)
  station-goes s Outside station = going-unseen letters words s _ refl refl refl refl refl (λ k. k)

  answered-goes : (s : GatewayAndOutput) (side : Side) (p : ArpPacket) (o : Option Mac) → Going letters words s (answered_by s side p o)
  answered-goes s side p (Some mac) = framed-goes letters words s side _
  answered-goes s side p None = here letters words s

  pub arp-goes : Reads → (s : GatewayAndOutput) (side : Side) (p : ArpPacket) → Going letters words s (arp_taken s side p)
  arp-goes reads s side p =
      let station = station_on s.shown side in
      let waited = waits_for_sender s.shown side p in
      let heard = scene (with_station s.shown side (after_arp station p waited s.shown.moment)) s.told in
      let told = answered_by heard side p (answer_to station.network (is_active station) p) in
      going-then letters words s told _
      (going-then letters words s heard told (station-goes s side (after_arp station p waited s.shown.moment)) (answered-goes heard side p (answer_to station.network (is_active station) p)))
      (at (is_taught s.shown side p) told)
    where
      at : (b : Bool) (told : GatewayAndOutput) → Going letters words told (let x : GatewayAndOutput = cond b (released told (One (wait.Hop side p.sender_ip))) told in x)
      at true told = released-goes letters words reads told (One (wait.Hop side p.sender_ip))
      at false told = here letters words told

  all-framed-goes : (s : GatewayAndOutput) (side : Side) (frames : List (List ℕ)) → Going letters words s (all_framed s side frames)
  all-framed-goes s side [] = here letters words s
  all-framed-goes s side (f ∷ fs) = going-then letters words s (framed s side f) _ (framed-goes letters words s side f) (all-framed-goes (framed s side f) side fs)

  acted-goes : (s : GatewayAndOutput) (side : Side) (station : Interface) (action : Action) → Going letters words s (acted s side station action)
  acted-goes s side station action =
      let mid = scene (with_station s.shown side station) s.told in
      going-then letters words s mid _ (station-goes s side station) (all-framed-goes mid side (frames_of station action))

  pub router-goes : (s : GatewayAndOutput) (side : Side) (event : RouterEvent) (s2 : GatewayAndOutput) → RouterActs s side event s2 → Going letters words s s2
  router-goes s side event s2 acts = subst (λ (x : GatewayAndOutput). Going letters words s x) (sym acts.is) (acted-goes s side acts.station acts.action)

  pub both-go : (s : GatewayAndOutput) (event : RouterEvent) (s2 : GatewayAndOutput) → BothAct s event s2 → Going letters words s s2
  both-go s event s2 both = going-then letters words s both.between s2 (router-goes s Inside event both.between both.inside) (router-goes both.between Outside event s2 both.outside)

  pub old-goes : (s : GatewayAndOutput) → Going letters words s (old_dropped s)
  old-goes s = going-unseen letters words s (old_dropped s) refl refl refl refl refl (λ k. kept-filter _ s.shown.kept k)

  -- the turn of a tick is no act of the machine
  pub turn-goes : (s s2 : GatewayAndOutput) → GivingWay s s2 → Going letters words s s2
  turn-goes s s2 takes =
      turn-by (λ x. Going letters words s x) s s2
      (λ middle both. going-then letters words s middle (left middle) (both-go s table.Stop middle both) (going-unseen letters words middle (left middle) refl refl refl refl refl (λ k. k)))
      (λ starts is. back starts) (here letters words s) (turn_of s.shown) takes
    where
      back : (starts : Bool) → Going letters words s (scene (back_as starts s.shown) s.told)
      back true = going-unseen letters words s _ refl refl refl refl refl (λ k. k)
      back false = going-unseen letters words s _ refl refl refl refl refl (λ k. k)

  -- a change of a side's cable is no act of the machine
  pub plugged-goes : (s : GatewayAndOutput) (side : Side) (up : Bool) → Going letters words s (side_plugged s side up)
  plugged-goes s side up = station-goes s side (with_plug (station_on s.shown side) up s.shown.moment)

  pub stopped-goes : (s : GatewayAndOutput) → Going letters words s (stopped s)
  stopped-goes s = going-unseen letters words s (stopped s) refl refl refl refl refl (λ k. k)
