-- What a plan to wait says. Of a packet that waits for a pair: whose pair, and that there is a place. Of one whose next
-- hop is asked for: its way, its pairs, and that no hardware address is known for that host. Of one that waits for that
-- hop: that there is a place.
use Rattle.std.proofs.Common.{◌≡◌, Bool, true, false, cond, Option, Some, None, Result, Ok, Err, refl}
use Rattle.addresses.specs.declared.ethernet.Mac.{Mac}
use Rattle.addresses.specs.declared.internet.Ip.{Ip}
use Rattle.addresses.specs.declared.transport.Port.{Port}
use Rattle.nat_types.specs.declared.gateways.Side.{Side}
use Rattle.nat_types.specs.declared.pairs.Pair.{Pair}
use Rattle.ipv4.specs.declared.flows.Flow.{Flow}
use Rattle.ipv4.specs.declared.packets.Size.{Size}
use Rattle.spec_binding.specs.declared.changes.Want.{Want}
use Rattle.spec_binding.specs.declared.changes.Want.TheVariants as want
use Rattle.spec_binding.specs.Rows.{new_pair}
use Rattle.waiting.specs.declared.waits.WaitsFor.TheVariants as wait
use Rattle.waiting.specs.Packets.{has_place}
use Rattle.packet_rules.specs.declared.networks.Direction.{Direction}
use Rattle.packet_rules.specs.declared.networks.Direction.TheVariants as way
use Rattle.packet_rules.specs.declared.reasons.Reason.{Reason}
use Rattle.packet_rules.specs.declared.reasons.Reason.TheVariants.{CannotWait}
use Rattle.packet_rules.specs.declared.translations.Translation.{Translation}
use Rattle.packet_rules.specs.declared.translations.Translation.TheVariants.{Outward, Inward, Hairpin}
use Rattle.packet_rules.specs.Flows.{source_of}
use Rattle.packet_rules.specs.Frames.{way_of}
use Rattle.packet_rules.specs.Networks.{direction_of, exit_of}
use Rattle.packet_rules.specs.Steps.{and_then}
use Rattle.spec_step.specs.declared.plans.Plan.{Plan}
use Rattle.spec_step.specs.declared.plans.Plan.TheVariants.{Send, Ask, AskAgain, Wait as WaitFor}
use Rattle.spec_step.specs.Shown.{Shown}
use Rattle.spec_step.specs.Verdict.{exit_by, hop_by, look_for, next_by, plan_by, plan_from, plan_of, plan_on, plan_to, target_pair, fits_at, if_fits}
use Rattle.spec_step.proofs.Fitting.{fitted}
use Rattle.spec_step.proofs.Sends.{AreFound}

pub record IsAsked (g : Shown) (side : Side) (flow : Flow) (by : Translation) (hop : Ip) : Type 0 where
  pub way : direction_of g.networks side flow.protocol flow.source.0 flow.destination.0 ≡ Ok (way_of by)
  pub pairs : AreFound g flow by
  pub hop_is : hop ≡ hop_by g by flow
  pub unknown : next_by g by flow ≡ None

abbrev pub PlanSays : Shown → Side → Flow → Result Plan Reason → Type 0
PlanSays g side flow (Ok (Send by next)) = Unit {0}
PlanSays g side flow (Ok (Ask by hop)) = IsAsked g side flow by hop × (has_place g.kept (wait.Hop (exit_by by) hop) ≡ true)
PlanSays g side flow (Ok (AskAgain by hop)) = IsAsked g side flow by hop
PlanSays g side flow (Ok (WaitFor e)) = (e ≡ source_of flow) × (has_place g.kept (wait.Pair e) ≡ true)
PlanSays g side flow (Err reason) = Unit {0}

module _ (g : Shown) (side : Side) (flow : Flow) where
  abbrev Goes-by : Translation → Type 0
  Goes-by by = (direction_of g.networks side flow.protocol flow.source.0 flow.destination.0 ≡ Ok (way_of by)) × AreFound g flow by

  to-says : (by : Translation) → Goes-by by → (o : Option Mac) → next_by g by flow ≡ o → PlanSays g side flow (plan_to g by (hop_by g by flow) o)
  to-says by goes (Some next) is = tt
  to-says by goes None is = at (has_place g.kept (wait.Hop (exit_by by) (hop_by g by flow))) refl
    where
      at : (b : Bool) → has_place g.kept (wait.Hop (exit_by by) (hop_by g by flow)) ≡ b → PlanSays g side flow (let r : Result Plan Reason = cond b (Ok (Ask by (hop_by g by flow))) (Ok (AskAgain by (hop_by g by flow))) in r)
      at true place = (record { way = goes.0; pairs = goes.1; hop_is = refl; unknown = is }, place)
      at false place = record { way = goes.0; pairs = goes.1; hop_is = refl; unknown = is }

  from-says : (by : Pair → Translation) (w : Want) → look_for g flow ≡ w → ((port : Port) → look_for g flow ≡ want.Port port → Goes-by (by (new_pair (source_of flow) port))) → PlanSays g side flow (plan_from g flow by w)
  from-says by (want.Port port) is goes = to-says (by (new_pair (source_of flow) port)) (goes port is) (next_by g (by (new_pair (source_of flow) port)) flow) refl
  from-says by want.Wait is goes = at (has_place g.kept (wait.Pair (source_of flow))) refl
    where
      at : (b : Bool) → has_place g.kept (wait.Pair (source_of flow)) ≡ b → PlanSays g side flow (let r : Result Plan Reason = cond b (Ok (WaitFor (source_of flow))) (Err CannotWait) in r)
      at true place = (refl, place)
      at false place = tt
  from-says by want.NoPort is goes = tt
  from-says by want.NotNow is goes = tt
  from-says by want.HostLimit is goes = tt

  on-says : (w : Direction) → direction_of g.networks side flow.protocol flow.source.0 flow.destination.0 ≡ Ok w → PlanSays g side flow (plan_on g flow w)
  on-says way.Outward there = from-says Outward (look_for g flow) refl (λ port is. (there, (port, (is, refl))))
  on-says way.Inward there = at (target_pair g flow) refl
    where
      at : (r : Result Pair Reason) → target_pair g flow ≡ r → PlanSays g side flow (and_then r (λ p. plan_by g flow (Inward p)))
      at (Ok p) target = to-says (Inward p) (there, target) (next_by g (Inward p) flow) refl
      at (Err reason) target = tt
  on-says way.Hairpin there = at (target_pair g flow) refl
    where
      at : (r : Result Pair Reason) → target_pair g flow ≡ r → PlanSays g side flow (and_then r (λ p. plan_from g flow (λ own. Hairpin own p) (look_for g flow)))
      at (Ok p) target = from-says (λ own. Hairpin own p) (look_for g flow) refl (λ port is. (there, ((port, (is, refl)), target)))
      at (Err reason) target = tt

  pub plan-says : (size : Size) → PlanSays g side flow (plan_of g side flow size)
  plan-says size = at (direction_of g.networks side flow.protocol flow.source.0 flow.destination.0) refl
    where
      at : (r : Result Direction Reason) → direction_of g.networks side flow.protocol flow.source.0 flow.destination.0 ≡ r
          → PlanSays g side flow (and_then r (λ way. and_then (plan_on g flow way) (if_fits (fits_at g (exit_of way) size))))
      at (Ok w) there = fitted (PlanSays g side flow) tt (fits_at g (exit_of w) size) (plan_on g flow w) (on-says w there)
      at (Err reason) there = tt
