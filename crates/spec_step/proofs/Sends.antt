-- What a plan to send says: the packet's way, its pairs, and its next hop.
use Rattle.std.proofs.Common.{◌≡◌, Bool, true, false, cond, Option, Some, None, Result, Ok, Err, refl, subst}
use Rattle.addresses.specs.declared.ethernet.Mac.{Mac}
use Rattle.addresses.specs.declared.internet.Ip.{Ip}
use Rattle.addresses.specs.declared.transport.Port.{Port}
use Rattle.nat_types.specs.declared.gateways.Side.{Side}
use Rattle.nat_types.specs.declared.pairs.Pair.{Pair}
use Rattle.ipv4.specs.declared.flows.Flow.{Flow}
use Rattle.ipv4.specs.declared.packets.Size.{Size}
use Rattle.spec_binding.specs.declared.changes.Want.{Want}
use Rattle.spec_binding.specs.declared.changes.Want.TheVariants as want
use Rattle.spec_binding.specs.Rows.{new_pair}
use Rattle.waiting.specs.declared.waits.WaitsFor.TheVariants as wait
use Rattle.waiting.specs.Packets.{has_place}
use Rattle.packet_rules.specs.declared.networks.Direction.{Direction}
use Rattle.packet_rules.specs.declared.networks.Direction.TheVariants as way
use Rattle.packet_rules.specs.declared.reasons.Reason.{Reason}
use Rattle.packet_rules.specs.declared.reasons.Reason.TheVariants.{CannotWait}
use Rattle.packet_rules.specs.declared.translations.Translation.{Translation}
use Rattle.packet_rules.specs.declared.translations.Translation.TheVariants.{Outward, Inward, Hairpin}
use Rattle.packet_rules.specs.Flows.{source_of}
use Rattle.packet_rules.specs.Frames.{way_of}
use Rattle.packet_rules.specs.Networks.{direction_of, exit_of}
use Rattle.packet_rules.specs.Steps.{and_then}
use Rattle.spec_step.specs.declared.plans.Plan.{Plan}
use Rattle.spec_step.specs.declared.plans.Plan.TheVariants.{Send, Ask, AskAgain, Wait as WaitFor}
use Rattle.spec_step.specs.Shown.{Shown}
use Rattle.spec_step.specs.Verdict.{exit_by, hop_by, look_for, next_by, plan_by, plan_from, plan_of, plan_on, plan_to, target_pair, fits_at, if_fits}
use Rattle.spec_step.proofs.Fitting.{fitted}

-- the pair that the packet's source has, or gets
abbrev pub IsOwn : Shown → Flow → Pair → Type 0
IsOwn g flow p = (port : Port) × ((look_for g flow ≡ want.Port port) × (p ≡ new_pair (source_of flow) port))

-- the pair of the port that the packet goes to
abbrev pub IsTarget : Shown → Flow → Pair → Type 0
IsTarget g flow p = target_pair g flow ≡ Ok p

abbrev pub AreFound : Shown → Flow → Translation → Type 0
AreFound g flow (Outward p) = IsOwn g flow p
AreFound g flow (Inward p) = IsTarget g flow p
AreFound g flow (Hairpin own other) = IsOwn g flow own × IsTarget g flow other

pub record IsPlanned (g : Shown) (side : Side) (flow : Flow) (by : Translation) (next : Mac) : Type 0 where
  pub way : direction_of g.networks side flow.protocol flow.source.0 flow.destination.0 ≡ Ok (way_of by)
  pub pairs : AreFound g flow by
  pub next_is : next_by g by flow ≡ Some next

to-send : (g : Shown) (by : Translation) (hop : Ip) (o : Option Mac) (by2 : Translation) (next : Mac) → plan_to g by hop o ≡ Ok (Send by2 next) → (by ≡ by2) × (o ≡ Some next)
to-send g by hop (Some m) by2 next is = (cc, cc)
to-send g by hop None by2 next is = at (has_place g.kept (wait.Hop (exit_by by) hop)) is
  where
    at : (b : Bool) → (let r : Result Plan Reason = cond b (Ok (Ask by hop)) (Ok (AskAgain by hop)) in r) ≡ Ok (Send by2 next) → (by ≡ by2) × ((let o : Option Mac = None in o) ≡ Some next)
    at true is = absurd (cc)
    at false is = absurd (cc)

by-send : (g : Shown) (side : Side) (flow : Flow) (by by2 : Translation) (next : Mac)
    → direction_of g.networks side flow.protocol flow.source.0 flow.destination.0 ≡ Ok (way_of by) → AreFound g flow by → plan_by g flow by ≡ Ok (Send by2 next) → IsPlanned g side flow by2 next
by-send g side flow by by2 next way found is =
    let t = to-send g by (hop_by g by flow) (next_by g by flow) by2 next is in
    subst (λ (b : Translation). IsPlanned g side flow b next) t.0 (record { way = way; pairs = found; next_is = t.1 })

from-send : (g : Shown) (flow : Flow) (by : Pair → Translation) (w : Want) (by2 : Translation) (next : Mac) → plan_from g flow by w ≡ Ok (Send by2 next)
    → (port : Port) × ((w ≡ want.Port port) × (plan_by g flow (by (new_pair (source_of flow) port)) ≡ Ok (Send by2 next)))
from-send g flow by (want.Port port) by2 next is = (port, (refl, is))
from-send g flow by want.Wait by2 next is = at (has_place g.kept (wait.Pair (source_of flow))) is
  where
    at : (b : Bool) → (let r : Result Plan Reason = cond b (Ok (WaitFor (source_of flow))) (Err CannotWait) in r) ≡ Ok (Send by2 next)
        → (port : Port) × ((want.Wait ≡ want.Port port) × (plan_by g flow (by (new_pair (source_of flow) port)) ≡ Ok (Send by2 next)))
    at true is = absurd (cc)
    at false is = absurd (cc)
from-send g flow by want.NoPort by2 next is = absurd (cc)
from-send g flow by want.NotNow by2 next is = absurd (cc)
from-send g flow by want.HostLimit by2 next is = absurd (cc)

on-send : (g : Shown) (side : Side) (flow : Flow) (w : Direction) (by : Translation) (next : Mac)
    → direction_of g.networks side flow.protocol flow.source.0 flow.destination.0 ≡ Ok w → plan_on g flow w ≡ Ok (Send by next) → IsPlanned g side flow by next
on-send g side flow way.Outward by next there is =
    let f = from-send g flow Outward (look_for g flow) by next is in
    by-send g side flow (Outward (new_pair (source_of flow) f.0)) by next there (f.0, (f.1.0, refl)) f.1.1
on-send g side flow way.Inward by next there is = at (target_pair g flow) refl is
  where
    at : (r : Result Pair Reason) → target_pair g flow ≡ r → and_then r (λ p. plan_by g flow (Inward p)) ≡ Ok (Send by next) → IsPlanned g side flow by next
    at (Ok p) target is = by-send g side flow (Inward p) by next there target is
    at (Err reason) target is = absurd (cc)
on-send g side flow way.Hairpin by next there is = at (target_pair g flow) refl is
  where
    at : (r : Result Pair Reason) → target_pair g flow ≡ r → and_then r (λ p. plan_from g flow (λ own. Hairpin own p) (look_for g flow)) ≡ Ok (Send by next) → IsPlanned g side flow by next
    at (Ok p) target is =
        let f = from-send g flow (λ own. Hairpin own p) (look_for g flow) by next is in
        by-send g side flow (Hairpin (new_pair (source_of flow) f.0) p) by next there ((f.0, (f.1.0, refl)), target) f.1.1
    at (Err reason) target is = absurd (cc)

-- a packet that is sent goes by its way, its pairs and its next hop
pub plan-sends : (g : Shown) (side : Side) (flow : Flow) (size : Size) (by : Translation) (next : Mac) → plan_of g side flow size ≡ Ok (Send by next) → IsPlanned g side flow by next
plan-sends g side flow size by next is = at (direction_of g.networks side flow.protocol flow.source.0 flow.destination.0) refl is
  where
    at : (r : Result Direction Reason) → direction_of g.networks side flow.protocol flow.source.0 flow.destination.0 ≡ r
        → and_then r (λ way. and_then (plan_on g flow way) (if_fits (fits_at g (exit_of way) size))) ≡ Ok (Send by next) → IsPlanned g side flow by next
    at (Ok w) there is =
        fitted (λ (r : Result Plan Reason). r ≡ Ok (Send by next) → IsPlanned g side flow by next) (λ no. absurd (cc)) (fits_at g (exit_of w) size) (plan_on g flow w)
        (λ on. on-send g side flow w by next there on) is
    at (Err reason) there is = absurd (cc)
