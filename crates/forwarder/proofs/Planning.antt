-- Properties of plans that hold of the gateway for which they were made.
use Rattle.std.proofs.Common.{◌≡◌, Bool, true, false, cond, Option, Some, None, Result, Ok, Err, refl, sym, ap, subst, ◌∙◌}
use Rattle.addresses.specs.declared.ethernet.Mac.{Mac}
use Rattle.addresses.specs.declared.internet.Ip.{Ip}
use Rattle.nat_types.specs.declared.gateways.Side.{Side}
use Rattle.nat_types.specs.declared.pairs.Pair.{Pair}
use Rattle.spec_binding.specs.declared.changes.Want.{Want as Wanted}
use Rattle.spec_binding.specs.declared.changes.Want.TheVariants as want
use Rattle.spec_binding.specs.Rows.{new_pair}
use Rattle.ipv4.specs.declared.flows.Flow.{Flow}
use Rattle.ipv4.specs.declared.packets.Size.{Size}
use Rattle.waiting.specs.declared.waits.WaitsFor.TheVariants as wait
use Rattle.waiting.specs.Packets.{has_place}
use Rattle.packet_rules.specs.declared.networks.Direction.{Direction}
use Rattle.packet_rules.specs.declared.networks.Direction.TheVariants as way
use Rattle.packet_rules.specs.declared.reasons.Reason.{Reason}
use Rattle.packet_rules.specs.declared.readings.Asked.{Asked as Echo}
use Rattle.packet_rules.specs.declared.reasons.Reason.TheVariants.{CannotWait, NoBinding, TooMany}
use Rattle.interfaces.specs.Tallies.{may_reply}
use Rattle.packet_rules.specs.declared.translations.Translation.{Translation}
use Rattle.packet_rules.specs.declared.translations.Translation.TheVariants.{Outward, Inward, Hairpin}
use Rattle.packet_rules.specs.Flows.{source_of}
use Rattle.packet_rules.specs.Networks.{direction_of, exit_of, may_answer}
use Rattle.packet_rules.specs.Steps.{and_then}
use Rattle.packet_rules.specs.Errors.{error_direction}
use Rattle.spec_step.specs.declared.plans.Plan.{Plan}
use Rattle.spec_step.specs.declared.plans.Plan.TheVariants.{Send, Ask, AskAgain, Wait as WaitFor}
use Rattle.spec_step.specs.declared.plans.Reply.{Reply}
use Rattle.spec_step.specs.declared.plans.Reply.TheVariants as reply
use Rattle.spec_step.specs.Shown.{Shown, station_on}
use Rattle.spec_step.specs.Verdict.{exit_by, fits_at, hop_back, if_fits, if_reply_fits, next_back, reply_to, reply_via, hop_to, look_for, next_to, plan_by, plan_from, plan_of, plan_on, plan_to, plan_via, target_pair, error_by, error_on, error_plan, pair_in_of, pair_out}
use Rattle.icmp.specs.declared.packets.ErrorFlow.{ErrorFlow}
use Rattle.forwarder.specs.Plans.{IsOwn, looked_at}

-- a packet whose next hop isn't known waits for it, where there is a place
pub plan-waits : (g : Shown) (to : Ip) (by : Translation) (hop : Ip) (place : Bool) → hop ≡ hop_to g by to → next_to g by to ≡ None → has_place g.kept (wait.Hop (exit_by by) hop) ≡ place
    → (let r : Result Plan Reason = cond place (Ok (Ask by hop)) (Ok (AskAgain by hop)) in r) ≡ plan_via g by to
plan-waits g to by hop place is none at =
    sym (
    ap (λ (o : Option Mac). plan_to g by (hop_to g by to) o) none
    ∙ ap (λ (i : Ip). let r : Result Plan Reason = cond (has_place g.kept (wait.Hop (exit_by by) i)) (Ok (Ask by i)) (Ok (AskAgain by i)) in r) (sym is)
    ∙ ap (λ (b : Bool). let r : Result Plan Reason = cond b (Ok (Ask by hop)) (Ok (AskAgain by hop)) in r) at
    )

-- a packet that is planned to wait has a place, and waits for its own pair or for its next hop; a packet that leaves the inside
-- does so by its own pair
abbrev pub Holds : Shown → Flow → Result Plan Reason → Type 0
Holds g flow (Ok (Send by next)) = IsOwn g flow by
Holds g flow (Ok (Ask by hop)) = IsOwn g flow by × (has_place g.kept (wait.Hop (exit_by by) hop) ≡ true)
Holds g flow (Ok (AskAgain by hop)) = Unit {0}
Holds g flow (Ok (WaitFor e)) = (has_place g.kept (wait.Pair e) ≡ true) × (e ≡ source_of flow)
Holds g flow (Err reason) = Unit {0}

to-holds : (g : Shown) (flow : Flow) (by : Translation) (hop : Ip) (next : Option Mac) → IsOwn g flow by → Holds g flow (plan_to g by hop next)
to-holds g flow by hop (Some next) own = own
to-holds g flow by hop None own = at (has_place g.kept (wait.Hop (exit_by by) hop)) refl
  where
    at : (b : Bool) → has_place g.kept (wait.Hop (exit_by by) hop) ≡ b → Holds g flow (let r : Result Plan Reason = cond b (Ok (Ask by hop)) (Ok (AskAgain by hop)) in r)
    at true is = (own, is)
    at false is = tt

from-holds : (g : Shown) (flow : Flow) (by : Pair → Translation) (w : Wanted) → look_for g flow ≡ w → ((own : Pair) → own.endpoint ≡ source_of flow → looked_at g own.endpoint ≡ want.Port own.key.port → IsOwn g flow (by own)) → Holds g flow (plan_from g flow by w)
from-holds g flow by (want.Port port) look own = to-holds g flow _ _ _ (own (new_pair (source_of flow) port) refl look)
from-holds g flow by want.Wait look own = at (has_place g.kept (wait.Pair (source_of flow))) refl
  where
    at : (b : Bool) → has_place g.kept (wait.Pair (source_of flow)) ≡ b → Holds g flow (let r : Result Plan Reason = cond b (Ok (WaitFor (source_of flow))) (Err CannotWait) in r)
    at true is = (is, refl)
    at false is = tt
from-holds g flow by want.NoPort look own = tt
from-holds g flow by want.NotNow look own = tt
from-holds g flow by want.HostLimit look own = tt

on-holds : (g : Shown) (flow : Flow) (w : Direction) → Holds g flow (plan_on g flow w)
on-holds g flow way.Outward = from-holds g flow Outward (look_for g flow) refl (λ own is look. (is, look))
on-holds g flow way.Inward = at (target_pair g flow)
  where
    at : (r : Result Pair Reason) → Holds g flow (and_then r (λ p. plan_by g flow (Inward p)))
    at (Ok p) = to-holds g flow (Inward p) _ _ tt
    at (Err reason) = tt
on-holds g flow way.Hairpin = at (target_pair g flow)
  where
    at : (r : Result Pair Reason) → Holds g flow (and_then r (λ p. plan_from g flow (λ own. Hairpin own p) (look_for g flow)))
    at (Ok p) = from-holds g flow (λ own. Hairpin own p) (look_for g flow) refl (λ own is look. (is, look))
    at (Err reason) = tt

-- the refusal of a packet that is too long has the properties of a plan
fits-holds : (g : Shown) (flow : Flow) (fits : Bool) (r : Result Plan Reason) → Holds g flow r → Holds g flow (and_then r (if_fits fits))
fits-holds g flow true (Ok (Send by next)) held = held
fits-holds g flow true (Ok (Ask by hop)) held = held
fits-holds g flow true (Ok (AskAgain by hop)) held = tt
fits-holds g flow true (Ok (WaitFor e)) held = held
fits-holds g flow false (Ok (Send by next)) held = tt
fits-holds g flow false (Ok (Ask by hop)) held = tt
fits-holds g flow false (Ok (AskAgain by hop)) held = tt
fits-holds g flow false (Ok (WaitFor e)) held = tt
fits-holds g flow fits (Err reason) held = tt

holds : (g : Shown) (side : Side) (flow : Flow) (size : Size) → Holds g flow (plan_of g side flow size)
holds g side flow size = at (direction_of g.networks side flow.protocol flow.source.0 flow.destination.0)
  where
    at : (r : Result Direction Reason) → Holds g flow (and_then r (λ way. and_then (plan_on g flow way) (if_fits (fits_at g (exit_of way) size))))
    at (Ok w) = fits-holds g flow (fits_at g (exit_of w) size) (plan_on g flow w) (on-holds g flow w)
    at (Err reason) = tt

-- a plan that was made for this gateway has the properties
pub plan-holds : (g : Shown) (side : Side) (flow : Flow) (size : Size) (plan : Result Plan Reason) → plan ≡ plan_of g side flow size → Holds g flow plan
plan-holds g side flow size plan is = subst (λ (p : Result Plan Reason). Holds g flow p) (sym is) (holds g side flow size)

-- ---- an error

-- an error that is planned to wait has a place, and none waits for a pair
abbrev pub HoldsError : Shown → Result Plan Reason → Type 0
HoldsError g (Ok (Send by next)) = Unit {0}
HoldsError g (Ok (Ask by hop)) = has_place g.kept (wait.Hop (exit_by by) hop) ≡ true
HoldsError g (Ok (AskAgain by hop)) = Unit {0}
HoldsError g (Ok (WaitFor e)) = ⊥
HoldsError g (Err reason) = Unit {0}

to-error : (g : Shown) (by : Translation) (hop : Ip) (next : Option Mac) → HoldsError g (plan_to g by hop next)
to-error g by hop (Some next) = tt
to-error g by hop None = at (has_place g.kept (wait.Hop (exit_by by) hop)) refl
  where
    at : (b : Bool) → has_place g.kept (wait.Hop (exit_by by) hop) ≡ b → HoldsError g (let r : Result Plan Reason = cond b (Ok (Ask by hop)) (Ok (AskAgain by hop)) in r)
    at true is = is
    at false is = tt

-- the plan of an error has the properties, whether its pair is found or not
found-error : (g : Shown) (flow : ErrorFlow) (by : Pair → Translation) (r : Result Pair Reason) → HoldsError g (and_then r (λ p. error_by g flow (by p)))
found-error g flow by (Ok p) = to-error g (by p) _ _
found-error g flow by (Err reason) = tt

on-error : (g : Shown) (flow : ErrorFlow) (w : Direction) → HoldsError g (error_on g flow w)
on-error g flow way.Outward = found-error g flow Outward (pair_in_of g flow)
on-error g flow way.Inward = found-error g flow Inward (pair_out g flow)
on-error g flow way.Hairpin = at (pair_out g flow)
  where
    at : (r : Result Pair Reason) → HoldsError g (and_then r (λ other. and_then (pair_in_of g flow) (λ own. error_by g flow (Hairpin own other))))
    at (Ok other) = found-error g flow (λ own. Hairpin own other) (pair_in_of g flow)
    at (Err reason) = tt

fits-error : (g : Shown) (fits : Bool) (r : Result Plan Reason) → HoldsError g r → HoldsError g (and_then r (if_fits fits))
fits-error g true (Ok (Send by next)) held = tt
fits-error g true (Ok (Ask by hop)) held = held
fits-error g true (Ok (AskAgain by hop)) held = tt
fits-error g true (Ok (WaitFor e)) held = held
fits-error g false (Ok (Send by next)) held = tt
fits-error g false (Ok (Ask by hop)) held = tt
fits-error g false (Ok (AskAgain by hop)) held = tt
fits-error g false (Ok (WaitFor e)) held = tt
fits-error g fits (Err reason) held = tt

error-holds : (g : Shown) (side : Side) (flow : ErrorFlow) (size : Size) → HoldsError g (error_plan g side flow size)
error-holds g side flow size = at (error_direction g.networks side flow)
  where
    at : (r : Result Direction Reason) → HoldsError g (and_then r (λ way. and_then (error_on g flow way) (if_fits (fits_at g (exit_of way) size))))
    at (Ok w) = fits-error g (fits_at g (exit_of w) size) (error_on g flow w) (on-error g flow w)
    at (Err reason) = tt

-- the plan of an error that was made for this gateway has the properties
pub error-plan-holds : (g : Shown) (side : Side) (flow : ErrorFlow) (size : Size) (plan : Result Plan Reason) → plan ≡ error_plan g side flow size → HoldsError g plan
error-plan-holds g side flow size plan is = subst (λ (p : Result Plan Reason). HoldsError g p) (sym is) (error-holds g side flow size)

-- ---- an Echo to the gateway

-- an answer that is planned at once may be sent in this second; an Echo that is planned to wait has a place
abbrev pub HoldsReply : Shown → Side → Result Reply Reason → Type 0
HoldsReply g side (Ok (reply.Send next)) = may_reply g.moment (station_on g side).said ≡ true
HoldsReply g side (Ok (reply.Ask hop)) = has_place g.kept (wait.Hop side hop) ≡ true
HoldsReply g side (Ok (reply.AskAgain hop)) = Unit {0}
HoldsReply g side (Err reason) = Unit {0}

via-reply : (g : Shown) (side : Side) (hop : Ip) (next : Option Mac) → may_reply g.moment (station_on g side).said ≡ true → HoldsReply g side (reply_via g side hop next)
via-reply g side hop (Some next) may = may
via-reply g side hop None may = at (has_place g.kept (wait.Hop side hop)) refl
  where
    at : (b : Bool) → has_place g.kept (wait.Hop side hop) ≡ b → HoldsReply g side (let r : Result Reply Reason = cond b (Ok (reply.Ask hop)) (Ok (reply.AskAgain hop)) in r)
    at true is = is
    at false is = tt

-- an Echo whose next hop isn't known waits for it, where there is a place
pub reply-waits : (g : Shown) (side : Side) (source hop : Ip) (place : Bool) → hop ≡ hop_back g side source → next_back g side source ≡ None → has_place g.kept (wait.Hop side hop) ≡ place
    → (let r : Result Reply Reason = cond place (Ok (reply.Ask hop)) (Ok (reply.AskAgain hop)) in r) ≡ reply_via g side (hop_back g side source) (next_back g side source)
reply-waits g side source hop place is none at =
    sym (
    ap (λ (o : Option Mac). reply_via g side (hop_back g side source) o) none
    ∙ ap (λ (i : Ip). let r : Result Reply Reason = cond (has_place g.kept (wait.Hop side i)) (Ok (reply.Ask i)) (Ok (reply.AskAgain i)) in r) (sym is)
    ∙ ap (λ (b : Bool). let r : Result Reply Reason = cond b (Ok (reply.Ask hop)) (Ok (reply.AskAgain hop)) in r) at
    )

fits-reply : (g : Shown) (side : Side) (fits : Bool) (r : Result Reply Reason) → HoldsReply g side r → HoldsReply g side (and_then r (if_reply_fits fits))
fits-reply g side true (Ok (reply.Send next)) held = held
fits-reply g side true (Ok (reply.Ask hop)) held = held
fits-reply g side true (Ok (reply.AskAgain hop)) held = tt
fits-reply g side false (Ok (reply.Send next)) held = tt
fits-reply g side false (Ok (reply.Ask hop)) held = tt
fits-reply g side false (Ok (reply.AskAgain hop)) held = tt
fits-reply g side fits (Err reason) held = tt

reply-holds : (g : Shown) (side : Side) (echo : Echo) → HoldsReply g side (reply_to g side echo)
reply-holds g side echo = may-be (may_answer g.networks side echo.source.0)
  where
    planned : Result Reply Reason
    planned = and_then (reply_via g side (hop_back g side echo.source) (next_back g side echo.source)) (if_reply_fits (fits_at g side echo.size))

    counted : (b : Bool) → may_reply g.moment (station_on g side).said ≡ b → HoldsReply g side (cond b planned (Err TooMany))
    counted true is =
        fits-reply g side (fits_at g side echo.size) (reply_via g side (hop_back g side echo.source) (next_back g side echo.source))
        (via-reply g side (hop_back g side echo.source) (next_back g side echo.source) is)
    counted false is = tt

    may-be : (b : Bool) → HoldsReply g side (cond b (cond (may_reply g.moment (station_on g side).said) planned (Err TooMany)) (Err NoBinding))
    may-be true = counted (may_reply g.moment (station_on g side).said) refl
    may-be false = tt

-- the plan of an Echo's answer that was made for this gateway has the properties
pub reply-plan-holds : (g : Shown) (side : Side) (echo : Echo) (plan : Result Reply Reason) → plan ≡ reply_to g side echo → HoldsReply g side plan
reply-plan-holds g side echo plan is = subst (λ (p : Result Reply Reason). HoldsReply g side p) (sym is) (reply-holds g side echo)
