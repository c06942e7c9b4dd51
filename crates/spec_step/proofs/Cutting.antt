-- Where packets are cut, none without Don't Fragment is dropped because it is too long.
use Rattle.std.proofs.Common.{◌≡◌, ◌≢◌, ℕ, Bool, true, false, cond, not, ◌&&◌, ◌||◌, nat_le, Option, Some, None, Result, Ok, Err, List, refl, sym, ap, subst, ◌∙◌}
use Rattle.addresses.specs.declared.ethernet.Mac.{Mac}
use Rattle.addresses.specs.declared.internet.Ip.{Ip}
use Rattle.nat_types.specs.declared.gateways.Side.{Side}
use Rattle.nat_types.specs.declared.pairs.EntryState.{EntryState}
use Rattle.nat_types.specs.declared.pairs.EntryState.TheVariants.{Pending, Doomed, Live, Closing, Alone, Held}
use Rattle.nat_types.specs.declared.pairs.Pair.{Pair}
use Rattle.bindings.specs.declared.entries.Entry.{Entry}
use Rattle.frames.specs.Frame.{frame_of}
use Rattle.icmp.specs.declared.packets.ErrorFlow.{ErrorFlow}
use Rattle.icmp.specs.declared.packets.ErrorPacket.{ErrorPacket}
use Rattle.ipv4.specs.declared.flows.Flow.{Flow}
use Rattle.ipv4.specs.declared.packets.Packet.{Packet as Datagram}
use Rattle.ipv4.specs.declared.packets.Size.{Size}
use Rattle.ipv4.specs.Header.{is_unbroken}
use Rattle.spec_binding.specs.declared.changes.Want as want
use Rattle.spec_binding.specs.declared.changes.Want.{Want}
use Rattle.spec_binding.specs.Rows.{new_pair}
use Rattle.waiting.specs.declared.waits.WaitsFor as wait
use Rattle.waiting.specs.Packets.{has_place}
use Rattle.interfaces.specs.Stations.{is_active}
use Rattle.interfaces.specs.Tallies.{may_reply}
use Rattle.packet_rules.specs.declared.networks.Direction.{Direction}
use Rattle.packet_rules.specs.declared.networks.Direction.TheVariants as way
use Rattle.packet_rules.specs.declared.networks.Network.{Network}
use Rattle.packet_rules.specs.declared.readings.Asked.{Asked as Echo}
use Rattle.packet_rules.specs.declared.readings.Reading.{Reading}
use Rattle.packet_rules.specs.declared.readings.Reading.TheVariants.{Arp, Advert, Packet, Error, Asked}
use Rattle.packet_rules.specs.declared.reasons.Reason.{Reason}
use Rattle.packet_rules.specs.declared.reasons.Reason.TheVariants.{CannotWait, NoBinding, TooLong, TooMany}
use Rattle.packet_rules.specs.declared.translations.Translation.{Translation}
use Rattle.packet_rules.specs.declared.translations.Translation.TheVariants.{Outward, Inward, Hairpin}
use Rattle.packet_rules.specs.Errors.{error_direction}
use Rattle.packet_rules.specs.Flows.{source_of}
use Rattle.packet_rules.specs.Networks.{direction_of, exit_of, may_answer, mtu_of}
use Rattle.packet_rules.specs.Steps.{and_then, reading_of}
use Rattle.spec_step.specs.declared.events.Outcome.TheVariants.{Dropped}
use Rattle.spec_step.specs.declared.plans.Plan.{Plan}
use Rattle.spec_step.specs.declared.plans.Plan.TheVariants.{Send, Ask, AskAgain, Wait}
use Rattle.spec_step.specs.declared.plans.Reply.{Reply}
use Rattle.spec_step.specs.declared.plans.Reply.TheVariants as reply
use Rattle.spec_step.specs.Shown.{Shown, is_up, station_on}
use Rattle.spec_step.specs.Verdict.{error_on, error_plan, exit_by, fits_at, hop_back, hop_to, if_fits, if_reply_fits, look_for, next_back, next_to, outcome_by, outcome_read, outcome_reply, pair_at, pair_in, pair_in_of, pair_out, plan_from, plan_of, plan_on, plan_to, plan_via, reading_on, reply_to, reply_via, target_pair, verdict}
use Rattle.spec_step.proofs.Packets.{Reads}
use Rattle.spec_step.proofs.Reasons.{IsEarly, direction-early, error-direction-early, is_of_plan, reading-early}

-- the result isn't the drop of what is too long
abbrev IsShort : {X : Type 0} → Result X Reason → Type 0
IsShort r = r ≢ Err TooLong

early-short : {X : Type 0} (r : Result X Reason) → IsEarly r → IsShort r
early-short (Ok x) early = λ e. cc
early-short (Err reason) early = λ e.
    let same : reason ≡ TooLong = cc in
    let no : false ≡ true = sym early ∙ ap is_of_plan same in cc

then-short : {X Y : Type 0} (r : Result X Reason) (next : X → Result Y Reason) → IsShort r → ((x : X) → IsShort (next x)) → IsShort (and_then r next)
then-short (Ok x) next short each = each x
then-short (Err reason) next short each = λ e. short cc

-- what may be cut fits
or-true : (b : Bool) → (b || true) ≡ true
or-true true = refl
or-true false = refl

cut-fits : (g : Shown) (exit : Side) (size : Size) → g.networks.pass ≡ true → size.unbroken ≡ false → fits_at g exit size ≡ true
cut-fits g exit size pass cut =
    ap (λ (b : Bool). nat_le size.length (mtu_of g.networks exit) || (b && not size.unbroken)) pass
    ∙ ap (λ (b : Bool). nat_le size.length (mtu_of g.networks exit) || (true && not b)) cut
    ∙ or-true (nat_le size.length (mtu_of g.networks exit))

-- ---- a packet and an error

fitting : (plan : Plan) → IsShort (if_fits true plan)
fitting (Send by next) = λ e. cc
fitting (Ask by hop) = λ e. cc
fitting (AskAgain by hop) = λ e. cc
fitting (Wait endpoint) = λ e. cc

fits-short : (fits : Bool) (plan : Plan) → fits ≡ true → IsShort (if_fits fits plan)
fits-short fits plan is = subst (λ (b : Bool). IsShort (if_fits b plan)) (sym is) (fitting plan)

hop-short : (g : Shown) (by : Translation) (hop : Ip) (o : Option Mac) → IsShort (plan_to g by hop o)
hop-short g by hop (Some mac) = λ e. cc
hop-short g by hop None = at (has_place g.kept (wait.TheVariants.Hop (exit_by by) hop))
  where
    at : (b : Bool) → IsShort (let r : Result Plan Reason = cond b (Ok (Ask by hop)) (Ok (AskAgain by hop)) in r)
    at true = λ e. cc
    at false = λ e. cc

via-short : (g : Shown) (by : Translation) (to : Ip) → IsShort (plan_via g by to)
via-short g by to = hop-short g by (hop_to g by to) (next_to g by to)

in-short : (state : EntryState) (p : Pair) → IsShort (pair_in state p)
in-short (Pending true) p = λ e. cc
in-short (Pending false) p = λ e. cc
in-short Doomed p = λ e. cc
in-short Live p = λ e. cc
in-short (Closing true) p = λ e. cc
in-short (Closing false) p = λ e. cc
in-short Alone p = λ e. cc
in-short Held p = λ e. cc

pair-short : (o : Option Entry) → IsShort (pair_at o)
pair-short None = λ e. cc
pair-short (Some x) = in-short x.state x.pair

from-short : (g : Shown) (flow : Flow) (by : Pair → Translation) (w : Want) → IsShort (plan_from g flow by w)
from-short g flow by (want.TheVariants.Port port) = via-short g (by (new_pair (source_of flow) port)) flow.destination
from-short g flow by want.TheVariants.Wait = at (has_place g.kept (wait.TheVariants.Pair (source_of flow)))
  where
    at : (b : Bool) → IsShort (let r : Result Plan Reason = cond b (Ok (Wait (source_of flow))) (Err CannotWait) in r)
    at true = λ e. cc
    at false = λ e. cc
from-short g flow by want.TheVariants.NoPort = λ e. cc
from-short g flow by want.TheVariants.NotNow = λ e. cc
from-short g flow by want.TheVariants.HostLimit = λ e. cc

on-short : (g : Shown) (flow : Flow) (x : Direction) → IsShort (plan_on g flow x)
on-short g flow way.Outward = from-short g flow Outward (look_for g flow)
on-short g flow way.Inward = then-short (target_pair g flow) _ (pair-short _) (λ p. via-short g (Inward p) flow.destination)
on-short g flow way.Hairpin = then-short (target_pair g flow) _ (pair-short _) (λ p. from-short g flow (λ own. Hairpin own p) (look_for g flow))

plan-short : (g : Shown) (side : Side) (flow : Flow) (size : Size) → g.networks.pass ≡ true → size.unbroken ≡ false → IsShort (plan_of g side flow size)
plan-short g side flow size pass cut =
    then-short (direction_of g.networks side flow.protocol flow.source.0 flow.destination.0) _ (early-short _ (direction-early g.networks side flow.protocol flow.source.0 flow.destination.0))
    (λ x. then-short (plan_on g flow x) _ (on-short g flow x) (λ plan. fits-short (fits_at g (exit_of x) size) plan (cut-fits g (exit_of x) size pass cut)))

error-on-short : (g : Shown) (flow : ErrorFlow) (x : Direction) → IsShort (error_on g flow x)
error-on-short g flow way.Outward = then-short (pair_in_of g flow) _ (pair-short _) (λ p. via-short g (Outward p) flow.destination)
error-on-short g flow way.Inward = then-short (pair_out g flow) _ (pair-short _) (λ p. via-short g (Inward p) flow.destination)
error-on-short g flow way.Hairpin = then-short (pair_out g flow) _ (pair-short _) (λ other. then-short (pair_in_of g flow) _ (pair-short _) (λ own. via-short g (Hairpin own other) flow.destination))

error-short : (g : Shown) (side : Side) (flow : ErrorFlow) (size : Size) → g.networks.pass ≡ true → size.unbroken ≡ false → IsShort (error_plan g side flow size)
error-short g side flow size pass cut =
    then-short (error_direction g.networks side flow) _ (early-short _ (error-direction-early g.networks side flow))
    (λ x. then-short (error_on g flow x) _ (error-on-short g flow x) (λ plan. fits-short (fits_at g (exit_of x) size) plan (cut-fits g (exit_of x) size pass cut)))

-- ---- an Echo

reply-fitting : (plan : Reply) → IsShort (if_reply_fits true plan)
reply-fitting (reply.Send next) = λ e. cc
reply-fitting (reply.Ask hop) = λ e. cc
reply-fitting (reply.AskAgain hop) = λ e. cc

reply-fits-short : (fits : Bool) (plan : Reply) → fits ≡ true → IsShort (if_reply_fits fits plan)
reply-fits-short fits plan is = subst (λ (b : Bool). IsShort (if_reply_fits b plan)) (sym is) (reply-fitting plan)

reply-via-short : (g : Shown) (side : Side) (hop : Ip) (o : Option Mac) → IsShort (reply_via g side hop o)
reply-via-short g side hop (Some mac) = λ e. cc
reply-via-short g side hop None = at (has_place g.kept (wait.TheVariants.Hop side hop))
  where
    at : (b : Bool) → IsShort (let r : Result Reply Reason = cond b (Ok (reply.Ask hop)) (Ok (reply.AskAgain hop)) in r)
    at true = λ e. cc
    at false = λ e. cc

reply-short : (g : Shown) (side : Side) (echo : Echo) → g.networks.pass ≡ true → echo.size.unbroken ≡ false → IsShort (reply_to g side echo)
reply-short g side echo pass cut = at (may_answer g.networks side echo.source.0) (may_reply g.moment (station_on g side).said)
  where
    at : (answers replies : Bool) → IsShort (let r : Result Reply Reason = cond answers (cond replies (and_then (reply_via g side (hop_back g side echo.source) (next_back g side echo.source)) (if_reply_fits (fits_at g side echo.size))) (Err TooMany)) (Err NoBinding) in r)
    at true true =
        then-short (reply_via g side (hop_back g side echo.source) (next_back g side echo.source)) _ (reply-via-short g side (hop_back g side echo.source) (next_back g side echo.source))
        (λ plan. reply-fits-short (fits_at g side echo.size) plan (cut-fits g side echo.size pass cut))
    at true false = λ e. cc
    at false replies = λ e. cc

-- ---- the verdict

outcome-short : (r : Result Plan Reason) → IsShort r → outcome_by r ≢ Dropped TooLong
outcome-short (Ok (Send by next)) short = λ e. cc
outcome-short (Ok (Ask by hop)) short = λ e. cc
outcome-short (Ok (AskAgain by hop)) short = λ e. cc
outcome-short (Ok (Wait endpoint)) short = λ e. cc
outcome-short (Err reason) short = λ e. short cc

outcome-reply-short : (r : Result Reply Reason) → IsShort r → outcome_reply r ≢ Dropped TooLong
outcome-reply-short (Ok (reply.Send next)) short = λ e. cc
outcome-reply-short (Ok (reply.Ask hop)) short = λ e. cc
outcome-reply-short (Ok (reply.AskAgain hop)) short = λ e. cc
outcome-reply-short (Err reason) short = λ e. short cc

pub read-short : (side : Side) (network : Network) (active up : Bool) (bytes : List ℕ) → IsShort (reading_of side network active up bytes)
read-short side network active up bytes = early-short (reading_of side network active up bytes) (reading-early side network active up bytes)

pub never-long : Reads → (g : Shown) (side : Side) (bytes : List ℕ) → g.networks.pass ≡ true → is_unbroken (frame_of bytes).body ≡ false → verdict g side bytes ≢ Dropped TooLong
never-long reads g side bytes pass cut = at (reading_on g side bytes) refl
  where
    early : IsEarly (reading_on g side bytes)
    early = reading-early side (station_on g side).network (is_active (station_on g side)) (is_up g) bytes

    at : (r : Result Reading Reason) → reading_on g side bytes ≡ r → outcome_read g side r ≢ Dropped TooLong
    at (Ok (Arp p)) is = λ e. cc
    at (Ok (Advert a from)) is = λ e. cc
    at (Ok (Packet packet)) is =
        let known = reads side (station_on g side).network (is_active (station_on g side)) (is_up g) bytes (Packet packet) is in
        let whole : packet.size.unbroken ≡ false = ap (λ (p : Datagram). p.size.unbroken) known.1.0 ∙ cut in
        outcome-short (plan_of g side packet.flow packet.size) (plan-short g side packet.flow packet.size pass whole)
    at (Ok (Error packet)) is =
        let known = reads side (station_on g side).network (is_active (station_on g side)) (is_up g) bytes (Error packet) is in
        let whole : packet.size.unbroken ≡ false = ap (λ (p : ErrorPacket). p.size.unbroken) known.1 ∙ cut in
        outcome-short (error_plan g side packet.flow packet.size) (error-short g side packet.flow packet.size pass whole)
    at (Ok (Asked echo)) is =
        let known = reads side (station_on g side).network (is_active (station_on g side)) (is_up g) bytes (Asked echo) is in
        let whole : echo.size.unbroken ≡ false = ap (λ (a : Echo). a.size.unbroken) known.1 ∙ cut in
        outcome-reply-short (reply_to g side echo) (reply-short g side echo pass whole)
    at (Err reason) is = λ e.
        let same : reason ≡ TooLong = cc in
        let own : is_of_plan reason ≡ false = subst (λ (o : Result Reading Reason). IsEarly o) is early in
        let no : false ≡ true = sym own ∙ ap is_of_plan same in cc
