-- The parts of a step do the same with `pass` and without, where a frame is taken that is not cut.
use Rattle.std.proofs.Common.{◌≡◌, ℕ, Bool, true, false, cond, Option, None, Some, Result, Ok, Err, List, [], ◌∷◌, refl, ap, ◌∙◌}
use Rattle.addresses.specs.declared.ethernet.Mac.{Mac}
use Rattle.addresses.specs.declared.internet.Ip.{Ip}
use Rattle.nat_types.specs.declared.gateways.Side.{Side}
use Rattle.nat_types.specs.declared.gateways.Side.TheVariants.{Inside, Outside}
use Rattle.arp.specs.Neighbours.{asks_at}
use Rattle.icmp.specs.declared.packets.ErrorFlow.{ErrorFlow}
use Rattle.ipv4.specs.declared.flows.Flow.{Flow}
use Rattle.waiting.specs.declared.waits.WaitsFor.TheVariants as wait
use Rattle.waiting.specs.Packets.{asks_again, with_asked}
use Rattle.packet_rules.specs.declared.complaints.Complaint.{Complaint}
use Rattle.packet_rules.specs.declared.readings.Asked.{Asked as Echo}
use Rattle.packet_rules.specs.declared.reasons.Reason.{Reason}
use Rattle.packet_rules.specs.declared.reasons.Reason.TheVariants.{ShortFrame, NotMine, BadHeader, BadLength, BadHeaderSum, Fragment, TtlOver, NotUdpTcp, BadTransport, BadArp, BadAdvert, NotUp, NoBinding, NoPort, CannotWait, BadDatagram, OldWord, HostLimit, TooLong, TooMany, SourceRoute}
use Rattle.packet_rules.specs.declared.networks.Direction.{Direction}
use Rattle.packet_rules.specs.declared.translations.Translation.{Translation}
use Rattle.packet_rules.specs.declared.translations.Translation.TheVariants.{Outward, Inward, Hairpin}
use Rattle.packet_rules.specs.Errors.{passed_by, passed_frame}
use Rattle.packet_rules.specs.Frames.{sent_frame, translated_by}
use Rattle.packet_rules.specs.Networks.{direction_of, may_answer, may_come, network_of, outside_hop}
use Rattle.packet_rules.specs.Own.{answer_frame as own_answer, complaint_frame, complaint_of, exit_for, is_told, is_to_host}
use Rattle.interfaces.specs.Stations.{Interface, with_complaint, with_reply}
use Rattle.interfaces.specs.Tallies.{may_complain}
use Rattle.vrrp_states.specs.declared.Action.{Action}
use Rattle.spec_step.specs.declared.plans.Plan.{Plan}
use Rattle.spec_step.specs.declared.plans.Plan.TheVariants.{Send, Ask, AskAgain, Wait as WaitFor}
use Rattle.spec_step.specs.declared.plans.Reply.{Reply}
use Rattle.spec_step.specs.declared.plans.Reply.TheVariants as reply
use Rattle.spec_step.specs.Parts.{acted, all_framed, asked_again, by_error_verdict, by_plan, by_refusal, by_reply_verdict, by_verdict, carried_all, complained, complained_to, counted, echo_taken, error_taken, flags_in, flow_taken, framed, frames_of, keeping, link_answered, neighbour_sent, refused, renewed_behind, request_by, sender_in, size_in, wanted_for}
use Rattle.spec_step.specs.Shown.{GatewayAndOutput, Shown, scene, station_on, with_station}
use Rattle.spec_step.specs.Verdict.{error_hop, error_plan, exit_by, hop_back, hop_by, next_back, plan_of, reply_to}
use Rattle.spec_gateway.specs.Without.{without_pass}
use Rattle.spec_gateway.proofs.Planning.{Allowed, back-same, error-same, next-same, plan-same, reply-same, way-same}

-- the scene with `pass` off
abbrev pub off : GatewayAndOutput → GatewayAndOutput
off s = scene (without_pass s.shown) s.told

if-off : (b : Bool) (x y : GatewayAndOutput) → cond b (off x) (off y) ≡ off (cond b x y)
if-off true x y = refl
if-off false x y = refl

-- ---- sending
renewed : (s : GatewayAndOutput) (exit : Side) (hop : Ip) → renewed_behind (off s) exit hop ≡ off (renewed_behind s exit hop)
renewed s Inside hop =
    let sent = scene (neighbour_sent s.shown Inside hop) s.told in
    if-off (asks_at hop.0 s.shown.moment s.shown.inside.neighbours) (framed sent Inside (request_by s.shown Inside hop)) sent
renewed s Outside hop =
    let sent = scene (neighbour_sent s.shown Outside hop) s.told in
    if-off (asks_at hop.0 s.shown.moment s.shown.outside.neighbours) (framed sent Outside (request_by s.shown Outside hop)) sent

again : (s : GatewayAndOutput) (exit : Side) (hop : Ip) → asked_again (off s) exit hop ≡ off (asked_again s exit hop)
again s Inside hop = if-off (asks_again s.shown.moment (wait.Hop Inside hop) s.shown.kept) (framed (scene (record s.shown { kept = with_asked s.shown.moment (wait.Hop Inside hop) s.shown.kept }) s.told) Inside (request_by s.shown Inside hop)) s
again s Outside hop = if-off (asks_again s.shown.moment (wait.Hop Outside hop) s.shown.kept) (framed (scene (record s.shown { kept = with_asked s.shown.moment (wait.Hop Outside hop) s.shown.kept }) s.told) Outside (request_by s.shown Outside hop)) s

-- a packet sent by a translation, before the request behind it
abbrev sent_by : GatewayAndOutput → List ℕ → Flow → Translation → Mac → GatewayAndOutput
sent_by s bytes flow by next =
    carried_all (framed (wanted_for s flow by) (exit_by by) (sent_frame s.shown.networks by next bytes)) flow (flags_in bytes) by

sent-same : (s : GatewayAndOutput) (bytes : List ℕ) (flow : Flow) (by : Translation) (next : Mac) → sent_by (off s) bytes flow by next ≡ off (sent_by s bytes flow by next)
unfolding sent_frame translated_by
sent-same s bytes flow (Outward p) next = refl
sent-same s bytes flow (Inward p) next = refl
sent-same s bytes flow (Hairpin own other) next = refl

hop-same : (g : Shown) (by : Translation) (flow : Flow) → hop_by (without_pass g) by flow ≡ hop_by g by flow
unfolding outside_hop
hop-same g (Outward p) flow = refl
hop-same g (Inward p) flow = refl
hop-same g (Hairpin own other) flow = refl

-- a packet that waits for its next hop
abbrev asking : GatewayAndOutput → Side → List ℕ → Flow → Translation → Ip → GatewayAndOutput
asking s side bytes flow by hop =
    framed (keeping (wanted_for s flow by) side bytes (wait.Hop (exit_by by) hop)) (exit_by by) (request_by s.shown (exit_by by) hop)

asking-same : (s : GatewayAndOutput) (side : Side) (bytes : List ℕ) (flow : Flow) (by : Translation) (hop : Ip) → asking (off s) side bytes flow by hop ≡ off (asking s side bytes flow by hop)
asking-same s side bytes flow (Outward p) hop = refl
asking-same s side bytes flow (Inward p) hop = refl
asking-same s side bytes flow (Hairpin own other) hop = refl

by-plan : (s : GatewayAndOutput) (side : Side) (bytes : List ℕ) (flow : Flow) (plan : Plan) → by_plan (off s) side bytes flow plan ≡ off (by_plan s side bytes flow plan)
by-plan s side bytes flow (Send by next) =
    ap (λ (x : GatewayAndOutput). renewed_behind x (exit_by by) (hop_by (without_pass s.shown) by flow)) (sent-same s bytes flow by next)
    ∙ ap (λ (hop : Ip). renewed_behind (off (sent_by s bytes flow by next)) (exit_by by) hop) (hop-same s.shown by flow)
    ∙ renewed (sent_by s bytes flow by next) (exit_by by) (hop_by s.shown by flow)
by-plan s side bytes flow (Ask by hop) = asking-same s side bytes flow by hop
by-plan s side bytes flow (AskAgain by hop) = again s (exit_by by) hop
by-plan s side bytes flow (WaitFor endpoint) = refl

-- ---- complaints
complained-side : (s : GatewayAndOutput) (side : Side) (bytes : List ℕ) (complaint : Complaint) (next : Mac)
    → counted (framed (off s) side (complaint_frame (network_of (without_pass s.shown).networks side) complaint next bytes)) side (with_complaint (station_on (without_pass s.shown) side) s.shown.moment)
    ≡ off (counted (framed s side (complaint_frame (network_of s.shown.networks side) complaint next bytes)) side (with_complaint (station_on s.shown side) s.shown.moment))
complained-side s Inside bytes complaint next = refl
complained-side s Outside bytes complaint next = refl

may-complain-same : (g : Shown) (side : Side) → may_complain (without_pass g).moment (station_on (without_pass g) side).said ≡ may_complain g.moment (station_on g side).said
may-complain-same g Inside = refl
may-complain-same g Outside = refl

complained-to : (s : GatewayAndOutput) (side : Side) (bytes : List ℕ) (complaint : Complaint) (next : Option Mac) → complained_to (off s) side bytes complaint next ≡ off (complained_to s side bytes complaint next)
complained-to s side bytes complaint None = refl
complained-to s side bytes complaint (Some next) =
    ap (λ (b : Bool). cond b (told (off s)) (off s)) (may-complain-same s.shown side)
    ∙ ap (λ (x : GatewayAndOutput). cond (may_complain s.shown.moment (station_on s.shown side).said) x (off s)) told-same
    ∙ if-off (may_complain s.shown.moment (station_on s.shown side).said) (told s) s
  where
    said : GatewayAndOutput → GatewayAndOutput
    said t = counted (framed t side (complaint_frame (network_of t.shown.networks side) complaint next bytes)) side (with_complaint (station_on t.shown side) t.shown.moment)

    told : GatewayAndOutput → GatewayAndOutput
    told t = renewed_behind (said t) side (hop_back t.shown side (sender_in bytes))

    told-same : told (off s) ≡ off (told s)
    told-same =
        ap (λ (x : GatewayAndOutput). renewed_behind x side (hop_back (without_pass s.shown) side (sender_in bytes))) (complained-side s side bytes complaint next)
        ∙ ap (λ (hop : Ip). renewed_behind (off (said s)) side hop) (back-same s.shown side (sender_in bytes))
        ∙ renewed (said s) side (hop_back s.shown side (sender_in bytes))

complained-same : (s : GatewayAndOutput) (side : Side) (bytes : List ℕ) (complaint : Option Complaint) → complained (off s) side bytes complaint ≡ off (complained s side bytes complaint)
complained-same s side bytes None = refl
complained-same s side bytes (Some complaint) =
    ap (λ (next : Option Mac). complained_to (off s) side bytes complaint next) (next-same s.shown side (sender_in bytes))
    ∙ complained-to s side bytes complaint (next_back s.shown side (sender_in bytes))

complaint-same : (g : Shown) (side exit : Side) (reason : Reason) (bytes : List ℕ) → complaint_of (without_pass g).networks side exit reason bytes ≡ complaint_of g.networks side exit reason bytes
unfolding complaint_of is_told may_answer may_come is_to_host
complaint-same g Inside Inside reason bytes = refl
complaint-same g Inside Outside reason bytes = refl
complaint-same g Outside Inside reason bytes = refl
complaint-same g Outside Outside reason bytes = refl

complains : (s : GatewayAndOutput) (side exit : Side) (bytes : List ℕ) (reason : Reason)
    → complained (off s) side bytes (complaint_of (without_pass s.shown).networks side exit reason bytes) ≡ off (complained s side bytes (complaint_of s.shown.networks side exit reason bytes))
complains s side exit bytes reason =
    ap (λ (complaint : Option Complaint). complained (off s) side bytes complaint) (complaint-same s.shown side exit reason bytes)
    ∙ complained-same s side bytes (complaint_of s.shown.networks side exit reason bytes)

pub refused-same : (s : GatewayAndOutput) (side exit : Side) (bytes : List ℕ) (reason : Reason) → refused (off s) side exit bytes reason ≡ off (refused s side exit bytes reason)
refused-same s side exit bytes TtlOver = complains s side exit bytes TtlOver
refused-same s side exit bytes TooLong = complains s side exit bytes TooLong
refused-same s side exit bytes ShortFrame = refl
refused-same s side exit bytes NotMine = refl
refused-same s side exit bytes BadHeader = refl
refused-same s side exit bytes BadLength = refl
refused-same s side exit bytes BadHeaderSum = refl
refused-same s side exit bytes Fragment = refl
refused-same s side exit bytes NotUdpTcp = refl
refused-same s side exit bytes BadTransport = refl
refused-same s side exit bytes BadArp = refl
refused-same s side exit bytes BadAdvert = refl
refused-same s side exit bytes NotUp = refl
refused-same s side exit bytes NoBinding = refl
refused-same s side exit bytes NoPort = refl
refused-same s side exit bytes CannotWait = refl
refused-same s side exit bytes BadDatagram = refl
refused-same s side exit bytes OldWord = refl
refused-same s side exit bytes HostLimit = refl
refused-same s side exit bytes TooMany = refl
refused-same s side exit bytes SourceRoute = refl

-- a packet that would have left the way that it has
refused-way : (s : GatewayAndOutput) (side : Side) (bytes : List ℕ) (flow : Flow) (reason : Reason)
    → refused (off s) side (exit_for side (direction_of (without_pass s.shown).networks side flow.protocol flow.source.0 flow.destination.0)) bytes reason
    ≡ off (refused s side (exit_for side (direction_of s.shown.networks side flow.protocol flow.source.0 flow.destination.0)) bytes reason)
refused-way s side bytes flow reason =
    ap (λ (r : Result Direction Reason). refused (off s) side (exit_for side r) bytes reason) (way-same s.shown side flow)
    ∙ refused-same s side (exit_for side (direction_of s.shown.networks side flow.protocol flow.source.0 flow.destination.0)) bytes reason

by-refusal : (s : GatewayAndOutput) (side : Side) (bytes : List ℕ) (flow : Flow) (reason : Reason) → by_refusal (off s) side bytes flow reason ≡ off (by_refusal s side bytes flow reason)
by-refusal s side bytes flow NoPort = refl
by-refusal s side bytes flow ShortFrame = refused-way s side bytes flow ShortFrame
by-refusal s side bytes flow NotMine = refused-way s side bytes flow NotMine
by-refusal s side bytes flow BadHeader = refused-way s side bytes flow BadHeader
by-refusal s side bytes flow BadLength = refused-way s side bytes flow BadLength
by-refusal s side bytes flow BadHeaderSum = refused-way s side bytes flow BadHeaderSum
by-refusal s side bytes flow Fragment = refused-way s side bytes flow Fragment
by-refusal s side bytes flow TtlOver = refused-way s side bytes flow TtlOver
by-refusal s side bytes flow NotUdpTcp = refused-way s side bytes flow NotUdpTcp
by-refusal s side bytes flow BadTransport = refused-way s side bytes flow BadTransport
by-refusal s side bytes flow BadArp = refused-way s side bytes flow BadArp
by-refusal s side bytes flow BadAdvert = refused-way s side bytes flow BadAdvert
by-refusal s side bytes flow NotUp = refused-way s side bytes flow NotUp
by-refusal s side bytes flow NoBinding = refused-way s side bytes flow NoBinding
by-refusal s side bytes flow CannotWait = refused-way s side bytes flow CannotWait
by-refusal s side bytes flow BadDatagram = refused-way s side bytes flow BadDatagram
by-refusal s side bytes flow OldWord = refused-way s side bytes flow OldWord
by-refusal s side bytes flow HostLimit = refused-way s side bytes flow HostLimit
by-refusal s side bytes flow TooLong = refused-way s side bytes flow TooLong
by-refusal s side bytes flow TooMany = refused-way s side bytes flow TooMany
by-refusal s side bytes flow SourceRoute = refused-way s side bytes flow SourceRoute

-- ---- takings
by-verdict : (s : GatewayAndOutput) (side : Side) (bytes : List ℕ) (flow : Flow) (r : Result Plan Reason) → by_verdict (off s) side bytes flow r ≡ off (by_verdict s side bytes flow r)
by-verdict s side bytes flow (Ok plan) = by-plan s side bytes flow plan
by-verdict s side bytes flow (Err reason) = by-refusal s side bytes flow reason

pub flow-same : (s : GatewayAndOutput) (side : Side) (bytes : List ℕ) (flow : Flow) → Allowed s.shown.networks (size_in bytes) → flow_taken (off s) side bytes flow ≡ off (flow_taken s side bytes flow)
flow-same s side bytes flow allowed =
    ap (λ (r : Result Plan Reason). by_verdict (off s) side bytes flow r) (plan-same s.shown side flow (size_in bytes) allowed)
    ∙ by-verdict s side bytes flow (plan_of s.shown side flow (size_in bytes))

-- an error that is passed on, before the request behind it
abbrev passed_by_it : GatewayAndOutput → List ℕ → Translation → Mac → GatewayAndOutput
passed_by_it s bytes by next = framed s (exit_by by) (passed_frame s.shown.networks by next bytes)

passed-same : (s : GatewayAndOutput) (bytes : List ℕ) (by : Translation) (next : Mac) → passed_by_it (off s) bytes by next ≡ off (passed_by_it s bytes by next)
unfolding passed_frame passed_by
passed-same s bytes (Outward p) next = refl
passed-same s bytes (Inward p) next = refl
passed-same s bytes (Hairpin own other) next = refl

error-hop-same : (g : Shown) (by : Translation) (flow : ErrorFlow) → error_hop (without_pass g) by flow ≡ error_hop g by flow
unfolding outside_hop
error-hop-same g (Outward p) flow = refl
error-hop-same g (Inward p) flow = refl
error-hop-same g (Hairpin own other) flow = refl

abbrev error_asking : GatewayAndOutput → Side → List ℕ → Translation → Ip → GatewayAndOutput
error_asking s side bytes by hop =
    framed (keeping s side bytes (wait.Hop (exit_by by) hop)) (exit_by by) (request_by s.shown (exit_by by) hop)

error-asking : (s : GatewayAndOutput) (side : Side) (bytes : List ℕ) (by : Translation) (hop : Ip) → error_asking (off s) side bytes by hop ≡ off (error_asking s side bytes by hop)
error-asking s side bytes (Outward p) hop = refl
error-asking s side bytes (Inward p) hop = refl
error-asking s side bytes (Hairpin own other) hop = refl

by-error : (s : GatewayAndOutput) (side : Side) (bytes : List ℕ) (flow : ErrorFlow) (r : Result Plan Reason) → by_error_verdict (off s) side bytes flow r ≡ off (by_error_verdict s side bytes flow r)
by-error s side bytes flow (Ok (Send by next)) =
    ap (λ (x : GatewayAndOutput). renewed_behind x (exit_by by) (error_hop (without_pass s.shown) by flow)) (passed-same s bytes by next)
    ∙ ap (λ (hop : Ip). renewed_behind (off (passed_by_it s bytes by next)) (exit_by by) hop) (error-hop-same s.shown by flow)
    ∙ renewed (passed_by_it s bytes by next) (exit_by by) (error_hop s.shown by flow)
by-error s side bytes flow (Ok (Ask by hop)) = error-asking s side bytes by hop
by-error s side bytes flow (Ok (AskAgain by hop)) = again s (exit_by by) hop
by-error s side bytes flow (Ok (WaitFor endpoint)) = refl
by-error s side bytes flow (Err reason) = refl

pub error-taken-same : (s : GatewayAndOutput) (side : Side) (bytes : List ℕ) (flow : ErrorFlow) → Allowed s.shown.networks (size_in bytes) → error_taken (off s) side bytes flow ≡ off (error_taken s side bytes flow)
error-taken-same s side bytes flow allowed =
    ap (λ (r : Result Plan Reason). by_error_verdict (off s) side bytes flow r) (error-same s.shown side flow (size_in bytes) allowed)
    ∙ by-error s side bytes flow (error_plan s.shown side flow (size_in bytes))

abbrev answered : GatewayAndOutput → Side → List ℕ → Mac → GatewayAndOutput
answered s side bytes next =
    counted (framed s side (own_answer (network_of s.shown.networks side) next bytes)) side (with_reply (station_on s.shown side) s.shown.moment)

answered-same : (s : GatewayAndOutput) (side : Side) (bytes : List ℕ) (next : Mac) → answered (off s) side bytes next ≡ off (answered s side bytes next)
answered-same s Inside bytes next = refl
answered-same s Outside bytes next = refl

abbrev reply_asking : GatewayAndOutput → Side → List ℕ → Ip → GatewayAndOutput
reply_asking s side bytes hop = framed (keeping s side bytes (wait.Hop side hop)) side (request_by s.shown side hop)

reply-asking : (s : GatewayAndOutput) (side : Side) (bytes : List ℕ) (hop : Ip) → reply_asking (off s) side bytes hop ≡ off (reply_asking s side bytes hop)
reply-asking s Inside bytes hop = refl
reply-asking s Outside bytes hop = refl

by-reply : (s : GatewayAndOutput) (side : Side) (bytes : List ℕ) (source : Ip) (r : Result Reply Reason) → by_reply_verdict (off s) side bytes source r ≡ off (by_reply_verdict s side bytes source r)
by-reply s side bytes source (Ok (reply.Send next)) =
    ap (λ (x : GatewayAndOutput). renewed_behind x side (hop_back (without_pass s.shown) side source)) (answered-same s side bytes next)
    ∙ ap (λ (hop : Ip). renewed_behind (off (answered s side bytes next)) side hop) (back-same s.shown side source)
    ∙ renewed (answered s side bytes next) side (hop_back s.shown side source)
by-reply s side bytes source (Ok (reply.Ask hop)) = reply-asking s side bytes hop
by-reply s side bytes source (Ok (reply.AskAgain hop)) = again s side hop
by-reply s side bytes source (Err reason) = refused-same s side side bytes reason

pub echo-same : (s : GatewayAndOutput) (side : Side) (bytes : List ℕ) (echo : Echo) → Allowed s.shown.networks echo.size → echo_taken (off s) side bytes echo ≡ off (echo_taken s side bytes echo)
echo-same s side bytes echo allowed =
    ap (λ (r : Result Reply Reason). by_reply_verdict (off s) side bytes echo.source r) (reply-same s.shown side echo allowed)
    ∙ by-reply s side bytes echo.source (reply_to s.shown side echo)

-- ---- routers
framed-same : (s : GatewayAndOutput) (side : Side) (frames : List (List ℕ)) → all_framed (off s) side frames ≡ off (all_framed s side frames)
framed-same s side [] = refl
framed-same s side (frame ∷ frames) = framed-same (framed s side frame) side frames

pub acted-same : (s : GatewayAndOutput) (side : Side) (station : Interface) (action : Action) → acted (off s) side station action ≡ off (acted s side station action)
acted-same s Inside station action = framed-same (scene (with_station s.shown Inside station) s.told) Inside (frames_of station action)
acted-same s Outside station action = framed-same (scene (with_station s.shown Outside station) s.told) Outside (frames_of station action)

pub ended-same : (s : GatewayAndOutput) → link_answered (off s) ≡ off (link_answered s)
ended-same s = refl
