-- The own frames of one taking of a packet, and of takings one after another, are exactly those that the verdict says.
use Rattle.std.proofs.Common.{◌≡◌, ℕ, Bool, true, false, cond, List, [], ◌∷◌, ◌++◌, Option, Some, None, Result, Ok, Err, refl, sym, ap, subst, ◌∙◌, append_assoc}
use Rattle.std.specs.List.{AllByRecursion}
use Rattle.std.proofs.lemmas.List.{append-nil}
use Rattle.std.proofs.lemmas.List.Elements.{filter-append}
use Rattle.addresses.specs.declared.ethernet.Mac.{Mac}
use Rattle.addresses.specs.declared.internet.Ip.{Ip}
use Rattle.nat_types.specs.declared.gateways.Side.{Side}
use Rattle.nat_types.specs.declared.gateways.Side.TheVariants.{Inside, Outside}
use Rattle.arp.specs.Neighbours.{asks_at}
use Rattle.ipv4.specs.declared.flows.Flow.{Flow}
use Rattle.ipv4.specs.declared.packets.Packet.{Packet as PacketRead}
use Rattle.icmp.specs.declared.packets.ErrorFlow.{ErrorFlow}
use Rattle.icmp.specs.declared.packets.ErrorPacket.{ErrorPacket}
use Rattle.waiting.specs.declared.waits.WaitsFor.TheVariants as wait
use Rattle.waiting.specs.Packets.{HeldPacket, asks_again, has_place, with_asked}
use Rattle.packet_rules.specs.declared.complaints.Complaint.{Complaint}
use Rattle.packet_rules.specs.declared.networks.Networks.{Networks}
use Rattle.packet_rules.specs.declared.readings.Asked.{Asked as Echo}
use Rattle.packet_rules.specs.declared.readings.Reading.{Reading}
use Rattle.packet_rules.specs.declared.readings.Reading.TheVariants.{Arp, Advert, Packet, Error, Asked}
use Rattle.packet_rules.specs.declared.reasons.Reason.{Reason}
use Rattle.packet_rules.specs.declared.reasons.Reason.TheVariants.{ShortFrame, NotMine, BadHeader, BadLength, BadHeaderSum, Fragment, TtlOver, NotUdpTcp, BadTransport, BadArp, BadAdvert, NotUp, NoBinding, NoPort, CannotWait, BadDatagram, OldWord, HostLimit, TooLong, TooMany, SourceRoute}
use Rattle.packet_rules.specs.declared.translations.Translation.{Translation}
use Rattle.packet_rules.specs.declared.translations.Translation.TheVariants.{Outward, Inward, Hairpin}
use Rattle.packet_rules.specs.Errors.{error_direction, passed_frame}
use Rattle.packet_rules.specs.Flows.{source_of}
use Rattle.packet_rules.specs.Frames.{sent_frame, way_of}
use Rattle.packet_rules.specs.Networks.{direction_of, may_answer, network_of}
use Rattle.packet_rules.specs.Own.{answer_frame, complaint_frame, complaint_of, is_own_frame}
use Rattle.packet_rules.specs.Steps.{and_then}
use Rattle.interfaces.specs.Stations.{is_active}
use Rattle.interfaces.specs.Tallies.{complained as tally_complained, may_complain, may_reply, replied}
use Rattle.output.specs.Output.{Sent}
use Rattle.spec_step.specs.declared.plans.Plan.{Plan}
use Rattle.spec_step.specs.declared.plans.Plan.TheVariants.{Send, Ask, AskAgain, Wait as WaitFor}
use Rattle.spec_step.specs.declared.plans.Reply.{Reply}
use Rattle.spec_step.specs.declared.plans.Reply.TheVariants as reply
use Rattle.spec_step.specs.Machine.{AreBytes}
use Rattle.spec_step.specs.OwnAnswers.{SaysJust, all_own_of, own_frames, own_of, own_plan, own_read, own_refused, own_reply, saying_to}
use Rattle.spec_step.specs.Parts.{all_taken, asked_again, by_error_plan, by_error_verdict, by_plan, by_refusal, by_reply_verdict, by_verdict, carried_all, complained, complained_to, flags_in, framed, keeping, size_in, refused, renewed_behind, request_by, retaken_by, sender_in, taken_again, wanted_by, wanted_for, neighbour_sent}
use Rattle.spec_step.specs.Shown.{GatewayAndOutput, Shown, is_up, scene, station_on}
use Rattle.spec_step.specs.Truly.{IsSetUp, Known, is_own}
use Rattle.spec_step.specs.Verdict.{error_hop, error_plan, exit_by, fits_at, hop_back, hop_by, if_reply_fits, next_back, plan_of, reading_on, reply_to, reply_via}
use Rattle.spec_step.proofs.Erring.{ErrorSays, error-says}
use Rattle.spec_step.proofs.Fitting.{reply-fitted}
use Rattle.spec_step.proofs.Own.{answer_scene, complaint_scene, exit_in, said-beside}
use Rattle.spec_step.proofs.Passing.{IsSound}
use Rattle.spec_step.proofs.Saying.{addressed, retaken-says}
use Rattle.spec_step.proofs.Sending.{Frames, answer-own, carried-leaves, complaint-own, next-six, own-six}
use Rattle.spec_step.proofs.Sends.{plan-sends}
use Rattle.spec_step.proofs.Behind.{asked_behind, sent_to}

-- the own frames from a scene to a later one are exactly these, and the networks stay the same
pub record Just (s s2 : GatewayAndOutput) (own : List Sent) : Type 0 where
  pub says : SaysJust s s2 own
  pub nets : s2.shown.networks ≡ s.shown.networks

-- the own frames of two parts are those of the one, then those of the other
pub just-then : (xs ys : List Sent) (a b c : GatewayAndOutput) → Just a b xs → Just b c ys → Just a c (xs ++ ys)
just-then xs ys a b c x y = record {
  says = record {
    frames = x.says.frames ++ y.says.frames;
    frames_are = y.says.frames_are ∙ ap (λ (fs : List Sent). fs ++ y.says.frames) x.says.frames_are ∙ append_assoc a.told.frames x.says.frames y.says.frames;
    own_are = filter-append (is_own a.shown.networks) x.says.frames y.says.frames
        ∙ ap (λ (fs : List Sent). fs ++ own_frames a.shown.networks y.says.frames) x.says.own_are
        ∙ ap (λ (fs : List Sent). xs ++ fs) (ap (λ (n : Networks). own_frames n y.says.frames) (sym x.nets) ∙ y.says.own_are);
  };
  nets = y.nets ∙ x.nets;
}

-- a part that sends no frame has no own frames
pub quiet-just : (s s2 : GatewayAndOutput) → s2.told.frames ≡ s.told.frames → s2.shown.networks ≡ s.shown.networks → Just s s2 []
quiet-just s s2 same nets = record { says = record { frames = []; frames_are = same ∙ sym (append-nil s.told.frames); own_are = refl }; nets = nets }

pub nothing-just : (s : GatewayAndOutput) → Just s s []
nothing-just s = quiet-just s s refl refl

-- a frame that was sent is an own frame, or none
pub other-just : (s : GatewayAndOutput) (side : Side) (bytes : List ℕ) → is_own_frame s.shown.networks side bytes ≡ false → Just s (framed s side bytes) []
other-just s side bytes is = record { says = record { frames = record { side = side; bytes = bytes } ∷ []; frames_are = refl; own_are = rw is refl }; nets = refl }

own-just : (s : GatewayAndOutput) (side : Side) (bytes : List ℕ) → is_own_frame s.shown.networks side bytes ≡ true → Just s (framed s side bytes) (let x : Sent = record { side = side; bytes = bytes } in x ∷ [])
own-just s side bytes is = record { says = record { frames = record { side = side; bytes = bytes } ∷ []; frames_are = refl; own_are = rw is refl }; nets = refl }

-- ---- requests

renewed-just : Frames → (s : GatewayAndOutput) (exit : Side) (hop : Ip) → IsSetUp s.shown → Just s (renewed_behind s exit hop) []
renewed-just frames s exit hop w = at exit (asks_at hop.0 s.shown.moment (station_on s.shown exit).neighbours)
  where
    nets : (side : Side) → (neighbour_sent s.shown side hop).networks ≡ s.shown.networks
    nets Inside = refl
    nets Outside = refl

    at : (side : Side) (b : Bool) → Just s (asked_behind s side hop b) []
    at side true =
        let mid = sent_to s side hop in
        just-then [] [] s mid (framed mid side (request_by s.shown side hop)) (quiet-just s mid refl (nets side))
        (other-just mid side (request_by s.shown side hop) (frames.own.request mid.shown.networks side (station_on s.shown side).network hop (own-six s.shown w side)))
    at side false = quiet-just s (sent_to s side hop) refl (nets side)

again-just : Frames → (s : GatewayAndOutput) (exit : Side) (hop : Ip) → IsSetUp s.shown → Just s (asked_again s exit hop) []
again-just frames s exit hop w = at (asks_again s.shown.moment (wait.Hop exit hop) s.shown.kept)
  where
    at : (b : Bool) → Just s (let x : GatewayAndOutput = cond b (framed (scene (record s.shown { kept = with_asked s.shown.moment (wait.Hop exit hop) s.shown.kept }) s.told) exit (request_by s.shown exit hop)) s in x) []
    at true =
        let mid = scene (record s.shown { kept = with_asked s.shown.moment (wait.Hop exit hop) s.shown.kept }) s.told in
        just-then [] [] s mid (framed mid exit (request_by s.shown exit hop)) (quiet-just s mid refl refl)
        (other-just mid exit (request_by s.shown exit hop) (frames.own.request s.shown.networks exit (station_on s.shown exit).network hop (own-six s.shown w exit)))
    at false = nothing-just s

-- a packet is kept and its next hop asked for: the request is no own frame
asking-just : Frames → (s : GatewayAndOutput) (exit : Side) (one : GatewayAndOutput) (hop : Ip) → Just s one [] → IsSetUp s.shown → Just s (framed one exit (request_by s.shown exit hop)) []
asking-just frames s exit one hop first w =
    just-then [] [] s one (framed one exit (request_by s.shown exit hop)) first
    (other-just one exit (request_by s.shown exit hop) (frames.own.request one.shown.networks exit (station_on s.shown exit).network hop (own-six s.shown w exit)))

wanted-for-just : (s : GatewayAndOutput) (flow : Flow) (by : Translation) → Just s (wanted_for s flow by) []
wanted-for-just s flow (Outward p) = quiet-just s (wanted_by s (source_of flow)) refl refl
wanted-for-just s flow (Inward p) = nothing-just s
wanted-for-just s flow (Hairpin own other) = quiet-just s (wanted_by s (source_of flow)) refl refl

kept-just : (s one : GatewayAndOutput) (side : Side) (bytes : List ℕ) (exit : Side) (hop : Ip) → Just s one [] → Just s (keeping one side bytes (wait.Hop exit hop)) []
kept-just s one side bytes exit hop first = just-then [] [] s one (keeping one side bytes (wait.Hop exit hop)) first (quiet-just one (keeping one side bytes (wait.Hop exit hop)) refl refl)

-- an Echo that is answered has a next hop whose hardware address is known
reply-sends : (g : Shown) (side : Side) (echo : Echo) (next : Mac) → reply_to g side echo ≡ Ok (reply.Send next) → next_back g side echo.source ≡ Some next
reply-sends g side echo next is = answers (may_answer g.networks side echo.source.0) is
  where
    hop : Ip
    hop = hop_back g side echo.source

    fits : Bool
    fits = fits_at g side echo.size

    via : (o : Option Mac) → reply_via g side hop o ≡ Ok (reply.Send next) → o ≡ Some next
    via (Some m) same = cc
    via None same = at (has_place g.kept (wait.Hop side hop)) same
      where
        at : (b : Bool) → (let r : Result Reply Reason = cond b (Ok (reply.Ask hop)) (Ok (reply.AskAgain hop)) in r) ≡ Ok (reply.Send next) → (let o : Option Mac = None in o) ≡ Some next
        at true no-send = absurd (cc)
        at false no-send = absurd (cc)

    limited : (b : Bool) → (let r : Result Reply Reason = cond b (and_then (reply_via g side hop (next_back g side echo.source)) (if_reply_fits fits)) (Err TooMany) in r) ≡ Ok (reply.Send next) → next_back g side echo.source ≡ Some next
    limited true same =
        reply-fitted (λ (r : Result Reply Reason). r ≡ Ok (reply.Send next) → next_back g side echo.source ≡ Some next) (λ no-send. absurd (cc)) fits (reply_via g side hop (next_back g side echo.source))
        (via (next_back g side echo.source)) same
    limited false same = absurd (cc)

    answers : (b : Bool)
        → (let r : Result Reply Reason = cond b (cond (may_reply g.moment (station_on g side).said) (and_then (reply_via g side hop (next_back g side echo.source)) (if_reply_fits fits)) (Err TooMany)) (Err NoBinding) in r) ≡ Ok (reply.Send next)
        → next_back g side echo.source ≡ Some next
    answers true same = limited (may_reply g.moment (station_on g side).said) same
    answers false same = absurd (cc)

-- ---- a packet that is refused

module _ (frames : Frames) (s : GatewayAndOutput) (side : Side) (bytes : List ℕ) (are : AreBytes bytes) (w : IsSetUp s.shown) where
  -- a frame of the gateway's own was sent, and its next hop may be asked for after it
  said-just : (frame : List ℕ) (two : GatewayAndOutput) (hop : Ip) → two.told.frames ≡ (framed s side frame).told.frames → two.shown.networks ≡ s.shown.networks → IsSetUp two.shown → is_own_frame s.shown.networks side frame ≡ true
      → Just s (renewed_behind two side hop) (let x : Sent = record { side = side; bytes = frame } in x ∷ [])
  said-just frame two hop told nets up own =
      let one = framed s side frame in
      let x : Sent = record { side = side; bytes = frame } in
      just-then (x ∷ []) [] s two (renewed_behind two side hop) (just-then (x ∷ []) [] s one two (own-just s side frame own) (quiet-just one two told nets)) (renewed-just frames two side hop up)

  to-just : (complaint : Complaint) (o : Option Mac) → next_back s.shown side (sender_in bytes) ≡ o → Just s (complained_to s side bytes complaint o) (saying_to s.shown side bytes (Some complaint) o)
  to-just complaint (Some next) there = at (may_complain s.shown.moment (station_on s.shown side).said)
    where
      frame : List ℕ
      frame = complaint_frame (network_of s.shown.networks side) complaint next bytes

      at : (b : Bool) → Just s (let x : GatewayAndOutput = cond b (renewed_behind (complaint_scene s side bytes complaint next) side (hop_back s.shown side (sender_in bytes))) s in x)
          (let x : Sent = record { side = side; bytes = frame } in cond b (x ∷ []) [])
      at true =
          let two = complaint_scene s side bytes complaint next in
          let beside = said-beside s side frame (tally_complained s.shown.moment (station_on s.shown side).said) in
          said-just frame two (hop_back s.shown side (sender_in bytes)) refl (ap (λ (k : Known). k.networks) beside.known) (beside.set_up w) (complaint-own frames s.shown side bytes complaint next are w there)
      at false = nothing-just s
  to-just complaint None there = nothing-just s

  complained-just : (c : Option Complaint) → Just s (complained s side bytes c) (saying_to s.shown side bytes c (next_back s.shown side (sender_in bytes)))
  complained-just (Some complaint) = to-just complaint (next_back s.shown side (sender_in bytes)) refl
  complained-just None = nothing-just s

  pub refused-just : (exit : Side) (reason : Reason) → Just s (refused s side exit bytes reason) (own_refused s.shown side exit bytes reason)
  refused-just exit TtlOver = complained-just (complaint_of s.shown.networks side exit TtlOver bytes)
  refused-just exit TooLong = complained-just (complaint_of s.shown.networks side exit TooLong bytes)
  refused-just exit ShortFrame = nothing-just s
  refused-just exit NotMine = nothing-just s
  refused-just exit BadHeader = nothing-just s
  refused-just exit BadLength = nothing-just s
  refused-just exit BadHeaderSum = nothing-just s
  refused-just exit Fragment = nothing-just s
  refused-just exit NotUdpTcp = nothing-just s
  refused-just exit BadTransport = nothing-just s
  refused-just exit BadArp = nothing-just s
  refused-just exit BadAdvert = nothing-just s
  refused-just exit NotUp = nothing-just s
  refused-just exit NoBinding = nothing-just s
  refused-just exit NoPort = nothing-just s
  refused-just exit CannotWait = nothing-just s
  refused-just exit BadDatagram = nothing-just s
  refused-just exit OldWord = nothing-just s
  refused-just exit HostLimit = nothing-just s
  refused-just exit TooMany = nothing-just s
  refused-just exit SourceRoute = nothing-just s

  refusal-just : (flow : Flow) (reason : Reason) → Just s (by_refusal s side bytes flow reason) (own_refused s.shown side (exit_in s side flow) bytes reason)
  refusal-just flow NoPort = quiet-just s (wanted_by s (source_of flow)) refl refl
  refusal-just flow ShortFrame = refused-just (exit_in s side flow) ShortFrame
  refusal-just flow NotMine = refused-just (exit_in s side flow) NotMine
  refusal-just flow BadHeader = refused-just (exit_in s side flow) BadHeader
  refusal-just flow BadLength = refused-just (exit_in s side flow) BadLength
  refusal-just flow BadHeaderSum = refused-just (exit_in s side flow) BadHeaderSum
  refusal-just flow Fragment = refused-just (exit_in s side flow) Fragment
  refusal-just flow TtlOver = refused-just (exit_in s side flow) TtlOver
  refusal-just flow NotUdpTcp = refused-just (exit_in s side flow) NotUdpTcp
  refusal-just flow BadTransport = refused-just (exit_in s side flow) BadTransport
  refusal-just flow BadArp = refused-just (exit_in s side flow) BadArp
  refusal-just flow BadAdvert = refused-just (exit_in s side flow) BadAdvert
  refusal-just flow NotUp = refused-just (exit_in s side flow) NotUp
  refusal-just flow NoBinding = refused-just (exit_in s side flow) NoBinding
  refusal-just flow CannotWait = refused-just (exit_in s side flow) CannotWait
  refusal-just flow BadDatagram = refused-just (exit_in s side flow) BadDatagram
  refusal-just flow OldWord = refused-just (exit_in s side flow) OldWord
  refusal-just flow HostLimit = refused-just (exit_in s side flow) HostLimit
  refusal-just flow TooLong = refused-just (exit_in s side flow) TooLong
  refusal-just flow TooMany = refused-just (exit_in s side flow) TooMany
  refusal-just flow SourceRoute = refused-just (exit_in s side flow) SourceRoute

  -- ---- a packet

  plan-just : (packet : PacketRead) (plan : Plan) → reading_on s.shown side bytes ≡ Ok (Packet packet) → plan_of s.shown side packet.flow (size_in bytes) ≡ Ok plan → Just s (by_plan s side bytes packet.flow plan) []
  plan-just packet (Send by next) read is =
      let flow = packet.flow in
      let at = station_on s.shown side in
      let carries = frames.reads side at.network (is_active at) (is_up s.shown) bytes (Packet packet) read in
      let planned = plan-sends s.shown side flow (size_in bytes) by next is in
      let one = wanted_for s flow by in
      let frame = sent_frame s.shown.networks by next bytes in
      let two = framed one (exit_by by) frame in
      let three = carried_all two flow (flags_in bytes) by in
      let c = carried-leaves two flow (flags_in bytes) by in
      let first = wanted-for-just s flow by in
      let six = next-six s.shown flow by next w planned.next_is in
      let same = ap (λ (p : PacketRead). p.flow) carries.1.0 in
      let way = subst (λ (f : Flow). direction_of s.shown.networks side f.protocol f.source.0 f.destination.0 ≡ Ok (way_of by)) same planned.way in
      let own = frames.own.sent s.shown.networks side by next bytes w.0.0 w.0.1.placed six carries.0 carries.1.1 are way in
      just-then [] [] s three (by_plan s side bytes flow (Send by next))
      (just-then [] [] s two three
      (just-then [] [] s one two first (other-just one (exit_by by) frame (subst (λ (n : Networks). is_own_frame n (exit_by by) frame ≡ false) (sym first.nets) own)))
      (quiet-just two three c.frames (ap (λ (k : Known). k.networks) c.known)))
      (renewed-just frames three (exit_by by) (hop_by s.shown by flow) (c.wired (up flow by)))
    where
      up : (flow : Flow) (by : Translation) → IsSetUp (wanted_for s flow by).shown
      up flow (Outward p) = w
      up flow (Inward p) = w
      up flow (Hairpin own other) = w
  plan-just packet (Ask by hop) read is =
      let one = wanted_for s packet.flow by in
      let two = keeping one side bytes (wait.Hop (exit_by by) hop) in
      asking-just frames s (exit_by by) two hop (kept-just s one side bytes (exit_by by) hop (wanted-for-just s packet.flow by)) w
  plan-just packet (AskAgain by hop) read is = again-just frames s (exit_by by) hop w
  plan-just packet (WaitFor e) read is = quiet-just s (by_plan s side bytes packet.flow (WaitFor e)) refl refl

  verdict-just : (packet : PacketRead) (r : Result Plan Reason) → reading_on s.shown side bytes ≡ Ok (Packet packet) → plan_of s.shown side packet.flow (size_in bytes) ≡ r
      → Just s (by_verdict s side bytes packet.flow r) (own_plan s.shown side bytes packet.flow r)
  verdict-just packet (Ok plan) read is = plan-just packet plan read is
  verdict-just packet (Err reason) read is = refusal-just packet.flow reason

  -- ---- an error

  error-just : (packet : ErrorPacket) (plan : Plan) → reading_on s.shown side bytes ≡ Ok (Error packet) → ErrorSays s.shown side packet.flow (Ok plan) → Just s (by_error_plan s side bytes packet.flow plan) []
  error-just packet (Send by next) read says =
      let flow = packet.flow in
      let at = station_on s.shown side in
      let carries = frames.reads side at.network (is_active at) (is_up s.shown) bytes (Error packet) read in
      let frame = passed_frame s.shown.networks by next bytes in
      let one = framed s (exit_by by) frame in
      let six = next-six s.shown (addressed flow) by next w says.1 in
      let way = subst (λ (f : ErrorFlow). error_direction s.shown.networks side f ≡ Ok (way_of by)) (ap (λ (p : ErrorPacket). p.flow) carries.1) says.0.way in
      just-then [] [] s one (by_error_plan s side bytes flow (Send by next))
      (other-just s (exit_by by) frame (frames.own.passed s.shown.networks side by next bytes w.0.0 w.0.1.placed six carries.0 are way))
      (renewed-just frames one (exit_by by) (error_hop s.shown by flow) w)
  error-just packet (Ask by hop) read says =
      asking-just frames s (exit_by by) (keeping s side bytes (wait.Hop (exit_by by) hop)) hop (kept-just s s side bytes (exit_by by) hop (nothing-just s)) w
  error-just packet (AskAgain by hop) read says = again-just frames s (exit_by by) hop w
  error-just packet (WaitFor e) read says = absurd says

  error-verdict-just : (packet : ErrorPacket) (r : Result Plan Reason) → reading_on s.shown side bytes ≡ Ok (Error packet) → ErrorSays s.shown side packet.flow r → Just s (by_error_verdict s side bytes packet.flow r) []
  error-verdict-just packet (Ok plan) read says = error-just packet plan read says
  error-verdict-just packet (Err reason) read says = nothing-just s

  -- ---- an Echo to the gateway

  reply-just : (echo : Echo) (r : Result Reply Reason) → reading_on s.shown side bytes ≡ Ok (Asked echo) → ((next : Mac) → r ≡ Ok (reply.Send next) → next_back s.shown side echo.source ≡ Some next)
      → Just s (by_reply_verdict s side bytes echo.source r) (own_reply s.shown side bytes r)
  reply-just echo (Ok (reply.Send next)) read sends =
      let frame = answer_frame (network_of s.shown.networks side) next bytes in
      let two = answer_scene s side bytes next in
      let beside = said-beside s side frame (replied s.shown.moment (station_on s.shown side).said) in
      said-just frame two (hop_back s.shown side echo.source) refl (ap (λ (k : Known). k.networks) beside.known) (beside.set_up w) (answer-own frames s.shown side bytes echo next read are w (sends next refl))
  reply-just echo (Ok (reply.Ask hop)) read sends = asking-just frames s side (keeping s side bytes (wait.Hop side hop)) hop (kept-just s s side bytes side hop (nothing-just s)) w
  reply-just echo (Ok (reply.AskAgain hop)) read sends = again-just frames s side hop w
  reply-just echo (Err reason) read sends = refused-just side reason

  -- ---- a frame as it is read

  pub read-just : (r : Result Reading Reason) → reading_on s.shown side bytes ≡ r → Just s (retaken_by s side bytes r) (own_read s.shown side bytes r)
  read-just (Ok (Packet packet)) is = verdict-just packet (plan_of s.shown side packet.flow (size_in bytes)) is refl
  read-just (Ok (Error packet)) is = error-verdict-just packet (error_plan s.shown side packet.flow (size_in bytes)) is (error-says s.shown side packet.flow (size_in bytes))
  read-just (Ok (Asked echo)) is = reply-just echo (reply_to s.shown side echo) is (λ next. reply-sends s.shown side echo next)
  read-just (Ok (Arp p)) is = nothing-just s
  read-just (Ok (Advert a from)) is = nothing-just s
  read-just (Err reason) is = refused-just side reason

pub taking-just : Frames → (s : GatewayAndOutput) (side : Side) (bytes : List ℕ) → AreBytes bytes → IsSetUp s.shown → SaysJust s (retaken_by s side bytes (reading_on s.shown side bytes)) (own_of s.shown side bytes)
taking-just frames s side bytes are w = (read-just frames s side bytes are w (reading_on s.shown side bytes) refl).says

-- ---- takings one after another

pub all-just : Frames → (s : GatewayAndOutput) (ws : List HeldPacket) → AllByRecursion (λ (w : HeldPacket). AreBytes w.bytes) ws → IsSound s.shown → IsSetUp s.shown → Just s (all_taken s ws) (all_own_of s ws)
all-just frames s [] all is w = nothing-just s
all-just frames s (p ∷ ps) all is w =
    let next = taken_again s p in
    let said = retaken-says frames s p.side p.bytes (reading_on s.shown p.side p.bytes) refl all.0 is w in
    just-then (own_of s.shown p.side p.bytes) (all_own_of next ps) s next (all_taken next ps)
    (read-just frames s p.side p.bytes all.0 w (reading_on s.shown p.side p.bytes) refl) (all-just frames next ps all.1 said.0.sound said.0.wired)

pub takings-just : Frames → (s : GatewayAndOutput) (ws : List HeldPacket) → AllByRecursion (λ (w : HeldPacket). AreBytes w.bytes) ws → IsSound s.shown → IsSetUp s.shown → SaysJust s (all_taken s ws) (all_own_of s ws)
takings-just frames s ws all is w = (all-just frames s ws all is w).says
