-- What a gateway says itself, part by part. A property of scenes holds after a packet is taken, where it holds of the
-- scene before, of the scene after the frame of the gateway's own is sent, and of the scene in which a packet is kept
-- for it.
use Rattle.std.proofs.Common.{◌≡◌, Bool, true, false, cond, ◌&&◌, List, ℕ, Option, Some, None, Result, Ok, Err, refl}
use Rattle.addresses.specs.declared.ethernet.Mac.{Mac}
use Rattle.addresses.specs.declared.internet.Ip.{Ip}
use Rattle.nat_types.specs.declared.gateways.Side.{Side}
use Rattle.nat_types.specs.declared.gateways.Side.TheVariants.{Inside, Outside}
use Rattle.frames.specs.Frame.{frame_of}
use Rattle.ipv4.specs.declared.flows.Flow.{Flow}
use Rattle.waiting.specs.declared.waits.WaitsFor.TheVariants as wait
use Rattle.waiting.specs.Packets.{has_place}
use Rattle.packet_rules.specs.declared.complaints.Complaint.{Complaint}
use Rattle.packet_rules.specs.declared.readings.Asked.{Asked as Echo}
use Rattle.packet_rules.specs.declared.reasons.Reason.{Reason}
use Rattle.packet_rules.specs.declared.reasons.Reason.TheVariants.{ShortFrame, NotMine, BadHeader, BadLength, BadHeaderSum, Fragment, TtlOver, NotUdpTcp, BadTransport, BadArp, BadAdvert, NotUp, NoBinding, NoPort, CannotWait, BadDatagram, OldWord, HostLimit, TooLong, TooMany, SourceRoute}
use Rattle.packet_rules.specs.Flows.{source_of}
use Rattle.packet_rules.specs.Networks.{direction_of, may_answer, mtu_of, network_of}
use Rattle.packet_rules.specs.declared.networks.Networks.{Networks}
use Rattle.packet_rules.specs.Own.{answer_frame, complaint_about, complaint_frame, complaint_of, exit_for, is_told}
use Rattle.packet_rules.specs.Steps.{and_then}
use Rattle.interfaces.specs.declared.tallies.Tally.{Tally}
use Rattle.interfaces.specs.Tallies.{complained as tally_complained, may_complain, may_reply, replied}
use Rattle.spec_step.specs.declared.plans.Reply.{Reply}
use Rattle.spec_step.specs.declared.plans.Reply.TheVariants as reply
use Rattle.spec_step.specs.Parts.{asked_again, by_refusal, by_reply_verdict, complained, complained_to, counted, echo_taken, framed, keeping, refused, renewed_behind, request_by, sender_in, wanted_by}
use Rattle.spec_step.specs.Shown.{GatewayAndOutput, station_on}
use Rattle.spec_step.specs.Truly.{IsSetUp, known_of}
use Rattle.spec_step.specs.Verdict.{fits_at, hop_back, if_reply_fits, next_back, reply_via}
use Rattle.spec_step.proofs.Fitting.{reply-fitted}

-- the scene after a frame of the gateway's own was sent at a side, with this tally of what was sent there
abbrev pub said_scene : GatewayAndOutput → Side → List ℕ → Tally → GatewayAndOutput
said_scene s side frame tally = counted (framed s side frame) side (record (station_on s.shown side) { said = tally })

abbrev pub complaint_scene : GatewayAndOutput → Side → List ℕ → Complaint → Mac → GatewayAndOutput
complaint_scene s side bytes complaint next =
    said_scene s side (complaint_frame (network_of s.shown.networks side) complaint next bytes) (tally_complained s.shown.moment (station_on s.shown side).said)

abbrev pub answer_scene : GatewayAndOutput → Side → List ℕ → Mac → GatewayAndOutput
answer_scene s side bytes next =
    said_scene s side (answer_frame (network_of s.shown.networks side) next bytes) (replied s.shown.moment (station_on s.shown side).said)

-- such a scene leaves everything else as it is
pub record Beside (s two : GatewayAndOutput) : Type 0 where
  pub ledger : two.shown.ledger ≡ s.shown.ledger
  pub kept : two.shown.kept ≡ s.shown.kept
  pub known : known_of two.shown ≡ known_of s.shown
  pub nets : (two.shown.inside.network ≡ s.shown.inside.network) × (two.shown.outside.network ≡ s.shown.outside.network)
  pub near : (two.shown.inside.neighbours ≡ s.shown.inside.neighbours) × (two.shown.outside.neighbours ≡ s.shown.outside.neighbours)
  pub set_up : IsSetUp s.shown → IsSetUp two.shown

pub said-beside : (s : GatewayAndOutput) (side : Side) (frame : List ℕ) (tally : Tally) → Beside s (said_scene s side frame tally)
said-beside s Inside frame tally = record {
  ledger = refl;
  kept = refl;
  known = refl;
  nets = (refl, refl);
  near = (refl, refl);
  set_up = λ w. (w.0, (record { own = w.1.0.own; known = w.1.0.known }, w.1.1));
}
said-beside s Outside frame tally = record {
  ledger = refl;
  kept = refl;
  known = refl;
  nets = (refl, refl);
  near = (refl, refl);
  set_up = λ w. (w.0, (w.1.0, record { own = w.1.1.own; known = w.1.1.known }));
}

-- the sender of a packet with a complaint may be answered
and-third : (a b c d : Bool) → (a && (b && (c && d))) ≡ true → c ≡ true
and-third true true true d is = refl
and-third true true false d is = absurd (cc)
and-third true false c d is = absurd (cc)
and-third false b c d is = absurd (cc)

pub told-is : (networks : Networks) (side exit : Side) (reason : Reason) (bytes : List ℕ) (complaint : Complaint) → complaint_of networks side exit reason bytes ≡ Some complaint → is_told networks side (frame_of bytes).body ≡ true
unfolding complaint_of
told-is networks side exit reason bytes complaint is = at (is_told networks side (frame_of bytes).body) refl is
  where
    at : (b : Bool) → is_told networks side (frame_of bytes).body ≡ b
        → (let o : Option Complaint = cond b (complaint_about (mtu_of networks exit) reason (frame_of bytes).body) None in o) ≡ Some complaint → is_told networks side (frame_of bytes).body ≡ true
    at true told some = told
    at false told some = absurd (cc)

pub told-answers : (networks : Networks) (side exit : Side) (reason : Reason) (bytes : List ℕ) (complaint : Complaint) → complaint_of networks side exit reason bytes ≡ Some complaint → may_answer networks side (sender_in bytes).0 ≡ true
unfolding is_told
told-answers networks side exit reason bytes complaint is = and-third _ _ _ _ (told-is networks side exit reason bytes complaint is)

-- ---- a packet that is refused

module _ (P : GatewayAndOutput → Type 0) (s : GatewayAndOutput) (side exit : Side) (bytes : List ℕ) (nothing : P s)
    (says : (reason : Reason) (complaint : Complaint) (next : Mac) → complaint_of s.shown.networks side exit reason bytes ≡ Some complaint → next_back s.shown side (sender_in bytes) ≡ Some next
    → may_complain s.shown.moment (station_on s.shown side).said ≡ true → P (renewed_behind (complaint_scene s side bytes complaint next) side (hop_back s.shown side (sender_in bytes)))) where
  to-leaves : (reason : Reason) (complaint : Complaint) → complaint_of s.shown.networks side exit reason bytes ≡ Some complaint → (o : Option Mac) → next_back s.shown side (sender_in bytes) ≡ o → P (complained_to s side bytes complaint o)
  to-leaves reason complaint is (Some next) there = at (may_complain s.shown.moment (station_on s.shown side).said) refl
    where
      at : (b : Bool) → may_complain s.shown.moment (station_on s.shown side).said ≡ b → P (let x : GatewayAndOutput = cond b (renewed_behind (complaint_scene s side bytes complaint next) side (hop_back s.shown side (sender_in bytes))) s in x)
      at true free = says reason complaint next is there free
      at false free = nothing
  to-leaves reason complaint is None there = nothing

  complained-leaves : (reason : Reason) (c : Option Complaint) → complaint_of s.shown.networks side exit reason bytes ≡ c → P (complained s side bytes c)
  complained-leaves reason (Some complaint) is = to-leaves reason complaint is (next_back s.shown side (sender_in bytes)) refl
  complained-leaves reason None is = nothing

  pub refused-leaves : (reason : Reason) → P (refused s side exit bytes reason)
  refused-leaves TtlOver = complained-leaves TtlOver (complaint_of s.shown.networks side exit TtlOver bytes) refl
  refused-leaves TooLong = complained-leaves TooLong (complaint_of s.shown.networks side exit TooLong bytes) refl
  refused-leaves ShortFrame = nothing
  refused-leaves NotMine = nothing
  refused-leaves BadHeader = nothing
  refused-leaves BadLength = nothing
  refused-leaves BadHeaderSum = nothing
  refused-leaves Fragment = nothing
  refused-leaves NotUdpTcp = nothing
  refused-leaves BadTransport = nothing
  refused-leaves BadArp = nothing
  refused-leaves BadAdvert = nothing
  refused-leaves NotUp = nothing
  refused-leaves NoBinding = nothing
  refused-leaves NoPort = nothing
  refused-leaves CannotWait = nothing
  refused-leaves BadDatagram = nothing
  refused-leaves OldWord = nothing
  refused-leaves HostLimit = nothing
  refused-leaves TooMany = nothing
  refused-leaves SourceRoute = nothing

-- the side at which a packet would have left
abbrev pub exit_in : GatewayAndOutput → Side → Flow → Side
exit_in s side flow = exit_for side (direction_of s.shown.networks side flow.protocol flow.source.0 flow.destination.0)

-- a packet that is refused leaves the scene as it is, or wants a port, or has a complaint
pub refusal-leaves : (P : GatewayAndOutput → Type 0) (s : GatewayAndOutput) (side : Side) (bytes : List ℕ) (flow : Flow) → P s → P (wanted_by s (source_of flow))
    → ((reason : Reason) (complaint : Complaint) (next : Mac) → complaint_of s.shown.networks side (exit_in s side flow) reason bytes ≡ Some complaint → next_back s.shown side (sender_in bytes) ≡ Some next
    → may_complain s.shown.moment (station_on s.shown side).said ≡ true → P (renewed_behind (complaint_scene s side bytes complaint next) side (hop_back s.shown side (sender_in bytes)))) → (reason : Reason) → P (by_refusal s side bytes flow reason)
refusal-leaves P s side bytes flow same wanted says NoPort = wanted
refusal-leaves P s side bytes flow same wanted says TtlOver = refused-leaves P s side (exit_in s side flow) bytes same says TtlOver
refusal-leaves P s side bytes flow same wanted says TooLong = refused-leaves P s side (exit_in s side flow) bytes same says TooLong
refusal-leaves P s side bytes flow same wanted says ShortFrame = same
refusal-leaves P s side bytes flow same wanted says NotMine = same
refusal-leaves P s side bytes flow same wanted says BadHeader = same
refusal-leaves P s side bytes flow same wanted says BadLength = same
refusal-leaves P s side bytes flow same wanted says BadHeaderSum = same
refusal-leaves P s side bytes flow same wanted says Fragment = same
refusal-leaves P s side bytes flow same wanted says NotUdpTcp = same
refusal-leaves P s side bytes flow same wanted says BadTransport = same
refusal-leaves P s side bytes flow same wanted says BadArp = same
refusal-leaves P s side bytes flow same wanted says BadAdvert = same
refusal-leaves P s side bytes flow same wanted says NotUp = same
refusal-leaves P s side bytes flow same wanted says NoBinding = same
refusal-leaves P s side bytes flow same wanted says CannotWait = same
refusal-leaves P s side bytes flow same wanted says BadDatagram = same
refusal-leaves P s side bytes flow same wanted says OldWord = same
refusal-leaves P s side bytes flow same wanted says HostLimit = same
refusal-leaves P s side bytes flow same wanted says TooMany = same
refusal-leaves P s side bytes flow same wanted says SourceRoute = same

-- ---- an Echo to the gateway

module _ (P : GatewayAndOutput → Type 0) (s : GatewayAndOutput) (side : Side) (bytes : List ℕ) (echo : Echo)
    (sends : (next : Mac) → may_answer s.shown.networks side echo.source.0 ≡ true → next_back s.shown side echo.source ≡ Some next → may_reply s.shown.moment (station_on s.shown side).said ≡ true → P (renewed_behind (answer_scene s side bytes next) side (hop_back s.shown side echo.source)))
    (asks : may_answer s.shown.networks side echo.source.0 ≡ true → next_back s.shown side echo.source ≡ None → has_place s.shown.kept (wait.Hop side (hop_back s.shown side echo.source)) ≡ true
    → P (framed (keeping s side bytes (wait.Hop side (hop_back s.shown side echo.source))) side (request_by s.shown side (hop_back s.shown side echo.source))))
    (again : may_answer s.shown.networks side echo.source.0 ≡ true → next_back s.shown side echo.source ≡ None → P (asked_again s side (hop_back s.shown side echo.source)))
    (refuses : (reason : Reason) → P (refused s side side bytes reason)) where
  abbrev By : Result Reply Reason → Type 0
  By r = P (by_reply_verdict s side bytes echo.source r)

  via-leaves : may_answer s.shown.networks side echo.source.0 ≡ true → may_reply s.shown.moment (station_on s.shown side).said ≡ true → (o : Option Mac) → next_back s.shown side echo.source ≡ o → By (reply_via s.shown side (hop_back s.shown side echo.source) o)
  via-leaves may free (Some next) there = sends next may there free
  via-leaves may free None there = at (has_place s.shown.kept (wait.Hop side (hop_back s.shown side echo.source))) refl
    where
      at : (b : Bool) → has_place s.shown.kept (wait.Hop side (hop_back s.shown side echo.source)) ≡ b
          → By (let r : Result Reply Reason = cond b (Ok (reply.Ask (hop_back s.shown side echo.source))) (Ok (reply.AskAgain (hop_back s.shown side echo.source))) in r)
      at true place = asks may there place
      at false place = again may there

  pub echo-leaves : P (echo_taken s side bytes echo)
  echo-leaves = answers (may_answer s.shown.networks side echo.source.0) refl
    where
      fits : Bool
      fits = fits_at s.shown side echo.size

      via : Result Reply Reason
      via = reply_via s.shown side (hop_back s.shown side echo.source) (next_back s.shown side echo.source)

      limited : may_answer s.shown.networks side echo.source.0 ≡ true → (b : Bool) → may_reply s.shown.moment (station_on s.shown side).said ≡ b → By (let r : Result Reply Reason = cond b (and_then via (if_reply_fits fits)) (Err TooMany) in r)
      limited may true free = reply-fitted By (refuses TooLong) fits via (via-leaves may free (next_back s.shown side echo.source) refl)
      limited may false free = refuses TooMany

      answers : (b : Bool) → may_answer s.shown.networks side echo.source.0 ≡ b
          → By (let r : Result Reply Reason = cond b (cond (may_reply s.shown.moment (station_on s.shown side).said) (and_then via (if_reply_fits fits)) (Err TooMany)) (Err NoBinding) in r)
      answers true may = limited may (may_reply s.shown.moment (station_on s.shown side).said) refl
      answers false may = refuses NoBinding

-- ---- a property that doesn't depend on what is said

-- the property holds whatever the gateway says at a side
abbrev pub Said : (GatewayAndOutput → Type 0) → GatewayAndOutput → Side → Type 0
Said P s side = (frame : List ℕ) (tally : Tally) (hop : Ip) → P (renewed_behind (said_scene s side frame tally) side hop)

complaint-said : (P : GatewayAndOutput → Type 0) (s : GatewayAndOutput) (side : Side) (bytes : List ℕ) → Said P s side → (complaint : Complaint) (next : Mac)
    → P (renewed_behind (complaint_scene s side bytes complaint next) side (hop_back s.shown side (sender_in bytes)))
complaint-said P s side bytes said complaint next =
    said (complaint_frame (network_of s.shown.networks side) complaint next bytes) (tally_complained s.shown.moment (station_on s.shown side).said) (hop_back s.shown side (sender_in bytes))

pub refused-by : (P : GatewayAndOutput → Type 0) (s : GatewayAndOutput) (side exit : Side) (bytes : List ℕ) → P s → Said P s side → (reason : Reason) → P (refused s side exit bytes reason)
refused-by P s side exit bytes same said reason =
    refused-leaves P s side exit bytes same (λ r complaint next is there free. complaint-said P s side bytes said complaint next) reason

pub refusal-by : (P : GatewayAndOutput → Type 0) (s : GatewayAndOutput) (side : Side) (bytes : List ℕ) (flow : Flow) → P s → P (wanted_by s (source_of flow)) → Said P s side → (reason : Reason) → P (by_refusal s side bytes flow reason)
refusal-by P s side bytes flow same wanted said reason =
    refusal-leaves P s side bytes flow same wanted (λ r complaint next is there free. complaint-said P s side bytes said complaint next) reason

pub echo-by : (P : GatewayAndOutput → Type 0) (s : GatewayAndOutput) (side : Side) (bytes : List ℕ) (echo : Echo) → P s → Said P s side
    → ((hop : Ip) → has_place s.shown.kept (wait.Hop side hop) ≡ true → P (framed (keeping s side bytes (wait.Hop side hop)) side (request_by s.shown side hop)))
    → ((hop : Ip) → P (asked_again s side hop)) → P (echo_taken s side bytes echo)
echo-by P s side bytes echo same said asks again =
    let hop = hop_back s.shown side echo.source in
    echo-leaves P s side bytes echo
    (λ next may there free. said (answer_frame (network_of s.shown.networks side) next bytes) (replied s.shown.moment (station_on s.shown side).said) hop)
    (λ may there place. asks hop place)
    (λ may there. again hop)
    (λ reason. refused-by P s side side bytes same said reason)
