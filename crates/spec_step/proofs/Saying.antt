-- One packet or error, and packets whose wait is over: what is told of them is true, and what that requires holds
-- afterwards.
use Rattle.std.proofs.Common.{◌≡◌, ℕ, Bool, true, false, not, ◌&&◌, List, [], ◌∷◌, ◌++◌, Option, Some, None, Result, Ok, Err, refl, sym, ap, subst, ◌∙◌, cond, IsPermutation, length, inl, arith}
use Rattle.std.specs.List.{AllByRecursion}
use Rattle.addresses.specs.declared.ethernet.Mac.{Mac}
use Rattle.addresses.specs.declared.internet.Ip.{Ip}
use Rattle.nat_types.specs.declared.gateways.Side.{Side}
use Rattle.nat_types.specs.declared.pairs.Endpoint.{Endpoint}
use Rattle.nat_types.specs.declared.gateways.Side.TheVariants.{Inside, Outside}
use Rattle.ipv4.specs.declared.flows.Flow.{Flow}
use Rattle.ipv4.specs.declared.packets.Packet.{Packet as PacketRead}
use Rattle.spec_binding.specs.declared.changes.Transition.{Transition}
use Rattle.spec_binding.specs.Books.{IsBook, is_synced}
use Rattle.spec_binding.specs.Ledgers.{Ledger}
use Rattle.spec_binding.specs.WellFormed.{IsWellFormedEndpoint}
use Rattle.spec_binding.specs.Rows.{after, is_full, noted_by, wish_of}
use Rattle.spec_binding.proofs.Offered.{wish-keeps, wish-moves-none}
use Rattle.waiting.specs.declared.waits.Ended.{Ended}
use Rattle.waiting.specs.declared.waits.WaitsFor.{WaitsFor}
use Rattle.waiting.specs.declared.waits.WaitsFor.TheVariants as wait
use Rattle.waiting.specs.Packets.{HeldPacket, asks_again, ended_by, left_by, with_asked}
use Rattle.waiting.proofs.Offered.{all-asked, all-room, map-asked}
use Rattle.packet_rules.specs.declared.readings.Asked.{Asked as Echo}
use Rattle.packet_rules.specs.declared.readings.Reading.{Reading}
use Rattle.packet_rules.specs.declared.readings.Reading.TheVariants.{Arp, Advert, Packet, Error, Asked}
use Rattle.packet_rules.specs.declared.reasons.Reason.{Reason}
use Rattle.packet_rules.specs.declared.translations.Translation.{Translation}
use Rattle.packet_rules.specs.declared.translations.Translation.TheVariants.{Outward, Inward, Hairpin}
use Rattle.packet_rules.specs.Arping.{request_frame}
use Rattle.packet_rules.specs.Flows.{error_flow_in, flow_in, source_of}
use Rattle.packet_rules.specs.Frames.{sent_frame}
use Rattle.packet_rules.specs.Steps.{IsForwardable, IsOfSide, unless, up_refusal, IsPassable}
use Rattle.packet_rules.specs.Errors.{passed_frame}
use Rattle.packet_rules.specs.Networks.{network_of}
use Rattle.packet_rules.specs.Own.{answer_frame as own_answer, complaint_frame, complaint_of, is_own_frame}
use Rattle.packet_rules.specs.declared.complaints.Complaint.{Complaint}
use Rattle.interfaces.specs.Tallies.{IsWithin, may_complain}
use Rattle.interfaces.specs.Stations.{is_active}
use Rattle.output.specs.Output.{Sent}
use Rattle.arp.specs.Neighbours.{asks_at}
use Rattle.spec_step.specs.declared.plans.Plan.{Plan}
use Rattle.spec_step.specs.declared.plans.Plan.TheVariants.{Send, Ask, AskAgain, Wait as WaitFor}
use Rattle.spec_step.specs.Machine.{AreBytes}
use Rattle.spec_step.specs.Others.{is_other}
use Rattle.spec_step.specs.OwnAnswers.{Answers, Complains, IsOwnOf, OwnFrame, Purpose, counted_for}
use Rattle.spec_step.specs.Parts.{all_taken, asked_again, by_plan, by_refusal, by_row, by_verdict, carried_all, flags_in, flow_taken, framed, keeping, released, renewed_behind, request_by, retaken_by, taken_again, wanted_by, wanted_for, by_error_plan, by_error_verdict, error_taken, echo_taken, size_in, refused, sender_in}
use Rattle.spec_step.specs.Shown.{GatewayAndOutput, Shown, id_of, is_apart, is_up, scene, station_on}
use Rattle.spec_step.specs.Truly.{IsSetUp, AtHand, IsSentBy, Known, known_of, packets_of}
use Rattle.spec_step.specs.Verdict.{error_hop, error_plan, exit_by, hop_back, hop_by, next_back, next_to, plan_of, reading_on}
use Rattle.spec_step.proofs.Packets.{PlanFits, kept-filter, kept-more, plan-fits, source-formed}
use Rattle.spec_step.proofs.Own.{complaint_scene, echo-leaves, exit_in, refusal-leaves, refused-leaves, said-beside, said_scene}
use Rattle.spec_step.proofs.Passing.{IsSound}
use Rattle.spec_step.proofs.Sending.{AllTranslate, Frames, answer-is, answer-own, carried-leaves, complaint-is, complaint-own, found-serve, found-translate, is-sent, next-six, own-six, request-other, sending-tells}
use Rattle.spec_step.proofs.Sends.{plan-sends}
use Rattle.spec_step.proofs.Steady.{RowStays, ServesNow, row-steady, served-from, steady-same}
use Rattle.spec_step.proofs.Takings.{IsUseless, keeping-tells, wanted-for-known, wish-useless}
use Rattle.spec_step.proofs.Telling.{Told, at_hand, framed-tells, own-tells, split-kept, tells-nothing, tells-quietly, tells-then, tells-unseen}
use Rattle.spec_step.proofs.Erring.{ErrorSays, IsErrorGoing, error-says, error-serves}
use Rattle.spec_step.proofs.Passed.{is-passed, passed-tells}
use Rattle.spec_step.proofs.Rooting.{RowRoots, asking-roots, wish-roots}
use Rattle.std.proofs.lemmas.List.Sorted.{IsPermutation-sym, IsPermutation-trans, IsPermutation-refl}
use Rattle.std.proofs.lemmas.List.{append-nil}
use Rattle.icmp.specs.declared.packets.ErrorFlow.{ErrorFlow}
use Rattle.icmp.specs.declared.packets.ErrorPacket.{ErrorPacket}
use Rattle.spec_step.proofs.Behind.{asked_behind, sent_to, known-sent, wired-sent}
use Rattle.spec_step.proofs.Ahead.{Keeps, asking, asking-book, row-behind}

-- what is told from one scene to another is true, and what that requires holds afterwards
pub record Says (hand : List AtHand) (s s2 : GatewayAndOutput) : Type 0 where
  pub tells : Told hand s s2
  pub sound : IsSound s2.shown
  pub wired : IsSetUp s2.shown

abbrev pub Speaks : List AtHand → GatewayAndOutput → GatewayAndOutput → Type 0
Speaks hand s s2 = IsSound s.shown → IsSetUp s.shown → Says hand s s2

-- such a part that leaves what decides where packets go
abbrev pub Saying : List AtHand → GatewayAndOutput → GatewayAndOutput → Type 0
Saying hand s s2 = IsSound s.shown → IsSetUp s.shown → Says hand s s2 × (known_of s2.shown ≡ known_of s.shown)

-- what is told of two parts, one after the other, is true of both together
pub speaks-then : (h h2 : List AtHand) (a b c : GatewayAndOutput) → Speaks h a b → Saying h2 b c → Speaks (h ++ h2) a c
speaks-then h h2 a b c x y = λ is w.
    let one = x is w in
    let two = y one.sound one.wired in
    record { tells = tells-then h h2 a b c two.1 one.tells two.0.tells; sound = two.0.sound; wired = two.0.wired }

pub saying-then : (h h2 : List AtHand) (a b c : GatewayAndOutput) → Saying h a b → Saying h2 b c → Saying (h ++ h2) a c
saying-then h h2 a b c x y = λ is w.
    let one = x is w in
    let two = y one.0.sound one.0.wired in (
      record { tells = tells-then h h2 a b c two.1 one.0.tells two.0.tells; sound = two.0.sound; wired = two.0.wired },
      two.1 ∙ one.1,
    )

-- nothing false is told where packets at hand are dropped
pub saying-nothing : (s : GatewayAndOutput) (hand : List AtHand) → Saying hand s s
saying-nothing s hand = λ is w. (record { tells = tells-nothing s hand; sound = is; wired = w }, refl)

-- a row that uses no pair
pub row-says : (s : GatewayAndOutput) (row : Transition) → IsUseless row → RowRoots s.shown.ledger.book row → (IsBook s.shown.ledger.book → IsBook (after s.shown.ledger.book row)) → (IsBook s.shown.ledger.book → RowStays s.shown.ledger.book row) → Saying [] s (by_row s row)
row-says s row useless roots keeps stays = λ is w. (
  record {
    tells = tells-quietly s (by_row s row) (noted_by (id_of s.shown) s.shown.moment row.what) refl refl (useless (id_of s.shown) s.shown.moment) refl (roots (id_of s.shown) s.shown.moment)
        (row-steady s row (stays is.book)) (refl, (refl, omega arith));
    sound = record { book = keeps is.book; kept = is.kept };
    wired = w;
  },
  refl,
)

pub asking-says : (s : GatewayAndOutput) → Keeps (Saying [] s)
asking-says s m paired first =
    let b = m.shown.ledger.book in
    saying-then [] [] s m (by_row m asking) first
    (row-says m asking (λ i now. refl) (asking-roots b) (λ is. asking-book b paired is) (λ is x p p_is. inl p_is))

pub wanted-says : (s : GatewayAndOutput) (e : Endpoint) → IsWellFormedEndpoint e → Saying [] s (wanted_by s e)
wanted-says s e formed =
    let b = s.shown.ledger.book in
    let apart = is_apart s.shown in
    let full = is_full s.shown.link in
    let row = (wish_of b apart full e).row in
    row-behind (Saying [] s) s row (asking-says s)
    (row-says s row (wish-useless b apart full e) (wish-roots b apart full e) (λ is. wish-keeps b apart full e is formed)
    (λ is x p p_is. inl (wish-moves-none b apart full e x p is formed p_is)))

wanted-for-says : (s : GatewayAndOutput) (flow : Flow) (by : Translation) → IsWellFormedEndpoint (source_of flow) → Saying [] s (wanted_for s flow by)
wanted-for-says s flow (Outward p) formed = wanted-says s (source_of flow) formed
wanted-for-says s flow (Inward p) formed = saying-nothing s []
wanted-for-says s flow (Hairpin own other) formed = wanted-says s (source_of flow) formed

-- nothing false is told where a frame of another kind is sent
pub framed-says : (s : GatewayAndOutput) (side : Side) (bytes : List ℕ) → (IsSetUp s.shown → is_other s.shown.networks side bytes ≡ true) → Saying [] s (framed s side bytes)
framed-says s side bytes none = λ is w. (
  record { tells = framed-tells s side bytes (none w); sound = record { book = is.book; kept = is.kept }; wired = w },
  refl,
)

-- nothing false is told where a packet is kept
keeping-says : (s : GatewayAndOutput) (side : Side) (bytes : List ℕ) (w : WaitsFor) → AreBytes bytes → Saying (at_hand side bytes ∷ []) s (keeping s side bytes w)
keeping-says s side bytes w are = λ is wired. (
  record {
    tells = keeping-tells s side bytes w;
    sound = record { book = is.book; kept = kept-more _ _ (all-room (λ (x : HeldPacket). AreBytes x.bytes) w s.shown.kept is.kept) are };
    wired = wired;
  },
  refl,
)

-- what is known of a packet that was read
record IsRead (s : GatewayAndOutput) (side : Side) (bytes : List ℕ) (flow : Flow) : Type 0 where
  are : AreBytes bytes
  synced : is_synced s.shown.ledger.book.stage ≡ true
  passes : IsForwardable bytes
  of_side : IsOfSide side bytes
  flow_is : flow ≡ flow_in bytes

read-from : (s : GatewayAndOutput) (side : Side) (bytes : List ℕ) (flow : Flow) → IsRead s side bytes flow → IsWellFormedEndpoint (source_of flow)
read-from s side bytes flow read = subst (λ (f : Flow). IsWellFormedEndpoint (source_of f)) (sym read.flow_is) (source-formed bytes read.are read.passes)

-- ---- a next hop is asked for

renewed-says : Frames → (s : GatewayAndOutput) (exit : Side) (hop : Ip) → Saying [] s (renewed_behind s exit hop)
renewed-says frames s exit hop = at exit (asks_at hop.0 s.shown.moment (station_on s.shown exit).neighbours)
  where
    -- nothing false is told where only the neighbours change
    sent : (side : Side) → Saying [] s (sent_to s side hop)
    sent Inside = λ is w. (
      record { tells = tells-unseen s _ refl refl (refl, (refl, refl)) refl (refl, (refl, omega arith)); sound = record { book = is.book; kept = is.kept }; wired = wired-sent s.shown Inside hop w },
      known-sent s.shown Inside hop,
    )
    sent Outside = λ is w. (
      record { tells = tells-unseen s _ refl refl (refl, (refl, refl)) refl (refl, (refl, omega arith)); sound = record { book = is.book; kept = is.kept }; wired = wired-sent s.shown Outside hop w },
      known-sent s.shown Outside hop,
    )

    at : (side : Side) (b : Bool) → Saying [] s (asked_behind s side hop b)
    at side true =
        let mid = sent_to s side hop in
        λ is w. saying-then [] [] s mid (framed mid side (request_by s.shown side hop)) (sent side)
        (framed-says mid side (request_by s.shown side hop) (λ x. request-other frames mid.shown.networks side (station_on s.shown side).network hop (own-six s.shown w side))) is w
    at side false = sent side

again-says : Frames → (s : GatewayAndOutput) (exit : Side) (hop : Ip) → Saying [] s (asked_again s exit hop)
again-says frames s exit hop = at (asks_again s.shown.moment (wait.Hop exit hop) s.shown.kept)
  where
    kept : List HeldPacket
    kept = with_asked s.shown.moment (wait.Hop exit hop) s.shown.kept

    same : packets_of kept ≡ packets_of s.shown.kept
    same = map-asked (λ (w : HeldPacket). at_hand w.side w.bytes) (λ w n. refl) s.shown.moment (wait.Hop exit hop) s.shown.kept

    mid : GatewayAndOutput
    mid = scene (record s.shown { kept = kept }) s.told

    asked : Saying [] s mid
    asked = λ is w. (
      record {
        tells = record {
          all = record {
            frames = [];
            frames_are = sym (append-nil s.told.frames);
            notes = [];
            notes_are = sym (append-nil s.told.notes);
            done = [];
            translated = refl;
            used = refl;
            each = tt;
            served = tt;
            passed = [];
            errors = refl;
            each_error = tt;
            served_errors = tt;
            own = [];
            own_are = refl;
            each_own = tt;
            counted_inside = refl;
            counted_outside = refl;
            dropped = [];
            once = subst (λ (ps : List AtHand). IsPermutation (packets_of s.shown.kept) ps) (sym same) (IsPermutation-refl (packets_of s.shown.kept));
          };
          roots = λ p t. inl t;
          steady = steady-same s mid [] (refl, (refl, refl));
          within = λ h. h;
          later = omega arith;
        };
        sound = record { book = is.book; kept = all-asked (λ (x : HeldPacket). AreBytes x.bytes) (λ x n are. are) s.shown.moment (wait.Hop exit hop) s.shown.kept is.kept };
        wired = w;
      },
      refl,
    )

    at : (b : Bool) → Saying [] s (let x : GatewayAndOutput = cond b (framed mid exit (request_by s.shown exit hop)) s in x)
    at true = λ is w. saying-then [] [] s mid (framed mid exit (request_by s.shown exit hop)) asked
        (framed-says mid exit (request_by s.shown exit hop) (λ x. request-other frames mid.shown.networks exit (station_on s.shown exit).network hop (own-six s.shown w exit))) is w
    at false = saying-nothing s []

-- ---- a packet that is sent on

-- what is told of a packet that is sent on, from a scene where its pairs translate, is true
sending-says : Frames → (s one : GatewayAndOutput) (side : Side) (bytes : List ℕ) (by : Translation) (next : Mac) → IsRead s side bytes (flow_in bytes) → plan_of s.shown side (flow_in bytes) (size_in bytes) ≡ Ok (Send by next)
    → one ≡ wanted_for s (flow_in bytes) by → IsBook s.shown.ledger.book → IsSetUp s.shown
    → Saying (at_hand side bytes ∷ []) one (carried_all (framed one (exit_by by) (sent_frame s.shown.networks by next bytes)) (flow_in bytes) (flags_in bytes) by)
sending-says frames s one side bytes by next read plan at book wired = λ is w.
    let flow = flow_in bytes in
    let planned = plan-sends s.shown side flow (size_in bytes) by next plan in
    let found = found-translate s flow by book read.synced planned.pairs in
    let frame = sent_frame s.shown.networks by next bytes in
    let same : known_of one.shown ≡ known_of s.shown = ap (λ (x : GatewayAndOutput). known_of x.shown) at ∙ wanted-for-known s flow by in
    let sent = is-sent s.shown side bytes by next planned found.1 in
    let c = carried-leaves (framed one (exit_by by) frame) flow (flags_in bytes) by in (
      record {
        tells = sending-tells one side bytes flow (flags_in bytes) by frame
            (subst (λ (k : Known). IsSentBy k (at_hand side bytes) by (let x : Sent = record { side = exit_by by; bytes = frame } in x)) (sym same) sent)
            (subst (λ (k : Known). is_own_frame k.networks (exit_by by) frame ≡ false) (sym same)
            (frames.own.sent s.shown.networks side by next bytes wired.0.0 wired.0.1.placed (next-six s.shown flow by next wired planned.next_is) read.passes read.of_side read.are planned.way))
            (frames.sent s.shown.networks side by next bytes wired.0.0 (next-six s.shown flow by next wired planned.next_is) read.passes read.of_side planned.way)
            (subst (λ (x : GatewayAndOutput). AllTranslate x.shown.ledger.book by) (sym at) found.0)
            (subst (λ (x : GatewayAndOutput). ServesNow x.shown.ledger.book by) (sym at) (found-serve s flow by book (read-from s side bytes flow read) read.synced planned.pairs));
        sound = record {
          book = subst IsBook (sym c.book) is.book;
          kept = subst (λ (ws : List HeldPacket). AllByRecursion (λ (x : HeldPacket). AreBytes x.bytes) ws) (sym c.kept) is.kept;
        };
        wired = c.wired w;
      },
      c.known,
    )

sent-says : Frames → (s : GatewayAndOutput) (side : Side) (bytes : List ℕ) (by : Translation) (next : Mac) → IsRead s side bytes (flow_in bytes) → plan_of s.shown side (flow_in bytes) (size_in bytes) ≡ Ok (Send by next)
    → Saying (at_hand side bytes ∷ []) s (by_plan s side bytes (flow_in bytes) (Send by next))
sent-says frames s side bytes by next read plan =
    let flow = flow_in bytes in
    let one = wanted_for s flow by in
    let frame = sent_frame s.shown.networks by next bytes in
    let two = carried_all (framed one (exit_by by) frame) flow (flags_in bytes) by in
    let first = wanted-for-says s flow by (read-from s side bytes flow read) in
    λ is w. saying-then (at_hand side bytes ∷ []) [] s two (by_plan s side bytes flow (Send by next))
    (saying-then [] (at_hand side bytes ∷ []) s one two first (sending-says frames s one side bytes by next read plan refl is.book w))
    (renewed-says frames two (exit_by by) (hop_by s.shown by flow)) is w

-- the addresses and ports of an error itself
abbrev pub addressed : ErrorFlow → Flow
addressed flow = record flow.inside { source = flow.source; destination = flow.destination }

-- ---- any plan, and none

plan-says : Frames → (s : GatewayAndOutput) (side : Side) (bytes : List ℕ) (flow : Flow) (plan : Plan) → IsRead s side bytes flow → plan_of s.shown side flow (size_in bytes) ≡ Ok plan → PlanFits (Ok plan)
    → Saying (at_hand side bytes ∷ []) s (by_plan s side bytes flow plan)
plan-says frames s side bytes flow (Send by next) read plan fits =
    let same = read.flow_is in
    let read2 : IsRead s side bytes (flow_in bytes) = record { are = read.are; synced = read.synced; passes = read.passes; of_side = read.of_side; flow_is = refl } in
    subst (λ (f : Flow). Saying (at_hand side bytes ∷ []) s (by_plan s side bytes f (Send by next))) (sym same)
    (sent-says frames s side bytes by next read2 (ap (λ (f : Flow). plan_of s.shown side f (size_in bytes)) (sym same) ∙ plan))
plan-says frames s side bytes flow (Ask by hop) read plan fits =
    let hand = at_hand side bytes ∷ [] in
    let one = wanted_for s flow by in
    let two = keeping one side bytes (wait.Hop (exit_by by) hop) in
    let network = (station_on s.shown (exit_by by)).network in
    let first = saying-then [] hand s one two (wanted-for-says s flow by (read-from s side bytes flow read)) (keeping-says one side bytes (wait.Hop (exit_by by) hop) read.are) in
    λ is w. saying-then hand [] s two (framed two (exit_by by) (request_frame network hop)) first
    (framed-says two (exit_by by) (request_frame network hop) (λ x. request-other frames two.shown.networks (exit_by by) network hop (own-six s.shown w (exit_by by)))) is w
plan-says frames s side bytes flow (AskAgain by hop) read plan fits =
    let hand = at_hand side bytes ∷ [] in
    saying-then hand [] s s (asked_again s (exit_by by) hop) (saying-nothing s hand) (again-says frames s (exit_by by) hop)
plan-says frames s side bytes flow (WaitFor e) read plan fits =
    saying-then [] (at_hand side bytes ∷ []) s (wanted_by s e) (by_plan s side bytes flow (WaitFor e)) (wanted-says s e fits) (keeping-says (wanted_by s e) side bytes (wait.Pair e) read.are)

-- what is told where the gateway says something itself, of the packet at hand, is true
own-says : Frames → (s : GatewayAndOutput) (side : Side) (bytes : List ℕ) (purpose : Purpose) (frame : List ℕ) (hop : Ip) → (IsSetUp s.shown → is_own_frame s.shown.networks side frame ≡ true)
    → (let x : Sent = record { side = side; bytes = frame } in let o : OwnFrame = record { packet = at_hand side bytes; purpose = purpose; sent = x } in IsSetUp s.shown → IsOwnOf (known_of s.shown) o)
    → (IsWithin (station_on s.shown side).said → IsWithin (counted_for purpose s.shown.moment (station_on s.shown side).said))
    → Saying (at_hand side bytes ∷ []) s (renewed_behind (said_scene s side frame (counted_for purpose s.shown.moment (station_on s.shown side).said)) side hop)
own-says frames s side bytes purpose frame hop own is_of within =
    let hand = at_hand side bytes ∷ [] in
    let tally = counted_for purpose s.shown.moment (station_on s.shown side).said in
    let two = said_scene s side frame tally in
    let beside = said-beside s side frame tally in
    let said : Saying hand s two = λ is w. (
      record {
        tells = own-tells s side bytes purpose frame (own w) (is_of w) within;
        sound = record {
          book = subst (λ (l : Ledger). IsBook l.book) (sym beside.ledger) is.book;
          kept = subst (λ (ws : List HeldPacket). AllByRecursion (λ (v : HeldPacket). AreBytes v.bytes) ws) (sym beside.kept) is.kept;
        };
        wired = beside.set_up w;
      },
      beside.known,
    ) in
    saying-then hand [] s two (renewed_behind two side hop) said (renewed-says frames two side hop)

complaint-says : Frames → (s : GatewayAndOutput) (side exit : Side) (bytes : List ℕ) (reason : Reason) (complaint : Complaint) (next : Mac) → AreBytes bytes → complaint_of s.shown.networks side exit reason bytes ≡ Some complaint
    → next_back s.shown side (sender_in bytes) ≡ Some next → may_complain s.shown.moment (station_on s.shown side).said ≡ true
    → Saying (at_hand side bytes ∷ []) s (renewed_behind (complaint_scene s side bytes complaint next) side (hop_back s.shown side (sender_in bytes)))
complaint-says frames s side exit bytes reason complaint next are is there free =
    own-says frames s side bytes (Complains reason exit) (complaint_frame (network_of s.shown.networks side) complaint next bytes) (hop_back s.shown side (sender_in bytes))
    (λ w. complaint-own frames s.shown side bytes complaint next are w there) (λ w. complaint-is s.shown side exit bytes reason complaint next are is there)
    (λ h. frames.tallies.complained s.shown.moment (station_on s.shown side).said h free)

pub refused-says : Frames → (s : GatewayAndOutput) (side exit : Side) (bytes : List ℕ) (reason : Reason) → AreBytes bytes → Saying (at_hand side bytes ∷ []) s (refused s side exit bytes reason)
refused-says frames s side exit bytes reason are =
    let hand = at_hand side bytes ∷ [] in
    refused-leaves (λ x. Saying hand s x) s side exit bytes (saying-nothing s hand) (λ r complaint next is there free. complaint-says frames s side exit bytes r complaint next are is there free) reason

refusal-says : Frames → (s : GatewayAndOutput) (side : Side) (bytes : List ℕ) (flow : Flow) (reason : Reason) → AreBytes bytes → IsWellFormedEndpoint (source_of flow) → Saying (at_hand side bytes ∷ []) s (by_refusal s side bytes flow reason)
refusal-says frames s side bytes flow reason are formed =
    let hand = at_hand side bytes ∷ [] in
    refusal-leaves (λ x. Saying hand s x) s side bytes flow (saying-nothing s hand)
    (saying-then hand [] s s (wanted_by s (source_of flow)) (saying-nothing s hand) (wanted-says s (source_of flow) formed))
    (λ r complaint next is there free. complaint-says frames s side (exit_in s side flow) bytes r complaint next are is there free) reason

flow-says : Frames → (s : GatewayAndOutput) (side : Side) (bytes : List ℕ) (flow : Flow) → IsRead s side bytes flow → Saying (at_hand side bytes ∷ []) s (flow_taken s side bytes flow)
flow-says frames s side bytes flow read = at (plan_of s.shown side flow (size_in bytes)) refl (plan-fits s.shown side flow (size_in bytes) (read-from s side bytes flow read))
  where
    at : (r : Result Plan Reason) → plan_of s.shown side flow (size_in bytes) ≡ r → PlanFits r → Saying (at_hand side bytes ∷ []) s (by_verdict s side bytes flow r)
    at (Ok plan) is fits = plan-says frames s side bytes flow plan read is fits
    at (Err reason) is fits = refusal-says frames s side bytes flow reason read.are (read-from s side bytes flow read)

-- ---- frames as they are read

unless-none : (o : Option Reason) (r : Result Reading Reason) (x : Reading) → unless o r ≡ Ok x → (o ≡ None) × (r ≡ Ok x)
unless-none None r x is = (refl, is)
unless-none (Some reason) r x is = absurd (cc)

up-none : (up : Bool) → up_refusal up ≡ None → up ≡ true
unfolding up_refusal
up-none true is = refl
up-none false is = absurd (cc)

and-first : (a b : Bool) → (a && b) ≡ true → a ≡ true
and-first true b is = refl
and-first false b is = absurd (cc)

-- a gateway that reads a frame is up
pub reading-synced : (g : Shown) (side : Side) (bytes : List ℕ) (x : Reading) → reading_on g side bytes ≡ Ok x → is_synced g.ledger.book.stage ≡ true
reading-synced g side bytes x is =
    let one = unless-none _ _ x is in
    let two = unless-none (up_refusal (is_up g)) _ x one.1 in
    and-first (is_synced g.ledger.book.stage) (not g.stopped) (up-none (is_up g) two.0)

pub packet-says : Frames → (s : GatewayAndOutput) (side : Side) (bytes : List ℕ) (packet : PacketRead) → reading_on s.shown side bytes ≡ Ok (Packet packet) → AreBytes bytes
    → Saying (at_hand side bytes ∷ []) s (flow_taken s side bytes packet.flow)
packet-says frames s side bytes packet is are =
    let at = station_on s.shown side in
    let carries = frames.reads side at.network (is_active at) (is_up s.shown) bytes (Packet packet) is in
    flow-says frames s side bytes packet.flow (record { are = are; synced = reading-synced s.shown side bytes (Packet packet) is; passes = carries.0; of_side = carries.1.1; flow_is = ap (λ (p : PacketRead). p.flow) carries.1.0 })

-- ---- an error

-- what is known of an error that was read
record IsErrorRead (s : GatewayAndOutput) (bytes : List ℕ) (flow : ErrorFlow) : Type 0 where
  are : AreBytes bytes
  synced : is_synced s.shown.ledger.book.stage ≡ true
  passes : IsPassable bytes
  flow_is : flow ≡ error_flow_in bytes

-- what is told of an error that is passed on is true
passed-says : Frames → (s : GatewayAndOutput) (side : Side) (bytes : List ℕ) (by : Translation) (next : Mac) → IsErrorRead s bytes (error_flow_in bytes) → IsErrorGoing s.shown side (error_flow_in bytes) by
    → next_to s.shown by (error_flow_in bytes).destination ≡ Some next → Saying (at_hand side bytes ∷ []) s (framed s (exit_by by) (passed_frame s.shown.networks by next bytes))
passed-says frames s side bytes by next read goes next_is = λ is w. (
  record {
    tells = passed-tells s side bytes by next
        (is-passed s.shown side bytes by next read.passes is.book read.synced goes next_is)
        (error-serves s.shown (error_flow_in bytes) by read.synced goes.pairs)
        (frames.own.passed s.shown.networks side by next bytes w.0.0 w.0.1.placed (six w) read.passes read.are goes.way)
        (frames.passed_apart s.shown.networks (exit_by by) by next bytes w.0.0 (six w) read.passes)
        (frames.passed s.shown.networks by next bytes w.0.0 (six w) read.passes);
    sound = record { book = is.book; kept = is.kept };
    wired = w;
  },
  refl,
)
  where
    six : IsSetUp s.shown → length next.0 ≡ 6
    six w = next-six s.shown (addressed (error_flow_in bytes)) by next w next_is

error-plan-says : Frames → (s : GatewayAndOutput) (side : Side) (bytes : List ℕ) (plan : Plan) → IsErrorRead s bytes (error_flow_in bytes) → ErrorSays s.shown side (error_flow_in bytes) (Ok plan)
    → Saying (at_hand side bytes ∷ []) s (by_error_plan s side bytes (error_flow_in bytes) plan)
error-plan-says frames s side bytes (Send by next) read says =
    let hand = at_hand side bytes ∷ [] in
    let one = framed s (exit_by by) (passed_frame s.shown.networks by next bytes) in
    saying-then hand [] s one (by_error_plan s side bytes (error_flow_in bytes) (Send by next)) (passed-says frames s side bytes by next read says.0 says.1)
    (renewed-says frames one (exit_by by) (error_hop s.shown by (error_flow_in bytes)))
error-plan-says frames s side bytes (Ask by hop) read says =
    let hand = at_hand side bytes ∷ [] in
    let what = wait.Hop (exit_by by) hop in
    let one = keeping s side bytes what in
    let network = (station_on s.shown (exit_by by)).network in
    λ is w. saying-then hand [] s one (framed one (exit_by by) (request_frame network hop)) (keeping-says s side bytes what read.are)
    (framed-says one (exit_by by) (request_frame network hop) (λ x. request-other frames one.shown.networks (exit_by by) network hop (own-six s.shown w (exit_by by)))) is w
error-plan-says frames s side bytes (AskAgain by hop) read says =
    let hand = at_hand side bytes ∷ [] in
    saying-then hand [] s s (asked_again s (exit_by by) hop) (saying-nothing s hand) (again-says frames s (exit_by by) hop)
error-plan-says frames s side bytes (WaitFor e) read says = absurd says

error-says-of : Frames → (s : GatewayAndOutput) (side : Side) (bytes : List ℕ) (flow : ErrorFlow) → IsErrorRead s bytes flow → Saying (at_hand side bytes ∷ []) s (error_taken s side bytes flow)
error-says-of frames s side bytes flow read =
    subst (λ (f : ErrorFlow). Saying (at_hand side bytes ∷ []) s (error_taken s side bytes f)) (sym read.flow_is)
    (at (error_plan s.shown side (error_flow_in bytes) (size_in bytes)) (error-says s.shown side (error_flow_in bytes) (size_in bytes)))
  where
    at : (r : Result Plan Reason) → ErrorSays s.shown side (error_flow_in bytes) r → Saying (at_hand side bytes ∷ []) s (by_error_verdict s side bytes (error_flow_in bytes) r)
    at (Ok plan) says = error-plan-says frames s side bytes plan (record { are = read.are; synced = read.synced; passes = read.passes; flow_is = refl }) says
    at (Err reason) says = saying-nothing s (at_hand side bytes ∷ [])

pub error-packet-says : Frames → (s : GatewayAndOutput) (side : Side) (bytes : List ℕ) (packet : ErrorPacket) → reading_on s.shown side bytes ≡ Ok (Error packet) → AreBytes bytes
    → Saying (at_hand side bytes ∷ []) s (error_taken s side bytes packet.flow)
error-packet-says frames s side bytes packet is are =
    let at = station_on s.shown side in
    let carries = frames.reads side at.network (is_active at) (is_up s.shown) bytes (Error packet) is in
    error-says-of frames s side bytes packet.flow (record { are = are; synced = reading-synced s.shown side bytes (Error packet) is; passes = carries.0; flow_is = ap (λ (p : ErrorPacket). p.flow) carries.1 })

-- ---- an Echo to the gateway

pub echo-says : Frames → (s : GatewayAndOutput) (side : Side) (bytes : List ℕ) (echo : Echo) → reading_on s.shown side bytes ≡ Ok (Asked echo) → AreBytes bytes → Saying (at_hand side bytes ∷ []) s (echo_taken s side bytes echo)
echo-says frames s side bytes echo read are =
    let hand = at_hand side bytes ∷ [] in
    let hop = hop_back s.shown side echo.source in
    let network = (station_on s.shown side).network in
    let one = keeping s side bytes (wait.Hop side hop) in
    echo-leaves (λ x. Saying hand s x) s side bytes echo
    (λ next may there free.
    own-says frames s side bytes Answers (own_answer (network_of s.shown.networks side) next bytes) hop
    (λ w. answer-own frames s.shown side bytes echo next read are w there) (λ w. answer-is frames s.shown side bytes echo next read are w may there)
    (λ h. frames.tallies.replied s.shown.moment (station_on s.shown side).said h free))
    (λ may there place is w. saying-then hand [] s one (framed one side (request_frame network hop)) (keeping-says s side bytes (wait.Hop side hop) are)
    (framed-says one side (request_frame network hop) (λ x. request-other frames one.shown.networks side network hop (own-six s.shown w side))) is w)
    (λ may there. saying-then hand [] s s (asked_again s side hop) (saying-nothing s hand) (again-says frames s side hop))
    (λ reason. refused-says frames s side side bytes reason are)

-- ---- a frame that is read again

pub retaken-says : Frames → (s : GatewayAndOutput) (side : Side) (bytes : List ℕ) (r : Result Reading Reason) → reading_on s.shown side bytes ≡ r → AreBytes bytes → Saying (at_hand side bytes ∷ []) s (retaken_by s side bytes r)
retaken-says frames s side bytes (Ok (Packet packet)) is are = packet-says frames s side bytes packet is are
retaken-says frames s side bytes (Ok (Error packet)) is are = error-packet-says frames s side bytes packet is are
retaken-says frames s side bytes (Ok (Arp p)) is are = saying-nothing s (at_hand side bytes ∷ [])
retaken-says frames s side bytes (Ok (Advert a from)) is are = saying-nothing s (at_hand side bytes ∷ [])
retaken-says frames s side bytes (Ok (Asked echo)) is are = echo-says frames s side bytes echo is are
retaken-says frames s side bytes (Err reason) is are = refused-says frames s side side bytes reason are

-- ---- the packets whose wait is over

all-say : Frames → (s : GatewayAndOutput) (ws : List HeldPacket) → AllByRecursion (λ (w : HeldPacket). AreBytes w.bytes) ws → Saying (packets_of ws) s (all_taken s ws)
all-say frames s [] all = saying-nothing s []
all-say frames s (w ∷ ws) all =
    saying-then (at_hand w.side w.bytes ∷ []) (packets_of ws) s (taken_again s w) (all_taken s (w ∷ ws))
    (retaken-says frames s w.side w.bytes (reading_on s.shown w.side w.bytes) refl all.0) (all-say frames (taken_again s w) ws all.1)

module _ (frames : Frames) (s : GatewayAndOutput) (ended : Ended) where
  abbrev start : GatewayAndOutput
  start = scene (record s.shown { kept = left_by ended s.shown.kept }) s.told

  -- what is told from the scene without the packets that were removed is true from the scene with them
  on-list : Told (packets_of (ended_by ended s.shown.kept)) start (released s ended) → Told [] s (released s ended)
  on-list x = record {
    all = record {
      frames = x.all.frames;
      frames_are = x.all.frames_are;
      notes = x.all.notes;
      notes_are = x.all.notes_are;
      done = x.all.done;
      translated = x.all.translated;
      used = x.all.used;
      each = x.all.each;
      served = served-from s start (released s ended) x.all.done refl refl x.all.served;
      passed = x.all.passed;
      errors = x.all.errors;
      each_error = x.all.each_error;
      served_errors = served-from s start (released s ended) x.all.passed refl refl x.all.served_errors;
      own = x.all.own;
      own_are = x.all.own_are;
      each_own = x.all.each_own;
      counted_inside = x.all.counted_inside;
      counted_outside = x.all.counted_outside;
      dropped = x.all.dropped;
      once = IsPermutation-trans _ _ _ (IsPermutation-sym _ _ (split-kept ended s.shown.kept)) x.all.once;
    };
    roots = x.roots;
    steady = record { id = x.steady.id; synced = x.steady.synced; stays = x.steady.stays };
    within = x.within;
    later = x.later;
  }

  released-by : AllByRecursion (λ (w : HeldPacket). AreBytes w.bytes) s.shown.kept → Saying (packets_of (ended_by ended s.shown.kept)) start (released s ended)
  released-by all = all-say frames start (ended_by ended s.shown.kept) (kept-filter _ s.shown.kept all)

  pub released-says : Saying [] s (released s ended)
  released-says = λ is w.
      let x = released-by is.kept (record { book = is.book; kept = kept-filter _ s.shown.kept is.kept }) w in
      (record { tells = on-list x.0.tells; sound = x.0.sound; wired = x.0.wired }, x.1)
