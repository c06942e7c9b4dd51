-- What a step does with one packet, and with packets whose wait is over, as the machine sees it.
use Rattle.std.proofs.Common.{◌≡◌, ◌<◌, ◌-◌, ℕ, Bool, true, false, cond, List, [], ◌∷◌, ◌++◌, drop, Option, Some, None, Result, Ok, Err, inl, inr, refl, sym, subst, arith}
use Rattle.std.specs.List.{AllByRecursion, filter}
use Rattle.byteorder.specs.Numbers.{big_from-lt}
use Rattle.addresses.specs.declared.ethernet.Mac.{Mac}
use Rattle.addresses.specs.declared.internet.Ip.{Ip}
use Rattle.addresses.specs.declared.transport.TcpFlags.{TcpFlags}
use Rattle.arp.specs.Neighbours.{asks_at}
use Rattle.nat_types.specs.declared.gateways.Side.{Side}
use Rattle.nat_types.specs.declared.gateways.Side.TheVariants.{Inside, Outside}
use Rattle.nat_types.specs.declared.pairs.Endpoint.{Endpoint}
use Rattle.nat_types.specs.declared.pairs.EntryState.{EntryState}
use Rattle.nat_types.specs.declared.pairs.EntryState.TheVariants as state
use Rattle.nat_types.specs.declared.pairs.Key.{Key}
use Rattle.nat_types.specs.declared.pairs.Pair.{Pair}
use Rattle.bindings.specs.declared.entries.Entry.{Entry}
use Rattle.bindings.specs.Entries.{slot_of}
use Rattle.frames.specs.Frame.{frame_of}
use Rattle.ipv4.specs.declared.flows.Flow.{Flow}
use Rattle.icmp.specs.Query.{IsTranslatable}
use Rattle.ipv4.specs.Flow.{protocol_of, source_place}
use Rattle.ipv4.specs.Header.{header_of, payload_of, word_at}
use Rattle.ipv4.specs.declared.packets.Packet.{Packet as PacketRead}
use Rattle.ipv4.specs.declared.packets.Size.{Size}
use Rattle.activity.specs.declared.packets.Way.TheVariants as goes
use Rattle.link.specs.Link.{Link}
use Rattle.link.proofs.Offered.{IsBytes-drop, IsBytes-take}
use Rattle.spec_pair.specs.Box.{Letter}
use Rattle.spec_binding.specs.declared.changes.Transition.{Transition}
use Rattle.spec_binding.specs.declared.changes.Want.{Want as Wanted}
use Rattle.spec_binding.specs.declared.changes.Want.TheVariants as want
use Rattle.spec_binding.specs.Books.{Book, is_synced}
use Rattle.spec_binding.specs.WellFormed.{IsWellFormedEndpoint}
use Rattle.spec_binding.specs.Machine.{Works}
use Rattle.spec_binding.specs.Rows.{after, answered, carry_row, is_full, quiet, use_row, used_row, wish_of, noted_with}
use Rattle.spec_binding.proofs.Offered.{wish-keeps, carry-works, wish-works}
use Rattle.waiting.specs.declared.waits.Ended.{Ended}
use Rattle.waiting.specs.declared.waits.WaitsFor.{WaitsFor}
use Rattle.waiting.specs.declared.waits.WaitsFor.TheVariants as wait
use Rattle.waiting.specs.Packets.{HeldPacket, asks_again, ended_by, left_by, with_asked}
use Rattle.waiting.proofs.Offered.{all-asked, all-room}
use Rattle.packet_rules.specs.declared.networks.Direction.{Direction}
use Rattle.packet_rules.specs.declared.networks.Direction.TheVariants as way
use Rattle.packet_rules.specs.declared.networks.Network.{Network}
use Rattle.packet_rules.specs.declared.readings.Asked.{Asked as Echo}
use Rattle.packet_rules.specs.declared.readings.Reading.{Reading}
use Rattle.packet_rules.specs.declared.readings.Reading.TheVariants.{Arp, Advert, Packet, Error, Asked}
use Rattle.packet_rules.specs.declared.reasons.Reason.{Reason}
use Rattle.packet_rules.specs.declared.reasons.Reason.TheVariants.{CannotWait}
use Rattle.packet_rules.specs.declared.translations.Translation.{Translation}
use Rattle.packet_rules.specs.declared.translations.Translation.TheVariants.{Outward, Inward, Hairpin}
use Rattle.packet_rules.specs.Flows.{flow_in, source_of}
use Rattle.packet_rules.specs.Networks.{direction_of, exit_of}
use Rattle.packet_rules.specs.Steps.{Carries, IsForwardable, reading_of, and_then}
use Rattle.packet_rules.specs.Errors.{passed_frame}
use Rattle.interfaces.specs.Stations.{is_active}
use Rattle.spec_step.specs.declared.plans.Plan.{Plan}
use Rattle.spec_step.specs.declared.plans.Plan.TheVariants.{Send, Ask, AskAgain, Wait as WaitFor}
use Rattle.spec_step.specs.Machine.{AreBytes}
use Rattle.spec_step.specs.Parts.{all_taken, asked_again, by_plan, by_refusal, by_verdict, carried, carried_all, carried_by, flags_in, flow_taken, framed, keeping, released, remote, renewed_behind, request_by, retaken_by, taken_again, wanted_by, wanted_for, by_error_plan, by_error_verdict, error_taken, echo_taken, size_in, refused, by_row, by_row_and_behind}
use Rattle.spec_step.specs.Shown.{GatewayAndOutput, Shown, is_apart, is_up, scene, station_on}
use Rattle.spec_step.specs.Verdict.{exit_by, hop_by, look_for, plan_by, plan_from, plan_of, plan_on, plan_to, reading_on, target_pair, error_hop, error_plan, fits_at, if_fits}
use Rattle.spec_step.proofs.Fitting.{fitted}
use Rattle.spec_step.proofs.Own.{Said, echo-by, refusal-by, refused-by, said_scene}
use Rattle.spec_step.proofs.Passing.{Going, goes-then, given, going-then, going-unseen, nothing, row-goes, ahead-goes}
use Rattle.icmp.specs.declared.packets.ErrorFlow.{ErrorFlow}
use Rattle.spec_step.proofs.Behind.{asked_behind}
use Rattle.spec_binding.specs.Uses.{use_counts}
use Rattle.activity.specs.declared.packets.Way.{Way}
use Rattle.activity.specs.declared.packets.Remote.{Remote}

-- ---- the endpoint of a packet's source

pub source-formed : (bytes : List ℕ) → AreBytes bytes → IsForwardable bytes → IsWellFormedEndpoint (source_of (flow_in bytes))
unfolding flow_in
source-formed bytes are is =
    let body = (frame_of bytes).body in
    let of_body : AreBytes body = IsBytes-drop 14 bytes are in
    let header = header_of body in
    let of_payload : AreBytes (payload_of body) = IsBytes-take (header.total_length - header.header_length) (drop header.header_length body) (IsBytes-drop header.header_length body of_body) in
    let low = big_from-lt 0 4 (drop 12 body) (IsBytes-drop 12 body of_body) in
    let place = source_place (protocol_of body) in
    let port = big_from-lt 0 2 (drop place (payload_of body)) (IsBytes-drop place (payload_of body) of_payload) in
    record { address = omega (arith, low); port = (above body is.translatable, omega (arith, port)) }
  where
    above : (body : List ℕ) → IsTranslatable body → 0 < word_at (source_place (protocol_of body)) (payload_of body)
    above body (inl (inl udp)) = rw udp.protocol udp.datagram.from
    above body (inl (inr tcp)) = rw tcp.protocol tcp.segment.from
    above body (inr (inl echo)) = rw echo.protocol echo.query.identifier
    above body (inr (inr reply)) = rw reply.protocol reply.query.identifier

-- the endpoint for which a plan waits is one that a pair can have
abbrev pub PlanFits : Result Plan Reason → Type 0
PlanFits (Ok (Send by next)) = Unit {0}
PlanFits (Ok (Ask by hop)) = Unit {0}
PlanFits (Ok (AskAgain by hop)) = Unit {0}
PlanFits (Ok (WaitFor e)) = IsWellFormedEndpoint e
PlanFits (Err reason) = Unit {0}

to-fits : (g : Shown) (by : Translation) (hop : Ip) (next : Option Mac) → PlanFits (plan_to g by hop next)
to-fits g by hop (Some next) = tt
to-fits g by hop None = at _
  where
    at : (b : Bool) → PlanFits (let r : Result Plan Reason = cond b (Ok (Ask by hop)) (Ok (AskAgain by hop)) in r)
    at true = tt
    at false = tt

by-fits : (g : Shown) (flow : Flow) (by : Translation) → PlanFits (plan_by g flow by)
by-fits g flow by = to-fits g by _ _

from-fits : (g : Shown) (flow : Flow) (by : Pair → Translation) (w : Wanted) → IsWellFormedEndpoint (source_of flow) → PlanFits (plan_from g flow by w)
from-fits g flow by (want.Port port) formed = by-fits g flow _
from-fits g flow by want.Wait formed = at _
  where
    at : (b : Bool) → PlanFits (let r : Result Plan Reason = cond b (Ok (WaitFor (source_of flow))) (Err CannotWait) in r)
    at true = formed
    at false = tt
from-fits g flow by want.NoPort formed = tt
from-fits g flow by want.NotNow formed = tt
from-fits g flow by want.HostLimit formed = tt

on-fits : (g : Shown) (flow : Flow) (w : Direction) → IsWellFormedEndpoint (source_of flow) → PlanFits (plan_on g flow w)
on-fits g flow way.Outward formed = from-fits g flow Outward (look_for g flow) formed
on-fits g flow way.Inward formed = at (target_pair g flow)
  where
    at : (r : Result Pair Reason) → PlanFits (and_then r (λ p. plan_by g flow (Inward p)))
    at (Ok p) = by-fits g flow (Inward p)
    at (Err reason) = tt
on-fits g flow way.Hairpin formed = at (target_pair g flow)
  where
    at : (r : Result Pair Reason) → PlanFits (and_then r (λ p. plan_from g flow (λ own. Hairpin own p) (look_for g flow)))
    at (Ok p) = from-fits g flow (λ own. Hairpin own p) (look_for g flow) formed
    at (Err reason) = tt

pub plan-fits : (g : Shown) (side : Side) (flow : Flow) (size : Size) → IsWellFormedEndpoint (source_of flow) → PlanFits (plan_of g side flow size)
plan-fits g side flow size formed = at (direction_of g.networks side flow.protocol flow.source.0 flow.destination.0)
  where
    at : (r : Result Direction Reason) → PlanFits (and_then r (λ way. and_then (plan_on g flow way) (if_fits (fits_at g (exit_of way) size))))
    at (Ok w) = fitted PlanFits tt (fits_at g (exit_of w) size) (plan_on g flow w) (on-fits g flow w formed)
    at (Err reason) = tt

-- ---- a packet that a pair carries

abbrev IsStill : Book → Transition → Type 0
IsStill b row = (after b row ≡ b) × ((e : Link) → answered e row.answer ≡ e)

used-still : (b : Book) (p : Pair) (s : EntryState) → IsStill b (used_row p s)
used-still b p (state.Pending true) = (refl, λ e. refl)
used-still b p (state.Pending false) = (refl, λ e. refl)
used-still b p state.Doomed = (refl, λ e. refl)
used-still b p state.Live = (refl, λ e. refl)
used-still b p (state.Closing true) = (refl, λ e. refl)
used-still b p (state.Closing false) = (refl, λ e. refl)
used-still b p state.Alone = (refl, λ e. refl)
used-still b p state.Held = (refl, λ e. refl)

carry-still : (b : Book) (k : Key) → IsStill b (carry_row b k)
carry-still b k = at (is_synced b.stage) (slot_of b.entries k)
  where
    at : (t : Bool) (o : Option Entry) → IsStill b (let r : Transition = cond t (use_row o) quiet in r)
    at true None = (refl, λ e. refl)
    at true (Some x) = used-still b x.pair x.state
    at false o = (refl, λ e. refl)

-- ---- packets that are kept

pub kept-filter : (p : HeldPacket → Bool) (ws : List HeldPacket) → AllByRecursion (λ (w : HeldPacket). AreBytes w.bytes) ws → AllByRecursion (λ (w : HeldPacket). AreBytes w.bytes) (filter p ws)
kept-filter p [] all = tt
kept-filter p (w ∷ ws) all = at (p w) (kept-filter p ws all.1)
  where
    at : (b : Bool) → AllByRecursion (λ (x : HeldPacket). AreBytes x.bytes) (filter p ws) → AllByRecursion (λ (x : HeldPacket). AreBytes x.bytes) (let xs : List HeldPacket = cond b (w ∷ filter p ws) (filter p ws) in xs)
    at true rest = (all.0, rest)
    at false rest = rest

pub kept-more : (ws : List HeldPacket) (x : HeldPacket) → AllByRecursion (λ (w : HeldPacket). AreBytes w.bytes) ws → AreBytes x.bytes → AllByRecursion (λ (w : HeldPacket). AreBytes w.bytes) (ws ++ x ∷ [])
kept-more [] x all one = (one, tt)
kept-more (w ∷ ws) x all one = (all.0, kept-more ws x all.1 one)

-- the contract of reading: what is known of a frame by what it is read as
abbrev pub Reads : Type 0
Reads = (side : Side) (network : Network) (active up : Bool) (bytes : List ℕ) (reading : Reading) → reading_of side network active up bytes ≡ Ok reading → Carries side bytes reading

module _ (letters : List Letter) (words : List ℕ) where
  pub wanted-goes : (s : GatewayAndOutput) (e : Endpoint) → IsWellFormedEndpoint e → Going letters words s (wanted_by s e)
  wanted-goes s e formed = λ n h stands is.
      let b = s.shown.ledger.book in
      let apart = is_apart s.shown in
      let full = is_full s.shown.link in
      let link = s.shown.link in
      let row = (wish_of b apart full e).row in
      let mid = by_row s row in
      let first = row-goes letters words s row n h is (wish-keeps b apart full e is.book formed) (wish-works s.shown.moment b link n h apart full e stands) in
      goes-then letters words s mid (by_row_and_behind s row) n n n h first
      (ahead-goes letters words mid b (is_full (answered link row.answer)) row.change n first.passes.works.history refl first.passes.works.agrees first.passes.sound)

  carried-goes : (s : GatewayAndOutput) (k : Key) (r : Remote) (w : Way) (flags : TcpFlags) → Going letters words s (carried_by s k (carried s.shown r w flags))
  carried-goes s k r w flags = λ n h stands is.
      let b = s.shown.ledger.book in
      let e = s.shown.link in
      let row = carry_row b k in
      let still = carry-still b k in
      let counts = use_counts s.shown.ledger k (carried s.shown r w flags) in
      let ns = noted_with counts b.id s.shown.moment row.what in
      let works = given letters words s.shown.moment b (after b row) e (answered e row.answer) n n ns h (carry-works s.shown.moment b e n h counts k stands) in
      record {
        passes = record {
          notes = ns;
          notes_are = refl;
          datagrams = refl;
          moment = refl;
          works = subst (λ (x : Book). Works s.shown.moment letters words b e n x e n ns h) still.0
              (subst (λ (x : Link). Works s.shown.moment letters words b e n (after b row) x n ns h) (still.1 e) works);
          sound = record { book = is.book; kept = is.kept };
        };
        stays = record { boot = refl; known = refl; closed = refl; taken = refl; lone = λ t. t };
      }

  pub here : (s : GatewayAndOutput) → Going letters words s s
  here s = λ n h stands is. nothing letters words s n h stands is

  pub carried-all-goes : (s : GatewayAndOutput) (flow : Flow) (flags : TcpFlags) (by : Translation) → Going letters words s (carried_all s flow flags by)
  carried-all-goes s flow flags (Outward p) = carried-goes s p.key _ goes.Outward flags
  carried-all-goes s flow flags (Inward p) = carried-goes s p.key _ goes.Inward flags
  carried-all-goes s flow flags (Hairpin own other) =
      let address = s.shown.networks.outside.interface.virtual_ip in
      let first = carried s.shown (remote address flow.destination_port) goes.Outward flags in
      going-then letters words s (carried_by s own.key first) _ (carried-goes s own.key _ goes.Outward flags) (carried-goes (carried_by s own.key first) other.key (remote address own.key.port) goes.Inward flags)

  pub wanted-for-goes : (s : GatewayAndOutput) (flow : Flow) (by : Translation) → IsWellFormedEndpoint (source_of flow) → Going letters words s (wanted_for s flow by)
  wanted-for-goes s flow (Outward p) formed = wanted-goes s (source_of flow) formed
  wanted-for-goes s flow (Inward p) formed = here s
  wanted-for-goes s flow (Hairpin own other) formed = wanted-goes s (source_of flow) formed

  pub framed-goes : (s : GatewayAndOutput) (side : Side) (bytes : List ℕ) → Going letters words s (framed s side bytes)
  framed-goes s side bytes = going-unseen letters words s (framed s side bytes) refl refl refl refl refl (λ k. k)

  pub keeping-goes : (s : GatewayAndOutput) (side : Side) (bytes : List ℕ) (w : WaitsFor) → AreBytes bytes → Going letters words s (keeping s side bytes w)
  keeping-goes s side bytes w are = going-unseen letters words s (keeping s side bytes w) refl refl refl refl refl (λ k. kept-more _ _ (all-room (λ (x : HeldPacket). AreBytes x.bytes) w s.shown.kept k) are)

  pub renewed-goes : (s : GatewayAndOutput) (exit : Side) (hop : Ip) → Going letters words s (renewed_behind s exit hop)
  renewed-goes s exit hop = at exit (asks_at hop.0 s.shown.moment (station_on s.shown exit).neighbours)
    where
      at : (side : Side) (b : Bool) → Going letters words s (asked_behind s side hop b)
      at Inside true = going-unseen letters words s _ refl refl refl refl refl (λ k. k)
      at Outside true = going-unseen letters words s _ refl refl refl refl refl (λ k. k)
      at Inside false = going-unseen letters words s _ refl refl refl refl refl (λ k. k)
      at Outside false = going-unseen letters words s _ refl refl refl refl refl (λ k. k)

  pub again-goes : (s : GatewayAndOutput) (exit : Side) (hop : Ip) → Going letters words s (asked_again s exit hop)
  again-goes s exit hop = at (asks_again s.shown.moment (wait.Hop exit hop) s.shown.kept)
    where
      at : (b : Bool) → Going letters words s (let x : GatewayAndOutput = cond b (framed (scene (record s.shown { kept = with_asked s.shown.moment (wait.Hop exit hop) s.shown.kept }) s.told) exit (request_by s.shown exit hop)) s in x)
      at true = going-unseen letters words s _ refl refl refl refl refl (λ k. all-asked (λ (x : HeldPacket). AreBytes x.bytes) (λ w n is. is) s.shown.moment (wait.Hop exit hop) s.shown.kept k)
      at false = here s

  plan-goes : (s : GatewayAndOutput) (side : Side) (bytes : List ℕ) (flow : Flow) (plan : Plan) → AreBytes bytes → IsWellFormedEndpoint (source_of flow) → PlanFits (Ok plan) → Going letters words s (by_plan s side bytes flow plan)
  plan-goes s side bytes flow (Send by next) are formed fits =
      let one = wanted_for s flow by in
      let two = carried_all (framed one _ _) flow (flags_in bytes) by in
      going-then letters words s two _
      (going-then letters words s (framed one _ _) two
      (going-then letters words s one (framed one _ _) (wanted-for-goes s flow by formed) (framed-goes one _ _))
      (carried-all-goes (framed one _ _) flow (flags_in bytes) by))
      (renewed-goes two (exit_by by) (hop_by s.shown by flow))
  plan-goes s side bytes flow (Ask by hop) are formed fits =
      let one = wanted_for s flow by in
      let what = wait.Hop (exit_by by) hop in
      let two = keeping one side bytes what in
      going-then letters words s two _
      (going-then letters words s one two (wanted-for-goes s flow by formed) (keeping-goes one side bytes what are))
      (framed-goes two _ _)
  plan-goes s side bytes flow (AskAgain by hop) are formed fits = again-goes s (exit_by by) hop
  plan-goes s side bytes flow (WaitFor e) are formed fits =
      let one = wanted_by s e in
      going-then letters words s one _ (wanted-goes s e fits) (keeping-goes one side bytes (wait.Pair e) are)

  -- a frame of the gateway's own is no act of the machine
  said-goes : (s : GatewayAndOutput) (side : Side) → Said (λ x. Going letters words s x) s side
  said-goes s Inside = λ frame tally hop.
      let one = said_scene s Inside frame tally in
      going-then letters words s one _ (going-unseen letters words s one refl refl refl refl refl (λ k. k)) (renewed-goes one Inside hop)
  said-goes s Outside = λ frame tally hop.
      let one = said_scene s Outside frame tally in
      going-then letters words s one _ (going-unseen letters words s one refl refl refl refl refl (λ k. k)) (renewed-goes one Outside hop)

  pub refused-goes : (s : GatewayAndOutput) (side exit : Side) (bytes : List ℕ) (reason : Reason) → Going letters words s (refused s side exit bytes reason)
  refused-goes s side exit bytes reason = refused-by (λ x. Going letters words s x) s side exit bytes (here s) (said-goes s side) reason

  pub echo-goes : (s : GatewayAndOutput) (side : Side) (bytes : List ℕ) (echo : Echo) → AreBytes bytes → Going letters words s (echo_taken s side bytes echo)
  echo-goes s side bytes echo are =
      echo-by (λ x. Going letters words s x) s side bytes echo (here s) (said-goes s side)
      (λ hop place.
      let one = keeping s side bytes (wait.Hop side hop) in
      going-then letters words s one _ (keeping-goes s side bytes (wait.Hop side hop) are) (framed-goes one _ _))
      (λ hop. again-goes s side hop)

  refusal-goes : (s : GatewayAndOutput) (side : Side) (bytes : List ℕ) (flow : Flow) (reason : Reason) → IsWellFormedEndpoint (source_of flow) → Going letters words s (by_refusal s side bytes flow reason)
  refusal-goes s side bytes flow reason formed = refusal-by (λ x. Going letters words s x) s side bytes flow (here s) (wanted-goes s (source_of flow) formed) (said-goes s side) reason

  verdict-goes : (s : GatewayAndOutput) (side : Side) (bytes : List ℕ) (flow : Flow) (plan : Result Plan Reason) → AreBytes bytes → IsWellFormedEndpoint (source_of flow) → PlanFits plan → Going letters words s (by_verdict s side bytes flow plan)
  verdict-goes s side bytes flow (Ok plan) are formed fits = plan-goes s side bytes flow plan are formed fits
  verdict-goes s side bytes flow (Err reason) are formed fits = refusal-goes s side bytes flow reason formed

  pub flow-goes : (s : GatewayAndOutput) (side : Side) (bytes : List ℕ) (flow : Flow) → AreBytes bytes → IsWellFormedEndpoint (source_of flow) → Going letters words s (flow_taken s side bytes flow)
  flow-goes s side bytes flow are formed = verdict-goes s side bytes flow (plan_of s.shown side flow (size_in bytes)) are formed (plan-fits s.shown side flow (size_in bytes) formed)

  -- ---- an error

  error-plan-goes : (s : GatewayAndOutput) (side : Side) (bytes : List ℕ) (flow : ErrorFlow) (plan : Plan) → AreBytes bytes → Going letters words s (by_error_plan s side bytes flow plan)
  error-plan-goes s side bytes flow (Send by next) are =
      let one = framed s (exit_by by) (passed_frame s.shown.networks by next bytes) in
      going-then letters words s one _ (framed-goes s _ _) (renewed-goes one (exit_by by) (error_hop s.shown by flow))
  error-plan-goes s side bytes flow (Ask by hop) are =
      let what = wait.Hop (exit_by by) hop in
      let one = keeping s side bytes what in
      going-then letters words s one _ (keeping-goes s side bytes what are) (framed-goes one _ _)
  error-plan-goes s side bytes flow (AskAgain by hop) are = again-goes s (exit_by by) hop
  error-plan-goes s side bytes flow (WaitFor e) are = here s

  pub error-goes : (s : GatewayAndOutput) (side : Side) (bytes : List ℕ) (flow : ErrorFlow) → AreBytes bytes → Going letters words s (error_taken s side bytes flow)
  error-goes s side bytes flow are = at (error_plan s.shown side flow (size_in bytes))
    where
      at : (r : Result Plan Reason) → Going letters words s (by_error_verdict s side bytes flow r)
      at (Ok plan) = error-plan-goes s side bytes flow plan are
      at (Err reason) = here s

  -- ---- the packets whose wait is over

  pub read-formed : Reads → (g : Shown) (side : Side) (bytes : List ℕ) (packet : PacketRead) → AreBytes bytes → reading_on g side bytes ≡ Ok (Packet packet) → IsWellFormedEndpoint (source_of packet.flow)
  read-formed reads g side bytes packet are read =
      let at = station_on g side in
      let known = reads side at.network (is_active at) (is_up g) bytes (Packet packet) read in
      subst (λ (p : PacketRead). IsWellFormedEndpoint (source_of p.flow)) (sym known.1.0) (source-formed bytes are known.0)

  retaken-goes : Reads → (s : GatewayAndOutput) (side : Side) (bytes : List ℕ) (r : Result Reading Reason) → reading_on s.shown side bytes ≡ r → AreBytes bytes → Going letters words s (retaken_by s side bytes r)
  retaken-goes reads s side bytes (Ok (Packet packet)) read are = flow-goes s side bytes packet.flow are (read-formed reads s.shown side bytes packet are read)
  retaken-goes reads s side bytes (Ok (Error packet)) read are = error-goes s side bytes packet.flow are
  retaken-goes reads s side bytes (Ok (Arp p)) read are = here s
  retaken-goes reads s side bytes (Ok (Advert a from)) read are = here s
  retaken-goes reads s side bytes (Ok (Asked echo)) read are = echo-goes s side bytes echo are
  retaken-goes reads s side bytes (Err reason) read are = refused-goes s side side bytes reason

  all-goes : Reads → (s : GatewayAndOutput) (ws : List HeldPacket) → AllByRecursion (λ (w : HeldPacket). AreBytes w.bytes) ws → Going letters words s (all_taken s ws)
  all-goes reads s [] all = here s
  all-goes reads s (w ∷ ws) all =
      going-then letters words s (taken_again s w) _
      (retaken-goes reads s w.side w.bytes (reading_on s.shown w.side w.bytes) refl all.0)
      (all-goes reads (taken_again s w) ws all.1)

  pub released-goes : Reads → (s : GatewayAndOutput) (ended : Ended) → Going letters words s (released s ended)
  released-goes reads s ended = λ n h stands is.
      let start = scene (record s.shown { kept = left_by ended s.shown.kept }) s.told in
      going-then letters words s start _
      (going-unseen letters words s start refl refl refl refl refl (λ k. kept-filter _ s.shown.kept k))
      (all-goes reads start (ended_by ended s.shown.kept) (kept-filter _ s.shown.kept is.kept))
      n h stands is
