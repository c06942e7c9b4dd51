-- A relation of scenes that holds of each small part of a taking holds of the taking, and of the takings of all packets
-- whose wait is over.
use Rattle.std.proofs.Common.{◌≡◌, ℕ, Bool, true, false, cond, List, [], ◌∷◌, ◌++◌, Result, Ok, Err, refl}
use Rattle.std.specs.List.{AllByRecursion, filter}
use Rattle.addresses.specs.declared.internet.Ip.{Ip}
use Rattle.addresses.specs.declared.transport.TcpFlags.{TcpFlags}
use Rattle.nat_types.specs.declared.gateways.Side.{Side}
use Rattle.nat_types.specs.declared.gateways.Side.TheVariants.{Inside, Outside}
use Rattle.nat_types.specs.declared.pairs.Endpoint.{Endpoint}
use Rattle.nat_types.specs.declared.pairs.Key.{Key}
use Rattle.arp.specs.Neighbours.{asks_at}
use Rattle.ipv4.specs.declared.flows.Flow.{Flow}
use Rattle.icmp.specs.declared.packets.ErrorFlow.{ErrorFlow}
use Rattle.activity.specs.declared.packets.Packet.{Packet as Carried}
use Rattle.activity.specs.declared.packets.Way.TheVariants as goes
use Rattle.spec_binding.specs.WellFormed.{IsWellFormedEndpoint}
use Rattle.waiting.specs.declared.waits.Ended.{Ended}
use Rattle.waiting.specs.declared.waits.WaitsFor.TheVariants as wait
use Rattle.waiting.specs.Packets.{HeldPacket, asks_again, ended_by, left_by, with_asked}
use Rattle.waiting.specs.Waits.{is_for_pair}
use Rattle.waiting.proofs.Offered.{all-asked, all-room}
use Rattle.interfaces.specs.declared.tallies.Tally.{Tally}
use Rattle.packet_rules.specs.declared.readings.Asked.{Asked as Echo}
use Rattle.packet_rules.specs.declared.readings.Reading.{Reading}
use Rattle.packet_rules.specs.declared.readings.Reading.TheVariants.{Arp, Advert, Packet, Error, Asked}
use Rattle.packet_rules.specs.declared.reasons.Reason.{Reason}
use Rattle.packet_rules.specs.declared.translations.Translation.{Translation}
use Rattle.packet_rules.specs.declared.translations.Translation.TheVariants.{Outward, Inward, Hairpin}
use Rattle.packet_rules.specs.Errors.{passed_frame}
use Rattle.packet_rules.specs.Flows.{source_of}
use Rattle.spec_step.specs.declared.plans.Plan.{Plan}
use Rattle.spec_step.specs.declared.plans.Plan.TheVariants.{Send, Ask, AskAgain, Wait as WaitFor}
use Rattle.spec_step.specs.Machine.{AreBytes, KeepsBytes}
use Rattle.spec_step.specs.Parts.{all_taken, asked_again, by_error_plan, by_error_verdict, by_plan, by_verdict, carried, carried_all, carried_by, echo_taken, error_taken, flags_in, flow_taken, framed, keeping, size_in, refused, released, remote, renewed_behind, request_by, retaken_by, taken_again, wanted_by, wanted_for}
use Rattle.spec_step.specs.Shown.{GatewayAndOutput, scene, station_on}
use Rattle.spec_step.specs.Verdict.{error_hop, error_plan, exit_by, hop_by, plan_of, reading_on}
use Rattle.spec_step.proofs.Own.{Said, echo-by, refusal-by, refused-by, said_scene}
use Rattle.spec_step.proofs.Packets.{Reads, kept-filter, kept-more, read-formed}
use Rattle.spec_step.proofs.Behind.{asked_behind}

-- no packet of the list waits for a pair
abbrev pub NoneForPair : List HeldPacket → Type 0
NoneForPair kept = AllByRecursion (λ (w : HeldPacket). is_for_pair w.wait ≡ false) kept

-- from a scene to a later one no pair is touched, nothing is noted, the clock stands, and no packet comes to wait for a
-- pair
pub record IsUnseen (s s2 : GatewayAndOutput) : Type 0 where
  pub ledger : s2.shown.ledger ≡ s.shown.ledger
  pub link : s2.shown.link ≡ s.shown.link
  pub moment : s2.shown.moment ≡ s.shown.moment
  pub away : s2.shown.away ≡ s.shown.away
  pub notes : s2.told.notes ≡ s.told.notes
  pub kept : KeepsBytes s.shown → KeepsBytes s2.shown
  pub none : NoneForPair s.shown.kept → NoneForPair s2.shown.kept

pub none-more : (ws : List HeldPacket) (x : HeldPacket) → NoneForPair ws → is_for_pair x.wait ≡ false → NoneForPair (ws ++ x ∷ [])
none-more [] x all one = (one, tt)
none-more (w ∷ ws) x all one = (all.0, none-more ws x all.1 one)

pub none-filter : (p : HeldPacket → Bool) (ws : List HeldPacket) → NoneForPair ws → NoneForPair (filter p ws)
none-filter p [] all = tt
none-filter p (w ∷ ws) all = at (p w) (none-filter p ws all.1)
  where
    at : (b : Bool) → NoneForPair (filter p ws) → NoneForPair (let xs : List HeldPacket = cond b (w ∷ filter p ws) (filter p ws) in xs)
    at true rest = (all.0, rest)
    at false rest = rest

hop-unseen : (s : GatewayAndOutput) (side exit : Side) (bytes : List ℕ) (hop : Ip) → AreBytes bytes → IsUnseen s (keeping s side bytes (wait.Hop exit hop))
hop-unseen s side exit bytes hop are = record {
  ledger = refl;
  link = refl;
  moment = refl;
  away = refl;
  notes = refl;
  kept = λ k. kept-more _ _ (all-room (λ (x : HeldPacket). AreBytes x.bytes) (wait.Hop exit hop) s.shown.kept k) are;
  none = λ n. none-more _ _ (all-room (λ (x : HeldPacket). is_for_pair x.wait ≡ false) (wait.Hop exit hop) s.shown.kept n) refl;
}

framed-unseen : (s : GatewayAndOutput) (side : Side) (bytes : List ℕ) → IsUnseen s (framed s side bytes)
framed-unseen s side bytes = record { ledger = refl; link = refl; moment = refl; away = refl; notes = refl; kept = λ k. k; none = λ n. n }

same-unseen : (s : GatewayAndOutput) → IsUnseen s s
same-unseen s = record { ledger = refl; link = refl; moment = refl; away = refl; notes = refl; kept = λ k. k; none = λ n. n }

renewed-unseen : (s : GatewayAndOutput) (exit : Side) (hop : Ip) → IsUnseen s (renewed_behind s exit hop)
renewed-unseen s exit hop = at exit (asks_at hop.0 s.shown.moment (station_on s.shown exit).neighbours)
  where
    at : (side : Side) (b : Bool) → IsUnseen s (asked_behind s side hop b)
    at Inside true = record { ledger = refl; link = refl; moment = refl; away = refl; notes = refl; kept = λ k. k; none = λ n. n }
    at Outside true = record { ledger = refl; link = refl; moment = refl; away = refl; notes = refl; kept = λ k. k; none = λ n. n }
    at Inside false = record { ledger = refl; link = refl; moment = refl; away = refl; notes = refl; kept = λ k. k; none = λ n. n }
    at Outside false = record { ledger = refl; link = refl; moment = refl; away = refl; notes = refl; kept = λ k. k; none = λ n. n }

again-unseen : (s : GatewayAndOutput) (exit : Side) (hop : Ip) → IsUnseen s (asked_again s exit hop)
again-unseen s exit hop = at (asks_again s.shown.moment (wait.Hop exit hop) s.shown.kept)
  where
    at : (b : Bool) → IsUnseen s (let x : GatewayAndOutput = cond b (framed (scene (record s.shown { kept = with_asked s.shown.moment (wait.Hop exit hop) s.shown.kept }) s.told) exit (request_by s.shown exit hop)) s in x)
    at true = record {
      ledger = refl;
      link = refl;
      moment = refl;
      away = refl;
      notes = refl;
      kept = λ k. all-asked (λ (x : HeldPacket). AreBytes x.bytes) (λ w n is. is) s.shown.moment (wait.Hop exit hop) s.shown.kept k;
      none = λ k. all-asked (λ (x : HeldPacket). is_for_pair x.wait ≡ false) (λ w n is. is) s.shown.moment (wait.Hop exit hop) s.shown.kept k;
    }
    at false = same-unseen s

said-unseen : (s : GatewayAndOutput) (side : Side) (frame : List ℕ) (tally : Tally) → IsUnseen s (said_scene s side frame tally)
said-unseen s Inside frame tally = record { ledger = refl; link = refl; moment = refl; away = refl; notes = refl; kept = λ k. k; none = λ n. n }
said-unseen s Outside frame tally = record { ledger = refl; link = refl; moment = refl; away = refl; notes = refl; kept = λ k. k; none = λ n. n }

module _ (P : GatewayAndOutput → GatewayAndOutput → Type 0)
    (join : (a b c : GatewayAndOutput) → P a b → P b c → P a c)
    (unseen : (s s2 : GatewayAndOutput) → IsUnseen s s2 → P s s2)
    (wants : (s : GatewayAndOutput) (e : Endpoint) → IsWellFormedEndpoint e → P s (wanted_by s e))
    (carries : (s : GatewayAndOutput) (k : Key) (p : Carried) → P s (carried_by s k p))
    (waits : (s : GatewayAndOutput) (side : Side) (bytes : List ℕ) (flow : Flow) (e : Endpoint) → AreBytes bytes → IsWellFormedEndpoint (source_of flow) → plan_of s.shown side flow (size_in bytes) ≡ Ok (WaitFor e) → P s (by_plan s side bytes flow (WaitFor e))) where
  nothing : (s : GatewayAndOutput) → P s s
  nothing s = unseen s s (same-unseen s)

  carries-all : (s : GatewayAndOutput) (flow : Flow) (flags : TcpFlags) (by : Translation) → P s (carried_all s flow flags by)
  carries-all s flow flags (Outward p) = carries s p.key _
  carries-all s flow flags (Inward p) = carries s p.key _
  carries-all s flow flags (Hairpin own other) =
      let here = s.shown.networks.outside.interface.virtual_ip in
      let one = carried_by s own.key (carried s.shown (remote here flow.destination_port) goes.Outward flags) in
      join s one _ (carries s own.key _) (carries one other.key _)

  wants-for : (s : GatewayAndOutput) (flow : Flow) (by : Translation) → IsWellFormedEndpoint (source_of flow) → P s (wanted_for s flow by)
  wants-for s flow (Outward p) formed = wants s (source_of flow) formed
  wants-for s flow (Inward p) formed = nothing s
  wants-for s flow (Hairpin own other) formed = wants s (source_of flow) formed

  says : (s : GatewayAndOutput) (side : Side) → Said (λ x. P s x) s side
  says s side = λ frame tally hop.
      let one = said_scene s side frame tally in
      join s one _ (unseen s one (said-unseen s side frame tally)) (unseen one _ (renewed-unseen one side hop))

  plans : (s : GatewayAndOutput) (side : Side) (bytes : List ℕ) (flow : Flow) (plan : Plan) → AreBytes bytes → IsWellFormedEndpoint (source_of flow) → plan_of s.shown side flow (size_in bytes) ≡ Ok plan → P s (by_plan s side bytes flow plan)
  plans s side bytes flow (Send by next) are formed is =
      let one = wanted_for s flow by in
      let two = carried_all (framed one _ _) flow (flags_in bytes) by in
      join s two _
      (join s (framed one _ _) two
      (join s one (framed one _ _) (wants-for s flow by formed) (unseen one _ (framed-unseen one _ _)))
      (carries-all (framed one _ _) flow (flags_in bytes) by))
      (unseen two _ (renewed-unseen two (exit_by by) (hop_by s.shown by flow)))
  plans s side bytes flow (Ask by hop) are formed is =
      let one = wanted_for s flow by in
      let two = keeping one side bytes (wait.Hop (exit_by by) hop) in
      join s two _
      (join s one two (wants-for s flow by formed) (unseen one two (hop-unseen one side (exit_by by) bytes hop are)))
      (unseen two _ (framed-unseen two _ _))
  plans s side bytes flow (AskAgain by hop) are formed is = unseen s _ (again-unseen s (exit_by by) hop)
  plans s side bytes flow (WaitFor e) are formed is = waits s side bytes flow e are formed is

  pub refusals : (s : GatewayAndOutput) (side exit : Side) (bytes : List ℕ) (reason : Reason) → P s (refused s side exit bytes reason)
  refusals s side exit bytes reason = refused-by (λ x. P s x) s side exit bytes (nothing s) (says s side) reason

  pub echoes : (s : GatewayAndOutput) (side : Side) (bytes : List ℕ) (echo : Echo) → AreBytes bytes → P s (echo_taken s side bytes echo)
  echoes s side bytes echo are =
      echo-by (λ x. P s x) s side bytes echo (nothing s) (says s side)
      (λ hop place.
      let one = keeping s side bytes (wait.Hop side hop) in
      join s one _ (unseen s one (hop-unseen s side side bytes hop are)) (unseen one _ (framed-unseen one _ _)))
      (λ hop. unseen s _ (again-unseen s side hop))

  pub flows : (s : GatewayAndOutput) (side : Side) (bytes : List ℕ) (flow : Flow) → AreBytes bytes → IsWellFormedEndpoint (source_of flow) → P s (flow_taken s side bytes flow)
  flows s side bytes flow are formed = at (plan_of s.shown side flow (size_in bytes)) refl
    where
      at : (r : Result Plan Reason) → plan_of s.shown side flow (size_in bytes) ≡ r → P s (by_verdict s side bytes flow r)
      at (Ok plan) is = plans s side bytes flow plan are formed is
      at (Err reason) is = refusal-by (λ x. P s x) s side bytes flow (nothing s) (wants s (source_of flow) formed) (says s side) reason

  error-plans : (s : GatewayAndOutput) (side : Side) (bytes : List ℕ) (flow : ErrorFlow) (plan : Plan) → AreBytes bytes → P s (by_error_plan s side bytes flow plan)
  error-plans s side bytes flow (Send by next) are =
      let one = framed s (exit_by by) (passed_frame s.shown.networks by next bytes) in
      join s one _ (unseen s one (framed-unseen s _ _)) (unseen one _ (renewed-unseen one (exit_by by) (error_hop s.shown by flow)))
  error-plans s side bytes flow (Ask by hop) are =
      let one = keeping s side bytes (wait.Hop (exit_by by) hop) in
      join s one _ (unseen s one (hop-unseen s side (exit_by by) bytes hop are)) (unseen one _ (framed-unseen one _ _))
  error-plans s side bytes flow (AskAgain by hop) are = unseen s _ (again-unseen s (exit_by by) hop)
  error-plans s side bytes flow (WaitFor e) are = nothing s

  pub errors : (s : GatewayAndOutput) (side : Side) (bytes : List ℕ) (flow : ErrorFlow) → AreBytes bytes → P s (error_taken s side bytes flow)
  errors s side bytes flow are = at (error_plan s.shown side flow (size_in bytes))
    where
      at : (r : Result Plan Reason) → P s (by_error_verdict s side bytes flow r)
      at (Ok plan) = error-plans s side bytes flow plan are
      at (Err reason) = nothing s

  takes-again : Reads → (s : GatewayAndOutput) (side : Side) (bytes : List ℕ) (r : Result Reading Reason) → reading_on s.shown side bytes ≡ r → AreBytes bytes → P s (retaken_by s side bytes r)
  takes-again reads s side bytes (Ok (Packet packet)) read are = flows s side bytes packet.flow are (read-formed [] [] reads s.shown side bytes packet are read)
  takes-again reads s side bytes (Ok (Error packet)) read are = errors s side bytes packet.flow are
  takes-again reads s side bytes (Ok (Arp p)) read are = nothing s
  takes-again reads s side bytes (Ok (Advert a from)) read are = nothing s
  takes-again reads s side bytes (Ok (Asked echo)) read are = echoes s side bytes echo are
  takes-again reads s side bytes (Err reason) read are = refusals s side side bytes reason

  -- packets whose wait is over, taken one after another
  pub takes-all : Reads → (s : GatewayAndOutput) (ws : List HeldPacket) → AllByRecursion (λ (w : HeldPacket). AreBytes w.bytes) ws → P s (all_taken s ws)
  takes-all reads s [] all = nothing s
  takes-all reads s (w ∷ ws) all =
      join s (taken_again s w) _
      (takes-again reads s w.side w.bytes (reading_on s.shown w.side w.bytes) refl all.0)
      (takes-all reads (taken_again s w) ws all.1)

  -- the packets whose wait ended
  pub releases : Reads → (s : GatewayAndOutput) (ended : Ended) → KeepsBytes s.shown → P s (released s ended)
  releases reads s ended kept =
      let start = scene (record s.shown { kept = left_by ended s.shown.kept }) s.told in
      join s start _
      (unseen s start (record { ledger = refl; link = refl; moment = refl; away = refl; notes = refl; kept = λ k. kept-filter _ s.shown.kept k; none = λ n. none-filter _ s.shown.kept n }))
      (takes-all reads start (ended_by ended s.shown.kept) (kept-filter _ s.shown.kept kept))
