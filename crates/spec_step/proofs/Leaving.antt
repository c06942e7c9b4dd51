-- An error, and what a gateway says itself, leave the pairs as they are.
use Rattle.std.proofs.Common.{◌≡◌, ap, ℕ, Bool, true, false, cond, List, Result, Ok, Err, refl, ◌∙◌}
use Rattle.addresses.specs.declared.internet.Ip.{Ip}
use Rattle.nat_types.specs.declared.gateways.Side.{Side}
use Rattle.nat_types.specs.declared.gateways.Side.TheVariants.{Inside, Outside}
use Rattle.arp.specs.Neighbours.{asks_at}
use Rattle.ipv4.specs.declared.flows.Flow.{Flow}
use Rattle.icmp.specs.declared.packets.ErrorFlow.{ErrorFlow}
use Rattle.waiting.specs.declared.waits.WaitsFor.TheVariants as wait
use Rattle.waiting.specs.Packets.{asks_again, with_asked}
use Rattle.packet_rules.specs.declared.readings.Asked.{Asked as Echo}
use Rattle.packet_rules.specs.declared.reasons.Reason.{Reason}
use Rattle.packet_rules.specs.declared.reasons.Reason.TheVariants.{TooLong}
use Rattle.interfaces.specs.declared.tallies.Tally.{Tally}
use Rattle.packet_rules.specs.Errors.{passed_frame}
use Rattle.spec_step.specs.declared.plans.Plan.{Plan}
use Rattle.spec_step.specs.declared.plans.Plan.TheVariants.{Send, Ask, AskAgain, Wait as WaitFor}
use Rattle.spec_step.specs.Parts.{asked_again, by_error_plan, by_error_verdict, by_verdict, echo_taken, error_taken, flow_taken, framed, size_in, refused, renewed_behind, request_by}
use Rattle.spec_step.specs.PassedOn.{ChangesLittle, LeavesPairs}
use Rattle.spec_step.specs.Shown.{GatewayAndOutput, scene, station_on}
use Rattle.spec_step.specs.Verdict.{error_hop, error_plan, exit_by, plan_of}
use Rattle.spec_step.proofs.Own.{Said, echo-by, exit_in, refused-by, said_scene}
use Rattle.spec_step.proofs.Behind.{asked_behind, sent_to, known-sent}

here : (s : GatewayAndOutput) → LeavesPairs s s
here s = record { ledger = refl; link = refl; notes = refl; datagrams = refl }

joined : (a b c : GatewayAndOutput) → LeavesPairs a b → LeavesPairs b c → LeavesPairs a c
joined a b c x y = record { ledger = y.ledger ∙ x.ledger; link = y.link ∙ x.link; notes = y.notes ∙ x.notes; datagrams = y.datagrams ∙ x.datagrams }

renewed-leaves : (s : GatewayAndOutput) (exit : Side) (hop : Ip) → LeavesPairs s (renewed_behind s exit hop)
renewed-leaves s exit hop = at exit (asks_at hop.0 s.shown.moment (station_on s.shown exit).neighbours)
  where
    at : (side : Side) (b : Bool) → LeavesPairs s (asked_behind s side hop b)
    at Inside true = record { ledger = refl; link = refl; notes = refl; datagrams = refl }
    at Outside true = record { ledger = refl; link = refl; notes = refl; datagrams = refl }
    at Inside false = record { ledger = refl; link = refl; notes = refl; datagrams = refl }
    at Outside false = record { ledger = refl; link = refl; notes = refl; datagrams = refl }

again-leaves : (s : GatewayAndOutput) (exit : Side) (hop : Ip) → LeavesPairs s (asked_again s exit hop)
again-leaves s exit hop = at (asks_again s.shown.moment (wait.Hop exit hop) s.shown.kept)
  where
    at : (b : Bool) → LeavesPairs s (let x : GatewayAndOutput = cond b (framed (scene (record s.shown { kept = with_asked s.shown.moment (wait.Hop exit hop) s.shown.kept }) s.told) exit (request_by s.shown exit hop)) s in x)
    at true = record { ledger = refl; link = refl; notes = refl; datagrams = refl }
    at false = here s

plan-leaves : (s : GatewayAndOutput) (side : Side) (bytes : List ℕ) (flow : ErrorFlow) (plan : Plan) → LeavesPairs s (by_error_plan s side bytes flow plan)
plan-leaves s side bytes flow (Send by next) =
    let one = framed s (exit_by by) (passed_frame s.shown.networks by next bytes) in
    joined s one _ (record { ledger = refl; link = refl; notes = refl; datagrams = refl }) (renewed-leaves one (exit_by by) (error_hop s.shown by flow))
plan-leaves s side bytes flow (Ask by hop) = record { ledger = refl; link = refl; notes = refl; datagrams = refl }
plan-leaves s side bytes flow (AskAgain by hop) = again-leaves s (exit_by by) hop
plan-leaves s side bytes flow (WaitFor e) = here s

pub error-leaves : (s : GatewayAndOutput) (side : Side) (bytes : List ℕ) (flow : ErrorFlow) → LeavesPairs s (error_taken s side bytes flow)
error-leaves s side bytes flow = at (error_plan s.shown side flow (size_in bytes))
  where
    at : (r : Result Plan Reason) → LeavesPairs s (by_error_verdict s side bytes flow r)
    at (Ok plan) = plan-leaves s side bytes flow plan
    at (Err reason) = here s

-- ---- what a gateway says itself

said-leaves : (s : GatewayAndOutput) (side : Side) → Said (λ x. LeavesPairs s x) s side
said-leaves s Inside = λ frame tally hop.
    let one = said_scene s Inside frame tally in
    joined s one _ (record { ledger = refl; link = refl; notes = refl; datagrams = refl }) (renewed-leaves one Inside hop)
said-leaves s Outside = λ frame tally hop.
    let one = said_scene s Outside frame tally in
    joined s one _ (record { ledger = refl; link = refl; notes = refl; datagrams = refl }) (renewed-leaves one Outside hop)

pub refused-leave : (s : GatewayAndOutput) (side exit : Side) (bytes : List ℕ) (reason : Reason) → LeavesPairs s (refused s side exit bytes reason)
refused-leave s side exit bytes reason = refused-by (λ x. LeavesPairs s x) s side exit bytes (here s) (said-leaves s side) reason

pub echo-leave : (s : GatewayAndOutput) (side : Side) (bytes : List ℕ) (echo : Echo) → LeavesPairs s (echo_taken s side bytes echo)
echo-leave s side bytes echo =
    echo-by (λ x. LeavesPairs s x) s side bytes echo (here s) (said-leaves s side)
    (λ hop place. record { ledger = refl; link = refl; notes = refl; datagrams = refl })
    (λ hop. again-leaves s side hop)

changed-here : (s : GatewayAndOutput) → ChangesLittle s.shown s.shown
changed-here s = record { known = refl; stopped = refl; away = refl; ledger = refl; link = refl; kept = refl; inside = refl; outside = refl }

said-changes : (s : GatewayAndOutput) (side : Side) → Said (λ x. ChangesLittle s.shown x.shown) s side
said-changes s side = λ frame tally hop. at side frame tally hop (asks_at hop.0 (said_scene s side frame tally).shown.moment (station_on (said_scene s side frame tally).shown side).neighbours)
  where
    -- a frame of the gateway's own was sent to a neighbour, and counted
    sent : (side : Side) (frame : List ℕ) (tally : Tally) (hop : Ip) → ChangesLittle s.shown (sent_to (said_scene s side frame tally) side hop).shown
    sent Inside frame tally hop = record {
      known = known-sent s.shown Inside hop;
      stopped = refl;
      away = refl;
      ledger = refl;
      link = refl;
      kept = refl;
      inside = refl;
      outside = refl;
    }
    sent Outside frame tally hop = record {
      known = known-sent s.shown Outside hop;
      stopped = refl;
      away = refl;
      ledger = refl;
      link = refl;
      kept = refl;
      inside = refl;
      outside = refl;
    }

    at : (side : Side) (frame : List ℕ) (tally : Tally) (hop : Ip) (b : Bool) → ChangesLittle s.shown (asked_behind (said_scene s side frame tally) side hop b).shown
    at side frame tally hop true = sent side frame tally hop
    at side frame tally hop false = sent side frame tally hop

pub refused-changes : (s : GatewayAndOutput) (side exit : Side) (bytes : List ℕ) (reason : Reason) → ChangesLittle s.shown (refused s side exit bytes reason).shown
refused-changes s side exit bytes reason = refused-by (λ x. ChangesLittle s.shown x.shown) s side exit bytes (changed-here s) (said-changes s side) reason

pub long-refused : (s : GatewayAndOutput) (side : Side) (bytes : List ℕ) (flow : Flow) → plan_of s.shown side flow (size_in bytes) ≡ Err TooLong → flow_taken s side bytes flow ≡ refused s side (exit_in s side flow) bytes TooLong
long-refused s side bytes flow is = ap (by_verdict s side bytes flow) is
