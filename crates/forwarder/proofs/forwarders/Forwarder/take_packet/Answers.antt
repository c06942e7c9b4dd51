use Rattle.std.proofs.Common.{◌≡◌, List, length, Ok, Err, ap, sym, ◌∙◌}
use Rattle.nat_types.specs.declared.gateways.Side.{Side}
use Rattle.nat_types.specs.declared.pairs.Endpoint.{Endpoint}
use Rattle.waiting.specs.declared.waits.WaitsFor.TheVariants.{Hop, Pair}
use Rattle.waiting.specs.Packets.{HeldPacket, has_place}
use Rattle.packet_rules.specs.Flows.{source_of}
use Rattle.packet_rules.specs.Networks.{exit_of}
use Rattle.spec_step.specs.declared.plans.Plan.TheVariants.{Send, Ask, AskAgain, Wait as WaitFor}
use Rattle.spec_step.specs.Parts.{asked_again, by_plan}
use Rattle.spec_step.specs.Verdict.{exit_by, outcome_by}
use Rattle.forwarder.specs.declared.forwarders.Forwarder.{Forwarder}
use Rattle.forwarder.specs.Forwarder.{scene_on, shown_of}
use Rattle.forwarder.proofs.Planning.{plan-holds}
use Rattle.forwarder.specs.Room.{a_wish, an_ask}
use Rattle.forwarder.proofs.Taking.{ask-spends, copy-spends, plan-made, refusal-spends, request-spends, same-places, taken-as, wait-spends}
use Rattle.forwarder.proofs.forwarders.Forwarder.take_packet.Goals as goal

pub send-requires-clause-own : goal.send-requires-clause-own
send-requires-clause-own c =
    let made = plan-made c.in-Ok-Send.is c.in-Ok-Send.field-0-is c.plan.ensures in
    plan-holds (shown_of c.args.self.now) c.args.side c.args.packet.flow c.args.packet.size (Ok (Send c.in-Ok-Send.by c.in-Ok-Send.next)) (sym made)

pub ask-requires-clause-own : goal.ask-requires-clause-own
ask-requires-clause-own c =
    let made = plan-made c.in-Ok-Ask.is c.in-Ok-Ask.field-0-is c.plan.ensures in
    let holds = plan-holds (shown_of c.args.self.now) c.args.side c.args.packet.flow c.args.packet.size (Ok (Ask c.in-Ok-Ask.by c.in-Ok-Ask.hop)) (sym made) in
    holds.0

pub ask-requires-clause-place : goal.ask-requires-clause-place
ask-requires-clause-place c =
    let made = plan-made c.in-Ok-Ask.is c.in-Ok-Ask.field-0-is c.plan.ensures in
    let holds = plan-holds (shown_of c.args.self.now) c.args.side c.args.packet.flow c.args.packet.size (Ok (Ask c.in-Ok-Ask.by c.in-Ok-Ask.hop)) (sym made) in
    let exit : c.exit.result ≡ exit_by c.in-Ok-Ask.by = c.exit.ensures ∙ ap exit_of c.direction.ensures in
    ap (λ (k : List HeldPacket). has_place k c.in_ok-copy-in-Ok-Ask.copy.wait) c.in_ok-copy-in-Ok-Ask.ensures.same
    ∙ ap (λ (w : HeldPacket). has_place c.args.self.now.kept w.wait) c.in_ok-copy-in-Ok-Ask.ensures.packet
    ∙ ap (λ (s : Side). has_place c.args.self.now.kept (Hop s c.in-Ok-Ask.hop)) exit
    ∙ holds.1

pub wait-requires-clause-wait : goal.wait-requires-clause-wait
wait-requires-clause-wait c =
    let made = plan-made c.in-Ok-Wait.is c.in-Ok-Wait.field-0-is c.plan.ensures in
    let holds = plan-holds (shown_of c.args.self.now) c.args.side c.args.packet.flow c.args.packet.size (Ok (WaitFor c.in-Ok-Wait.endpoint)) (sym made) in
    ap (λ (w : HeldPacket). w.wait) c.in_ok-copy-in-Ok-Wait.ensures.packet ∙ ap Pair holds.1

pub wait-requires-clause-place : goal.wait-requires-clause-place
wait-requires-clause-place c =
    let made = plan-made c.in-Ok-Wait.is c.in-Ok-Wait.field-0-is c.plan.ensures in
    let holds = plan-holds (shown_of c.args.self.now) c.args.side c.args.packet.flow c.args.packet.size (Ok (WaitFor c.in-Ok-Wait.endpoint)) (sym made) in
    ap (λ (k : List HeldPacket). has_place k c.in_ok-copy-in-Ok-Wait.copy.wait) c.in_ok-copy-in-Ok-Wait.ensures.same
    ∙ ap (λ (w : HeldPacket). has_place c.args.self.now.kept w.wait) c.in_ok-copy-in-Ok-Wait.ensures.packet ∙ holds.0

pub returns-in-Ok-Send-clause-scene : goal.returns-in-Ok-Send-clause-scene
returns-in-Ok-Send-clause-scene c =
    let made = plan-made c.in-Ok-Send.is c.in-Ok-Send.field-0-is c.plan.ensures in
    c.send.ensures.scene c.args.side ∙ taken-as (scene_on c.args.self.now c.args.page.now) c.args.side c.args.bytes.now c.args.packet (Ok (Send c.in-Ok-Send.by c.in-Ok-Send.next)) c.requires.read (sym made)

pub returns-in_ok-copy-in-Ok-Wait-clause-scene : goal.returns-in_ok-copy-in-Ok-Wait-clause-scene
returns-in_ok-copy-in-Ok-Wait-clause-scene c =
    let s = scene_on c.args.self.now c.args.page.now in
    let e = c.in-Ok-Wait.endpoint in
    let made = plan-made c.in-Ok-Wait.is c.in-Ok-Wait.field-0-is c.plan.ensures in
    let holds = plan-holds (shown_of c.args.self.now) c.args.side c.args.packet.flow c.args.packet.size (Ok (WaitFor e)) (sym made) in
    c.wait.ensures.scene
    ∙ ap (λ (k : List HeldPacket). (let w = c.in_ok-copy-in-Ok-Wait.copy in by_plan (scene_on (record c.args.self.now { kept = k }) c.args.page.now) w.side w.bytes c.args.packet.flow (WaitFor (source_of c.args.packet.flow)))) c.in_ok-copy-in-Ok-Wait.ensures.same
    ∙ ap (λ (w : HeldPacket). by_plan s w.side w.bytes c.args.packet.flow (WaitFor (source_of c.args.packet.flow))) c.in_ok-copy-in-Ok-Wait.ensures.packet
    ∙ ap (λ (x : Endpoint). by_plan s c.args.side c.args.bytes.now c.args.packet.flow (WaitFor x)) (sym holds.1)
    ∙ taken-as s c.args.side c.args.bytes.now c.args.packet (Ok (WaitFor e)) c.requires.read (sym made)

pub returns-in_ok-copy-in-Ok-Ask-clause-scene : goal.returns-in_ok-copy-in-Ok-Ask-clause-scene
returns-in_ok-copy-in-Ok-Ask-clause-scene c =
    let s = scene_on c.args.self.now c.args.page.now in
    let plan = Ask c.in-Ok-Ask.by c.in-Ok-Ask.hop in
    let made = plan-made c.in-Ok-Ask.is c.in-Ok-Ask.field-0-is c.plan.ensures in
    c.ask.ensures.scene
    ∙ ap (λ (k : List HeldPacket). (let w = c.in_ok-copy-in-Ok-Ask.copy in by_plan (scene_on (record c.args.self.now { kept = k }) c.args.page.now) w.side w.bytes c.args.packet.flow plan)) c.in_ok-copy-in-Ok-Ask.ensures.same
    ∙ ap (λ (w : HeldPacket). by_plan s w.side w.bytes c.args.packet.flow plan) c.in_ok-copy-in-Ok-Ask.ensures.packet
    ∙ taken-as s c.args.side c.args.bytes.now c.args.packet (Ok plan) c.requires.read (sym made)

pub returns-in-Ok-AskAgain-clause-scene : goal.returns-in-Ok-AskAgain-clause-scene
returns-in-Ok-AskAgain-clause-scene c =
    let s = scene_on c.args.self.now c.args.page.now in
    let made = plan-made c.in-Ok-AskAgain.is c.in-Ok-AskAgain.field-0-is c.plan.ensures in
    let exit = c.exit-in-Ok-AskAgain.ensures ∙ ap exit_of c.direction-in-Ok-AskAgain.ensures in
    c.ask_again.ensures.scene
    ∙ ap (λ (x : Side). asked_again s x c.in-Ok-AskAgain.hop) exit
    ∙ taken-as s c.args.side c.args.bytes.now c.args.packet (Ok (AskAgain c.in-Ok-AskAgain.by c.in-Ok-AskAgain.hop)) c.requires.read (sym made)

pub returns-in-Err-clause-scene : goal.returns-in-Err-clause-scene
returns-in-Err-clause-scene c =
    c.refuse.ensures.scene ∙ taken-as (scene_on c.args.self.now c.args.page.now) c.args.side c.args.bytes.now c.args.packet (Err c.in-Err.reason) c.requires.read (sym c.in-Err.is ∙ c.plan.ensures)

-- ---- what comes of it

pub returns-in-Ok-Send-clause-outcome : goal.returns-in-Ok-Send-clause-outcome
returns-in-Ok-Send-clause-outcome c = sym (ap outcome_by (plan-made c.in-Ok-Send.is c.in-Ok-Send.field-0-is c.plan.ensures))

pub returns-in_ok-copy-in-Ok-Ask-clause-outcome : goal.returns-in_ok-copy-in-Ok-Ask-clause-outcome
returns-in_ok-copy-in-Ok-Ask-clause-outcome c = sym (ap outcome_by (plan-made c.in-Ok-Ask.is c.in-Ok-Ask.field-0-is c.plan.ensures))

pub returns-in-Ok-AskAgain-clause-outcome : goal.returns-in-Ok-AskAgain-clause-outcome
returns-in-Ok-AskAgain-clause-outcome c = sym (ap outcome_by (plan-made c.in-Ok-AskAgain.is c.in-Ok-AskAgain.field-0-is c.plan.ensures))

pub returns-in_ok-copy-in-Ok-Wait-clause-outcome : goal.returns-in_ok-copy-in-Ok-Wait-clause-outcome
returns-in_ok-copy-in-Ok-Wait-clause-outcome c = sym (ap outcome_by (plan-made c.in-Ok-Wait.is c.in-Ok-Wait.field-0-is c.plan.ensures))

pub returns-in-Err-clause-outcome : goal.returns-in-Err-clause-outcome
returns-in-Err-clause-outcome c = ap outcome_by (sym c.in-Err.is ∙ c.plan.ensures)

-- ---- what it takes

pub returns-in-Ok-Send-clause-spends : goal.returns-in-Ok-Send-clause-spends
returns-in-Ok-Send-clause-spends c = c.send.ensures.spends

pub returns-in-Ok-Send-clause-places : goal.returns-in-Ok-Send-clause-places
returns-in-Ok-Send-clause-places c = c.send.ensures.places

pub returns-in_ok-copy-in-Ok-Ask-clause-spends : goal.returns-in_ok-copy-in-Ok-Ask-clause-spends
returns-in_ok-copy-in-Ok-Ask-clause-spends c =
    let copy = c.in_ok-copy-in-Ok-Ask in
    ask-spends (length c.args.bytes.now) c.args.self.now c.ask.new.self c.args.page.now c.ask.new.page
    (copy-spends an_ask c.args.self.now c.ask.new.self c.args.page.now c.ask.new.page _ copy.copy.bytes c.args.bytes.now copy.ensures.same (ap (λ (w : HeldPacket). w.bytes) copy.ensures.packet) c.ask.ensures.spends)

pub returns-in_ok-copy-in-Ok-Ask-clause-places : goal.returns-in_ok-copy-in-Ok-Ask-clause-places
returns-in_ok-copy-in-Ok-Ask-clause-places c = c.ask.ensures.places

pub returns-in-Ok-AskAgain-clause-spends : goal.returns-in-Ok-AskAgain-clause-spends
returns-in-Ok-AskAgain-clause-spends c = request-spends (length c.args.bytes.now) c.args.self.now c.ask_again.new.self c.args.page.now c.ask_again.new.page c.ask_again.ensures.spends

pub returns-in-Ok-AskAgain-clause-places : goal.returns-in-Ok-AskAgain-clause-places
returns-in-Ok-AskAgain-clause-places c = same-places c.args.self.now c.ask_again.new.self (ap (λ (f : Forwarder). f.link) c.ask_again.ensures.rest)

pub returns-in_ok-copy-in-Ok-Wait-clause-spends : goal.returns-in_ok-copy-in-Ok-Wait-clause-spends
returns-in_ok-copy-in-Ok-Wait-clause-spends c =
    let copy = c.in_ok-copy-in-Ok-Wait in
    wait-spends (length c.args.bytes.now) c.args.self.now c.wait.new.self c.args.page.now c.wait.new.page
    (copy-spends a_wish c.args.self.now c.wait.new.self c.args.page.now c.wait.new.page _ copy.copy.bytes c.args.bytes.now copy.ensures.same (ap (λ (w : HeldPacket). w.bytes) copy.ensures.packet) c.wait.ensures.spends)

pub returns-in_ok-copy-in-Ok-Wait-clause-places : goal.returns-in_ok-copy-in-Ok-Wait-clause-places
returns-in_ok-copy-in-Ok-Wait-clause-places c = c.wait.ensures.places

pub returns-in-Err-clause-spends : goal.returns-in-Err-clause-spends
returns-in-Err-clause-spends c = refusal-spends (length c.args.bytes.now) c.args.self.now c.refuse.new.self c.args.page.now c.refuse.new.page c.refuse.ensures.spends

pub returns-in-Err-clause-places : goal.returns-in-Err-clause-places
returns-in-Err-clause-places c = c.refuse.ensures.places
