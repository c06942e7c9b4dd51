use Rattle.std.proofs.Common.{List, length, Ok, Err, ap, refl, sym, ◌∙◌}
use Rattle.nat_types.specs.declared.gateways.Side.{Side}
use Rattle.nat_types.specs.declared.pairs.Endpoint.{Endpoint}
use Rattle.waiting.specs.declared.waits.WaitsFor.TheVariants.{Hop, Pair}
use Rattle.waiting.specs.Packets.{HeldPacket, has_place}
use Rattle.packet_rules.specs.Flows.{source_of}
use Rattle.packet_rules.specs.Networks.{exit_of}
use Rattle.spec_step.specs.declared.plans.Plan.TheVariants.{Send, Ask, AskAgain, Wait as WaitFor}
use Rattle.spec_step.specs.Parts.{asked_again, by_plan, by_refusal}
use Rattle.forwarder.specs.declared.forwarders.Forwarder.{Forwarder}
use Rattle.forwarder.specs.Forwarder.{scene_on, shown_of}
use Rattle.forwarder.proofs.Planning.{plan-holds}
use Rattle.forwarder.specs.Room.{a_packet, a_wish, an_ask}
use Rattle.forwarder.proofs.Taking.{again-as, ask-spends, copied-spends, plan-made, refusal-spends, request-spends, reused-spends, same-places, wait-spends}
use Rattle.forwarder.proofs.forwarders.Forwarder.take_flow_again.Goals as goal

pub send-requires-clause-own : goal.send-requires-clause-own
send-requires-clause-own c =
    let made = plan-made c.in-Ok-Send.is c.in-Ok-Send.field-0-is c.plan.ensures in
    plan-holds (shown_of c.args.self.now) c.side_of.result c.args.reading.flow c.args.reading.size (Ok (Send c.in-Ok-Send.by c.in-Ok-Send.next)) (sym made)

pub ask-requires-clause-own : goal.ask-requires-clause-own
ask-requires-clause-own c =
    let made = plan-made c.in-Ok-Ask.is c.in-Ok-Ask.field-0-is c.plan.ensures in
    let holds = plan-holds (shown_of c.args.self.now) c.side_of.result c.args.reading.flow c.args.reading.size (Ok (Ask c.in-Ok-Ask.by c.in-Ok-Ask.hop)) (sym made) in
    holds.0

pub ask-requires-clause-place : goal.ask-requires-clause-place
ask-requires-clause-place c =
    let made = plan-made c.in-Ok-Ask.is c.in-Ok-Ask.field-0-is c.plan.ensures in
    let holds = plan-holds (shown_of c.args.self.now) c.side_of.result c.args.reading.flow c.args.reading.size (Ok (Ask c.in-Ok-Ask.by c.in-Ok-Ask.hop)) (sym made) in
    let exit = c.exit.ensures ∙ ap exit_of c.direction.ensures in
    ap (λ (w : HeldPacket). has_place c.args.self.now.kept w.wait) c.again-copy.ensures
    ∙ ap (λ (s : Side). has_place c.args.self.now.kept (Hop s c.in-Ok-Ask.hop)) exit
    ∙ holds.1

pub wait-requires-clause-wait : goal.wait-requires-clause-wait
wait-requires-clause-wait c =
    let made = plan-made c.in-Ok-Wait.is c.in-Ok-Wait.field-0-is c.plan.ensures in
    let holds = plan-holds (shown_of c.args.self.now) c.side_of.result c.args.reading.flow c.args.reading.size (Ok (WaitFor c.in-Ok-Wait.endpoint)) (sym made) in
    ap (λ (w : HeldPacket). w.wait) c.again-copy-in-Ok-Wait.ensures ∙ ap Pair holds.1

pub wait-requires-clause-place : goal.wait-requires-clause-place
wait-requires-clause-place c =
    let made = plan-made c.in-Ok-Wait.is c.in-Ok-Wait.field-0-is c.plan.ensures in
    let holds = plan-holds (shown_of c.args.self.now) c.side_of.result c.args.reading.flow c.args.reading.size (Ok (WaitFor c.in-Ok-Wait.endpoint)) (sym made) in
    ap (λ (w : HeldPacket). has_place c.args.self.now.kept w.wait) c.again-copy-in-Ok-Wait.ensures ∙ holds.0

pub returns-in-Ok-Send-clause-scene : goal.returns-in-Ok-Send-clause-scene
returns-in-Ok-Send-clause-scene c =
    let made = plan-made c.in-Ok-Send.is c.in-Ok-Send.field-0-is c.plan.ensures in
    ap (λ (k : List HeldPacket). scene_on (record c.send.new.self { kept = k }) c.send.new.page) c.reuse.ensures.same
    ∙ c.send.ensures.scene c.side_of.result
    ∙ again-as (scene_on c.args.self.now c.args.page.now) c.args.packet c.side_of.result c.bytes_of-in-Ok-Send.result.now c.args.reading (Ok (Send c.in-Ok-Send.by c.in-Ok-Send.next)) c.side_of.ensures c.bytes_of-in-Ok-Send.ensures c.requires.read (sym made)

pub returns-in-Ok-Ask-clause-scene : goal.returns-in-Ok-Ask-clause-scene
returns-in-Ok-Ask-clause-scene c =
    let s = scene_on c.args.self.now c.args.page.now in
    let plan = Ask c.in-Ok-Ask.by c.in-Ok-Ask.hop in
    let made = plan-made c.in-Ok-Ask.is c.in-Ok-Ask.field-0-is c.plan.ensures in
    c.ask.ensures.scene
    ∙ ap (λ (w : HeldPacket). by_plan s w.side w.bytes c.args.reading.flow plan) c.again-copy.ensures
    ∙ ap (λ (x : Side). by_plan s x c.args.packet.bytes c.args.reading.flow plan) (sym c.side_of.ensures)
    ∙ again-as s c.args.packet c.side_of.result c.args.packet.bytes c.args.reading (Ok plan) c.side_of.ensures refl c.requires.read (sym made)

pub returns-in-Ok-AskAgain-clause-scene : goal.returns-in-Ok-AskAgain-clause-scene
returns-in-Ok-AskAgain-clause-scene c =
    let s = scene_on c.args.self.now c.args.page.now in
    let made = plan-made c.in-Ok-AskAgain.is c.in-Ok-AskAgain.field-0-is c.plan.ensures in
    let exit = c.exit-in-Ok-AskAgain.ensures ∙ ap exit_of c.direction-in-Ok-AskAgain.ensures in
    c.ask_again.ensures.scene
    ∙ ap (λ (x : Side). asked_again s x c.in-Ok-AskAgain.hop) exit
    ∙ again-as s c.args.packet c.side_of.result c.args.packet.bytes c.args.reading (Ok (AskAgain c.in-Ok-AskAgain.by c.in-Ok-AskAgain.hop)) c.side_of.ensures refl c.requires.read (sym made)

pub returns-in-Ok-Wait-clause-scene : goal.returns-in-Ok-Wait-clause-scene
returns-in-Ok-Wait-clause-scene c =
    let s = scene_on c.args.self.now c.args.page.now in
    let e = c.in-Ok-Wait.endpoint in
    let made = plan-made c.in-Ok-Wait.is c.in-Ok-Wait.field-0-is c.plan.ensures in
    let holds = plan-holds (shown_of c.args.self.now) c.side_of.result c.args.reading.flow c.args.reading.size (Ok (WaitFor e)) (sym made) in
    c.wait.ensures.scene
    ∙ ap (λ (w : HeldPacket). by_plan s w.side w.bytes c.args.reading.flow (WaitFor (source_of c.args.reading.flow))) c.again-copy-in-Ok-Wait.ensures
    ∙ ap (λ (x : Endpoint). by_plan s c.args.packet.side c.args.packet.bytes c.args.reading.flow (WaitFor x)) (sym holds.1)
    ∙ ap (λ (x : Side). by_plan s x c.args.packet.bytes c.args.reading.flow (WaitFor e)) (sym c.side_of.ensures)
    ∙ again-as s c.args.packet c.side_of.result c.args.packet.bytes c.args.reading (Ok (WaitFor e)) c.side_of.ensures refl c.requires.read (sym made)

pub returns-in-Err-clause-scene : goal.returns-in-Err-clause-scene
returns-in-Err-clause-scene c =
    let s = scene_on c.args.self.now c.args.page.now in
    c.refuse.ensures.scene
    ∙ ap (λ (x : Side). by_refusal s x c.bytes_of-in-Err.result.now c.args.reading.flow c.in-Err.reason) (c.side_of-in-Err.ensures ∙ sym c.side_of.ensures)
    ∙ again-as s c.args.packet c.side_of.result c.bytes_of-in-Err.result.now c.args.reading (Err c.in-Err.reason) c.side_of.ensures c.bytes_of-in-Err.ensures c.requires.read (sym c.in-Err.is ∙ c.plan.ensures)

-- ---- what it takes

pub returns-in-Ok-Send-clause-spends : goal.returns-in-Ok-Send-clause-spends
returns-in-Ok-Send-clause-spends c =
    reused-spends a_packet c.args.self.now c.send.new.self c.args.page.now c.send.new.page _ c.bytes_of-in-Ok-Send.result.now c.args.packet.bytes c.reuse.ensures.same c.bytes_of-in-Ok-Send.ensures c.send.ensures.spends

pub returns-in-Ok-Send-clause-places : goal.returns-in-Ok-Send-clause-places
returns-in-Ok-Send-clause-places c = c.send.ensures.places

pub returns-in-Ok-Ask-clause-spends : goal.returns-in-Ok-Ask-clause-spends
returns-in-Ok-Ask-clause-spends c =
    ask-spends (length c.args.packet.bytes) c.args.self.now c.ask.new.self c.args.page.now c.ask.new.page
    (copied-spends an_ask c.args.self.now c.ask.new.self c.args.page.now c.ask.new.page c.again-copy.result.bytes c.args.packet.bytes (ap (λ (w : HeldPacket). w.bytes) c.again-copy.ensures) c.ask.ensures.spends)

pub returns-in-Ok-Ask-clause-places : goal.returns-in-Ok-Ask-clause-places
returns-in-Ok-Ask-clause-places c = c.ask.ensures.places

pub returns-in-Ok-AskAgain-clause-spends : goal.returns-in-Ok-AskAgain-clause-spends
returns-in-Ok-AskAgain-clause-spends c = request-spends (length c.args.packet.bytes) c.args.self.now c.ask_again.new.self c.args.page.now c.ask_again.new.page c.ask_again.ensures.spends

pub returns-in-Ok-AskAgain-clause-places : goal.returns-in-Ok-AskAgain-clause-places
returns-in-Ok-AskAgain-clause-places c = same-places c.args.self.now c.ask_again.new.self (ap (λ (f : Forwarder). f.link) c.ask_again.ensures.rest)

pub returns-in-Ok-Wait-clause-spends : goal.returns-in-Ok-Wait-clause-spends
returns-in-Ok-Wait-clause-spends c =
    wait-spends (length c.args.packet.bytes) c.args.self.now c.wait.new.self c.args.page.now c.wait.new.page
    (copied-spends a_wish c.args.self.now c.wait.new.self c.args.page.now c.wait.new.page c.again-copy-in-Ok-Wait.result.bytes c.args.packet.bytes (ap (λ (w : HeldPacket). w.bytes) c.again-copy-in-Ok-Wait.ensures) c.wait.ensures.spends)

pub returns-in-Ok-Wait-clause-places : goal.returns-in-Ok-Wait-clause-places
returns-in-Ok-Wait-clause-places c = c.wait.ensures.places

pub returns-in-Err-clause-spends : goal.returns-in-Err-clause-spends
returns-in-Err-clause-spends c = refusal-spends (length c.args.packet.bytes) c.args.self.now c.refuse.new.self c.args.page.now c.refuse.new.page c.refuse.ensures.spends

pub returns-in-Err-clause-places : goal.returns-in-Err-clause-places
returns-in-Err-clause-places c = c.refuse.ensures.places
