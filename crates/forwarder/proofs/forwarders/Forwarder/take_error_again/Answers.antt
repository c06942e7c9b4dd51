use Rattle.std.proofs.Common.{List, length, Ok, Err, ap, refl, sym, ◌∙◌}
use Rattle.nat_types.specs.declared.gateways.Side.{Side}
use Rattle.waiting.specs.declared.waits.WaitsFor.TheVariants.{Hop}
use Rattle.waiting.specs.Packets.{HeldPacket, has_place}
use Rattle.packet_rules.specs.Networks.{exit_of}
use Rattle.spec_step.specs.declared.plans.Plan.TheVariants.{Send, Ask, AskAgain, Wait as WaitFor}
use Rattle.spec_step.specs.Parts.{asked_again, by_error_plan}
use Rattle.forwarder.specs.declared.forwarders.Forwarder.{Forwarder}
use Rattle.forwarder.specs.Forwarder.{scene_on, shown_of}
use Rattle.forwarder.proofs.Planning.{error-plan-holds}
use Rattle.forwarder.specs.Room.{frames_alone}
use Rattle.forwarder.proofs.Taking.{again-spends, copied-spends, error-again-as, plan-made, reused-spends}
use Rattle.forwarder.proofs.forwarders.Forwarder.take_error_again.Goals as goal

pub ask_for_error-requires-clause-place : goal.ask_for_error-requires-clause-place
ask_for_error-requires-clause-place c =
    let made = plan-made c.in-Ok-Ask.is c.in-Ok-Ask.field-0-is c.plan_error.ensures in
    let holds = error-plan-holds (shown_of c.args.self.now) c.side_of.result c.args.reading.flow c.args.reading.size (Ok (Ask c.in-Ok-Ask.by c.in-Ok-Ask.hop)) (sym made) in
    let exit = c.exit.ensures ∙ ap exit_of c.direction.ensures in
    ap (λ (w : HeldPacket). has_place c.args.self.now.kept w.wait) c.again-copy.ensures
    ∙ ap (λ (s : Side). has_place c.args.self.now.kept (Hop s c.in-Ok-Ask.hop)) exit
    ∙ holds

-- no error waits for a pair
pub unreachable-requires : goal.unreachable-requires
unreachable-requires c =
    let made = plan-made c.in-Ok-Wait.is c.in-Ok-Wait.field-0-is c.plan_error.ensures in
    error-plan-holds (shown_of c.args.self.now) c.side_of.result c.args.reading.flow c.args.reading.size (Ok (WaitFor c.in-Ok-Wait.field-0-0)) (sym made)

pub returns-in-Ok-Send-clause-scene : goal.returns-in-Ok-Send-clause-scene
returns-in-Ok-Send-clause-scene c =
    let made = plan-made c.in-Ok-Send.is c.in-Ok-Send.field-0-is c.plan_error.ensures in
    ap (λ (k : List HeldPacket). scene_on (record c.pass.new.self { kept = k }) c.pass.new.page) c.reuse.ensures.same
    ∙ c.pass.ensures.scene c.side_of.result
    ∙ error-again-as (scene_on c.args.self.now c.args.page.now) c.args.packet c.side_of.result c.bytes_of.result.now c.args.reading (Ok (Send c.in-Ok-Send.by c.in-Ok-Send.next)) c.side_of.ensures c.bytes_of.ensures c.requires.read (sym made)

pub returns-in-Ok-Ask-clause-scene : goal.returns-in-Ok-Ask-clause-scene
returns-in-Ok-Ask-clause-scene c =
    let s = scene_on c.args.self.now c.args.page.now in
    let plan = Ask c.in-Ok-Ask.by c.in-Ok-Ask.hop in
    let made = plan-made c.in-Ok-Ask.is c.in-Ok-Ask.field-0-is c.plan_error.ensures in
    c.ask_for_error.ensures.scene
    ∙ ap (λ (w : HeldPacket). by_error_plan s w.side w.bytes c.args.reading.flow plan) c.again-copy.ensures
    ∙ ap (λ (x : Side). by_error_plan s x c.args.packet.bytes c.args.reading.flow plan) (sym c.side_of.ensures)
    ∙ error-again-as s c.args.packet c.side_of.result c.args.packet.bytes c.args.reading (Ok plan) c.side_of.ensures refl c.requires.read (sym made)

pub returns-in-Ok-AskAgain-clause-scene : goal.returns-in-Ok-AskAgain-clause-scene
returns-in-Ok-AskAgain-clause-scene c =
    let s = scene_on c.args.self.now c.args.page.now in
    let made = plan-made c.in-Ok-AskAgain.is c.in-Ok-AskAgain.field-0-is c.plan_error.ensures in
    let exit = c.exit-in-Ok-AskAgain.ensures ∙ ap exit_of c.direction-in-Ok-AskAgain.ensures in
    c.ask_again.ensures.scene
    ∙ ap (λ (x : Side). asked_again s x c.in-Ok-AskAgain.hop) exit
    ∙ error-again-as s c.args.packet c.side_of.result c.args.packet.bytes c.args.reading (Ok (AskAgain c.in-Ok-AskAgain.by c.in-Ok-AskAgain.hop)) c.side_of.ensures refl c.requires.read (sym made)

pub returns-in-Err-clause-scene : goal.returns-in-Err-clause-scene
returns-in-Err-clause-scene c =
    error-again-as (scene_on c.args.self.now c.args.page.now) c.args.packet c.side_of.result c.args.packet.bytes c.args.reading (Err c.in-Err.field-0) c.side_of.ensures refl c.requires.read (sym c.in-Err.is ∙ c.plan_error.ensures)

-- ---- what it takes

pub returns-in-Ok-Send-clause-link : goal.returns-in-Ok-Send-clause-link
returns-in-Ok-Send-clause-link c = c.pass.ensures.link

pub returns-in-Ok-Send-clause-spends : goal.returns-in-Ok-Send-clause-spends
returns-in-Ok-Send-clause-spends c =
    reused-spends (frames_alone 2) c.args.self.now c.pass.new.self c.args.page.now c.pass.new.page _ c.bytes_of.result.now c.args.packet.bytes c.reuse.ensures.same c.bytes_of.ensures c.pass.ensures.spends

pub returns-in-Ok-Ask-clause-spends : goal.returns-in-Ok-Ask-clause-spends
returns-in-Ok-Ask-clause-spends c =
    copied-spends (frames_alone 2) c.args.self.now c.ask_for_error.new.self c.args.page.now c.ask_for_error.new.page c.again-copy.result.bytes c.args.packet.bytes (ap (λ (w : HeldPacket). w.bytes) c.again-copy.ensures) c.ask_for_error.ensures.spends

pub returns-in-Ok-AskAgain-clause-link : goal.returns-in-Ok-AskAgain-clause-link
returns-in-Ok-AskAgain-clause-link c = ap (λ (f : Forwarder). f.link) c.ask_again.ensures.rest

pub returns-in-Ok-AskAgain-clause-spends : goal.returns-in-Ok-AskAgain-clause-spends
returns-in-Ok-AskAgain-clause-spends c = again-spends (length c.args.packet.bytes) c.args.self.now c.ask_again.new.self c.args.page.now c.ask_again.new.page c.ask_again.ensures.spends
