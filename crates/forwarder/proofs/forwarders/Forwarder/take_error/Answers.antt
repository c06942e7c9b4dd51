use Rattle.std.proofs.Common.{◌≡◌, List, length, Ok, Err, ap, sym, ◌∙◌}
use Rattle.nat_types.specs.declared.gateways.Side.{Side}
use Rattle.waiting.specs.declared.waits.WaitsFor.TheVariants.{Hop}
use Rattle.waiting.specs.Packets.{HeldPacket, has_place}
use Rattle.packet_rules.specs.Networks.{exit_of}
use Rattle.spec_step.specs.declared.plans.Plan.TheVariants.{Send, Ask, AskAgain, Wait as WaitFor}
use Rattle.spec_step.specs.Parts.{asked_again, by_error_plan}
use Rattle.spec_step.specs.Verdict.{exit_by, outcome_by}
use Rattle.forwarder.specs.declared.forwarders.Forwarder.{Forwarder}
use Rattle.forwarder.specs.Forwarder.{scene_on, shown_of}
use Rattle.forwarder.proofs.Planning.{error-plan-holds}
use Rattle.forwarder.specs.Room.{frames_alone}
use Rattle.forwarder.proofs.Taking.{again-spends, copy-spends, error-taken-as, plan-made}
use Rattle.forwarder.proofs.forwarders.Forwarder.take_error.Goals as goal

pub ask_for_error-requires-clause-place : goal.ask_for_error-requires-clause-place
ask_for_error-requires-clause-place c =
    let made = plan-made c.in-Ok-Ask.is c.in-Ok-Ask.field-0-is c.plan_error.ensures in
    let holds = error-plan-holds (shown_of c.args.self.now) c.args.side c.args.packet.flow c.args.packet.size (Ok (Ask c.in-Ok-Ask.by c.in-Ok-Ask.hop)) (sym made) in
    let exit : c.exit.result ≡ exit_by c.in-Ok-Ask.by = c.exit.ensures ∙ ap exit_of c.direction.ensures in
    ap (λ (k : List HeldPacket). has_place k c.in_ok-copy-in-Ok-Ask.copy.wait) c.in_ok-copy-in-Ok-Ask.ensures.same
    ∙ ap (λ (w : HeldPacket). has_place c.args.self.now.kept w.wait) c.in_ok-copy-in-Ok-Ask.ensures.packet
    ∙ ap (λ (s : Side). has_place c.args.self.now.kept (Hop s c.in-Ok-Ask.hop)) exit
    ∙ holds

-- no error waits for a pair
pub unreachable-requires : goal.unreachable-requires
unreachable-requires c =
    let made = plan-made c.in-Ok-Wait.is c.in-Ok-Wait.field-0-is c.plan_error.ensures in
    error-plan-holds (shown_of c.args.self.now) c.args.side c.args.packet.flow c.args.packet.size (Ok (WaitFor c.in-Ok-Wait.field-0-0)) (sym made)

pub returns-in-Ok-Send-clause-scene : goal.returns-in-Ok-Send-clause-scene
returns-in-Ok-Send-clause-scene c =
    let made = plan-made c.in-Ok-Send.is c.in-Ok-Send.field-0-is c.plan_error.ensures in
    c.pass.ensures.scene c.args.side ∙ error-taken-as (scene_on c.args.self.now c.args.page.now) c.args.side c.args.bytes.now c.args.packet (Ok (Send c.in-Ok-Send.by c.in-Ok-Send.next)) c.requires.read (sym made)

pub returns-in_ok-copy-in-Ok-Ask-clause-scene : goal.returns-in_ok-copy-in-Ok-Ask-clause-scene
returns-in_ok-copy-in-Ok-Ask-clause-scene c =
    let s = scene_on c.args.self.now c.args.page.now in
    let plan = Ask c.in-Ok-Ask.by c.in-Ok-Ask.hop in
    let made = plan-made c.in-Ok-Ask.is c.in-Ok-Ask.field-0-is c.plan_error.ensures in
    c.ask_for_error.ensures.scene
    ∙ ap (λ (k : List HeldPacket). (let w = c.in_ok-copy-in-Ok-Ask.copy in by_error_plan (scene_on (record c.args.self.now { kept = k }) c.args.page.now) w.side w.bytes c.args.packet.flow plan)) c.in_ok-copy-in-Ok-Ask.ensures.same
    ∙ ap (λ (w : HeldPacket). by_error_plan s w.side w.bytes c.args.packet.flow plan) c.in_ok-copy-in-Ok-Ask.ensures.packet
    ∙ error-taken-as s c.args.side c.args.bytes.now c.args.packet (Ok plan) c.requires.read (sym made)

pub returns-in-Ok-AskAgain-clause-scene : goal.returns-in-Ok-AskAgain-clause-scene
returns-in-Ok-AskAgain-clause-scene c =
    let s = scene_on c.args.self.now c.args.page.now in
    let made = plan-made c.in-Ok-AskAgain.is c.in-Ok-AskAgain.field-0-is c.plan_error.ensures in
    let exit = c.exit-in-Ok-AskAgain.ensures ∙ ap exit_of c.direction-in-Ok-AskAgain.ensures in
    c.ask_again.ensures.scene
    ∙ ap (λ (x : Side). asked_again s x c.in-Ok-AskAgain.hop) exit
    ∙ error-taken-as s c.args.side c.args.bytes.now c.args.packet (Ok (AskAgain c.in-Ok-AskAgain.by c.in-Ok-AskAgain.hop)) c.requires.read (sym made)

pub returns-in-Err-clause-scene : goal.returns-in-Err-clause-scene
returns-in-Err-clause-scene c = error-taken-as (scene_on c.args.self.now c.args.page.now) c.args.side c.args.bytes.now c.args.packet (Err c.in-Err.reason) c.requires.read (sym c.in-Err.is ∙ c.plan_error.ensures)

-- ---- what comes of it

pub returns-in-Ok-Send-clause-outcome : goal.returns-in-Ok-Send-clause-outcome
returns-in-Ok-Send-clause-outcome c = sym (ap outcome_by (plan-made c.in-Ok-Send.is c.in-Ok-Send.field-0-is c.plan_error.ensures))

pub returns-in_ok-copy-in-Ok-Ask-clause-outcome : goal.returns-in_ok-copy-in-Ok-Ask-clause-outcome
returns-in_ok-copy-in-Ok-Ask-clause-outcome c = sym (ap outcome_by (plan-made c.in-Ok-Ask.is c.in-Ok-Ask.field-0-is c.plan_error.ensures))

pub returns-in-Ok-AskAgain-clause-outcome : goal.returns-in-Ok-AskAgain-clause-outcome
returns-in-Ok-AskAgain-clause-outcome c = sym (ap outcome_by (plan-made c.in-Ok-AskAgain.is c.in-Ok-AskAgain.field-0-is c.plan_error.ensures))

pub returns-in-Err-clause-outcome : goal.returns-in-Err-clause-outcome
returns-in-Err-clause-outcome c = ap outcome_by (sym c.in-Err.is ∙ c.plan_error.ensures)

-- ---- what it takes

pub returns-in-Ok-Send-clause-link : goal.returns-in-Ok-Send-clause-link
returns-in-Ok-Send-clause-link c = c.pass.ensures.link

pub returns-in-Ok-Send-clause-spends : goal.returns-in-Ok-Send-clause-spends
returns-in-Ok-Send-clause-spends c = c.pass.ensures.spends

pub returns-in_ok-copy-in-Ok-Ask-clause-spends : goal.returns-in_ok-copy-in-Ok-Ask-clause-spends
returns-in_ok-copy-in-Ok-Ask-clause-spends c =
    let copy = c.in_ok-copy-in-Ok-Ask in
    copy-spends (frames_alone 2) c.args.self.now c.ask_for_error.new.self c.args.page.now c.ask_for_error.new.page _ copy.copy.bytes c.args.bytes.now copy.ensures.same (ap (λ (w : HeldPacket). w.bytes) copy.ensures.packet) c.ask_for_error.ensures.spends

pub returns-in-Ok-AskAgain-clause-link : goal.returns-in-Ok-AskAgain-clause-link
returns-in-Ok-AskAgain-clause-link c = ap (λ (f : Forwarder). f.link) c.ask_again.ensures.rest

pub returns-in-Ok-AskAgain-clause-spends : goal.returns-in-Ok-AskAgain-clause-spends
returns-in-Ok-AskAgain-clause-spends c = again-spends (length c.args.bytes.now) c.args.self.now c.ask_again.new.self c.args.page.now c.ask_again.new.page c.ask_again.ensures.spends
