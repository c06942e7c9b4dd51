use Rattle.std.proofs.Common.{List, length, Ok, Err, ap, sym, ◌∙◌}
use Rattle.waiting.specs.Packets.{HeldPacket, has_place}
use Rattle.spec_step.specs.declared.plans.Reply.TheVariants.{Send, Ask, AskAgain}
use Rattle.spec_step.specs.Parts.{by_reply}
use Rattle.spec_step.specs.Verdict.{outcome_reply}
use Rattle.forwarder.specs.declared.forwarders.Forwarder.{Forwarder}
use Rattle.forwarder.specs.Forwarder.{scene_on, shown_of}
use Rattle.forwarder.proofs.Planning.{reply-plan-holds}
use Rattle.forwarder.specs.Room.{frames_alone}
use Rattle.forwarder.proofs.Taking.{again-spends, copy-spends, drop-spends, echo-taken-as, reply-made, reply-spends}
use Rattle.forwarder.proofs.forwarders.Forwarder.take_echo.Goals as goal

pub reply-requires-clause-may : goal.reply-requires-clause-may
reply-requires-clause-may c =
    let made = reply-made c.in-Ok-Send.is c.in-Ok-Send.field-0-is c.plan_reply.ensures in
    reply-plan-holds (shown_of c.args.self.now) c.args.side c.args.echo (Ok (Send c.in-Ok-Send.next)) (sym made)

pub ask_for_reply-requires-clause-place : goal.ask_for_reply-requires-clause-place
ask_for_reply-requires-clause-place c =
    let made = reply-made c.in-Ok-Ask.is c.in-Ok-Ask.field-0-is c.plan_reply.ensures in
    ap (λ (k : List HeldPacket). has_place k c.in_ok-copy-in-Ok-Ask.copy.wait) c.in_ok-copy-in-Ok-Ask.ensures.same
    ∙ ap (λ (w : HeldPacket). has_place c.args.self.now.kept w.wait) c.in_ok-copy-in-Ok-Ask.ensures.packet
    ∙ reply-plan-holds (shown_of c.args.self.now) c.args.side c.args.echo (Ok (Ask c.in-Ok-Ask.hop)) (sym made)

pub returns-in-Ok-Send-clause-scene : goal.returns-in-Ok-Send-clause-scene
returns-in-Ok-Send-clause-scene c =
    let made = reply-made c.in-Ok-Send.is c.in-Ok-Send.field-0-is c.plan_reply.ensures in
    c.reply.ensures.scene ∙ echo-taken-as (scene_on c.args.self.now c.args.page.now) c.args.side c.args.bytes.now c.args.echo (Ok (Send c.in-Ok-Send.next)) (sym made)

pub returns-in_ok-copy-in-Ok-Ask-clause-scene : goal.returns-in_ok-copy-in-Ok-Ask-clause-scene
returns-in_ok-copy-in-Ok-Ask-clause-scene c =
    let s = scene_on c.args.self.now c.args.page.now in
    let made = reply-made c.in-Ok-Ask.is c.in-Ok-Ask.field-0-is c.plan_reply.ensures in
    c.ask_for_reply.ensures.scene c.args.echo.source
    ∙ ap (λ (k : List HeldPacket). by_reply (scene_on (record c.args.self.now { kept = k }) c.args.page.now) c.args.side c.in_ok-copy-in-Ok-Ask.copy.bytes c.args.echo.source (Ask c.in-Ok-Ask.hop)) c.in_ok-copy-in-Ok-Ask.ensures.same
    ∙ ap (λ (w : HeldPacket). by_reply s c.args.side w.bytes c.args.echo.source (Ask c.in-Ok-Ask.hop)) c.in_ok-copy-in-Ok-Ask.ensures.packet
    ∙ echo-taken-as s c.args.side c.args.bytes.now c.args.echo (Ok (Ask c.in-Ok-Ask.hop)) (sym made)

pub returns-in-Ok-AskAgain-clause-scene : goal.returns-in-Ok-AskAgain-clause-scene
returns-in-Ok-AskAgain-clause-scene c =
    let made = reply-made c.in-Ok-AskAgain.is c.in-Ok-AskAgain.field-0-is c.plan_reply.ensures in
    c.ask_again.ensures.scene ∙ echo-taken-as (scene_on c.args.self.now c.args.page.now) c.args.side c.args.bytes.now c.args.echo (Ok (AskAgain c.in-Ok-AskAgain.hop)) (sym made)

pub returns-in-Err-clause-scene : goal.returns-in-Err-clause-scene
returns-in-Err-clause-scene c =
    c.refuse_whole.ensures.scene ∙ echo-taken-as (scene_on c.args.self.now c.args.page.now) c.args.side c.args.bytes.now c.args.echo (Err c.in-Err.reason) (sym c.in-Err.is ∙ c.plan_reply.ensures)

-- ---- what comes of it

pub returns-in-Ok-Send-clause-outcome : goal.returns-in-Ok-Send-clause-outcome
returns-in-Ok-Send-clause-outcome c = sym (ap outcome_reply (reply-made c.in-Ok-Send.is c.in-Ok-Send.field-0-is c.plan_reply.ensures))

pub returns-in_ok-copy-in-Ok-Ask-clause-outcome : goal.returns-in_ok-copy-in-Ok-Ask-clause-outcome
returns-in_ok-copy-in-Ok-Ask-clause-outcome c = sym (ap outcome_reply (reply-made c.in-Ok-Ask.is c.in-Ok-Ask.field-0-is c.plan_reply.ensures))

pub returns-in-Ok-AskAgain-clause-outcome : goal.returns-in-Ok-AskAgain-clause-outcome
returns-in-Ok-AskAgain-clause-outcome c = sym (ap outcome_reply (reply-made c.in-Ok-AskAgain.is c.in-Ok-AskAgain.field-0-is c.plan_reply.ensures))

pub returns-in-Err-clause-outcome : goal.returns-in-Err-clause-outcome
returns-in-Err-clause-outcome c = ap outcome_reply (sym c.in-Err.is ∙ c.plan_reply.ensures)

-- ---- what it takes

pub returns-in-Ok-Send-clause-link : goal.returns-in-Ok-Send-clause-link
returns-in-Ok-Send-clause-link c = c.reply.ensures.link

pub returns-in-Ok-Send-clause-spends : goal.returns-in-Ok-Send-clause-spends
returns-in-Ok-Send-clause-spends c = c.reply.ensures.spends

pub returns-in_ok-copy-in-Ok-Ask-clause-spends : goal.returns-in_ok-copy-in-Ok-Ask-clause-spends
returns-in_ok-copy-in-Ok-Ask-clause-spends c =
    let copy = c.in_ok-copy-in-Ok-Ask in
    reply-spends (length c.args.bytes.now) c.args.self.now c.ask_for_reply.new.self c.args.page.now c.ask_for_reply.new.page
    (copy-spends (frames_alone 1) c.args.self.now c.ask_for_reply.new.self c.args.page.now c.ask_for_reply.new.page _ copy.copy.bytes c.args.bytes.now copy.ensures.same (ap (λ (w : HeldPacket). w.bytes) copy.ensures.packet) c.ask_for_reply.ensures.spends)

pub returns-in-Ok-AskAgain-clause-link : goal.returns-in-Ok-AskAgain-clause-link
returns-in-Ok-AskAgain-clause-link c = ap (λ (f : Forwarder). f.link) c.ask_again.ensures.rest

pub returns-in-Ok-AskAgain-clause-spends : goal.returns-in-Ok-AskAgain-clause-spends
returns-in-Ok-AskAgain-clause-spends c = again-spends (length c.args.bytes.now) c.args.self.now c.ask_again.new.self c.args.page.now c.ask_again.new.page c.ask_again.ensures.spends

pub returns-in-Err-clause-link : goal.returns-in-Err-clause-link
returns-in-Err-clause-link c = c.refuse_whole.ensures.link

pub returns-in-Err-clause-spends : goal.returns-in-Err-clause-spends
returns-in-Err-clause-spends c = drop-spends (length c.args.bytes.now) c.args.self.now c.refuse_whole.new.self c.args.page.now c.refuse_whole.new.page c.refuse_whole.ensures.spends
