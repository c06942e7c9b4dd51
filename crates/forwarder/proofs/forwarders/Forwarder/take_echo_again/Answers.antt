use Rattle.std.proofs.Common.{List, length, Ok, Err, ap, refl, sym, ◌∙◌}
use Rattle.waiting.specs.Packets.{HeldPacket, has_place}
use Rattle.spec_step.specs.declared.plans.Reply.TheVariants.{Send, Ask, AskAgain}
use Rattle.spec_step.specs.Parts.{by_reply}
use Rattle.forwarder.specs.declared.forwarders.Forwarder.{Forwarder}
use Rattle.forwarder.specs.Forwarder.{scene_on, shown_of}
use Rattle.forwarder.proofs.Planning.{reply-plan-holds}
use Rattle.forwarder.specs.Room.{frames_alone}
use Rattle.forwarder.proofs.Taking.{again-spends, copied-spends, drop-spends, echo-again-as, reply-made, reply-spends, reused-spends}
use Rattle.forwarder.proofs.forwarders.Forwarder.take_echo_again.Goals as goal

pub reply-requires-clause-may : goal.reply-requires-clause-may
reply-requires-clause-may c =
    let made = reply-made c.in-Ok-Send.is c.in-Ok-Send.field-0-is c.plan_reply.ensures in
    reply-plan-holds (shown_of c.args.self.now) c.side_of-side.result c.args.echo (Ok (Send c.in-Ok-Send.next)) (sym made)

pub ask_for_reply-requires-clause-place : goal.ask_for_reply-requires-clause-place
ask_for_reply-requires-clause-place c =
    let made = reply-made c.in-Ok-Ask.is c.in-Ok-Ask.field-0-is c.plan_reply.ensures in
    ap (λ (w : HeldPacket). has_place c.args.self.now.kept w.wait) c.again-copy.ensures
    ∙ reply-plan-holds (shown_of c.args.self.now) c.side_of-side.result c.args.echo (Ok (Ask c.in-Ok-Ask.hop)) (sym made)

pub returns-in-Ok-Send-clause-scene : goal.returns-in-Ok-Send-clause-scene
returns-in-Ok-Send-clause-scene c =
    let made = reply-made c.in-Ok-Send.is c.in-Ok-Send.field-0-is c.plan_reply.ensures in
    ap (λ (k : List HeldPacket). scene_on (record c.reply.new.self { kept = k }) c.reply.new.page) c.reuse.ensures.same
    ∙ c.reply.ensures.scene
    ∙ echo-again-as (scene_on c.args.self.now c.args.page.now) c.args.packet c.side_of-side.result c.bytes_of-bytes.result.now c.args.echo (Ok (Send c.in-Ok-Send.next)) c.side_of-side.ensures c.bytes_of-bytes.ensures (sym made)

pub returns-in-Ok-Ask-clause-scene : goal.returns-in-Ok-Ask-clause-scene
returns-in-Ok-Ask-clause-scene c =
    let s = scene_on c.args.self.now c.args.page.now in
    let made = reply-made c.in-Ok-Ask.is c.in-Ok-Ask.field-0-is c.plan_reply.ensures in
    c.ask_for_reply.ensures.scene c.args.echo.source
    ∙ ap (λ (w : HeldPacket). by_reply s c.side_of-side.result w.bytes c.args.echo.source (Ask c.in-Ok-Ask.hop)) c.again-copy.ensures
    ∙ echo-again-as s c.args.packet c.side_of-side.result c.args.packet.bytes c.args.echo (Ok (Ask c.in-Ok-Ask.hop)) c.side_of-side.ensures refl (sym made)

pub returns-in-Ok-AskAgain-clause-scene : goal.returns-in-Ok-AskAgain-clause-scene
returns-in-Ok-AskAgain-clause-scene c =
    let made = reply-made c.in-Ok-AskAgain.is c.in-Ok-AskAgain.field-0-is c.plan_reply.ensures in
    c.ask_again.ensures.scene
    ∙ echo-again-as (scene_on c.args.self.now c.args.page.now) c.args.packet c.side_of-side.result c.bytes_of-bytes.result.now c.args.echo (Ok (AskAgain c.in-Ok-AskAgain.hop)) c.side_of-side.ensures c.bytes_of-bytes.ensures (sym made)

pub returns-in-Err-clause-scene : goal.returns-in-Err-clause-scene
returns-in-Err-clause-scene c =
    c.refuse_whole.ensures.scene
    ∙ echo-again-as (scene_on c.args.self.now c.args.page.now) c.args.packet c.side_of-side.result c.bytes_of-bytes.result.now c.args.echo (Err c.in-Err.reason) c.side_of-side.ensures c.bytes_of-bytes.ensures (sym c.in-Err.is ∙ c.plan_reply.ensures)

-- ---- what it takes

pub returns-in-Ok-Send-clause-link : goal.returns-in-Ok-Send-clause-link
returns-in-Ok-Send-clause-link c = c.reply.ensures.link

pub returns-in-Ok-Send-clause-spends : goal.returns-in-Ok-Send-clause-spends
returns-in-Ok-Send-clause-spends c =
    reused-spends (frames_alone 2) c.args.self.now c.reply.new.self c.args.page.now c.reply.new.page _ c.bytes_of-bytes.result.now c.args.packet.bytes c.reuse.ensures.same c.bytes_of-bytes.ensures c.reply.ensures.spends

pub returns-in-Ok-Ask-clause-spends : goal.returns-in-Ok-Ask-clause-spends
returns-in-Ok-Ask-clause-spends c =
    reply-spends (length c.args.packet.bytes) c.args.self.now c.ask_for_reply.new.self c.args.page.now c.ask_for_reply.new.page
    (copied-spends (frames_alone 1) c.args.self.now c.ask_for_reply.new.self c.args.page.now c.ask_for_reply.new.page c.again-copy.result.bytes c.args.packet.bytes (ap (λ (w : HeldPacket). w.bytes) c.again-copy.ensures) c.ask_for_reply.ensures.spends)

pub returns-in-Ok-AskAgain-clause-link : goal.returns-in-Ok-AskAgain-clause-link
returns-in-Ok-AskAgain-clause-link c = ap (λ (f : Forwarder). f.link) c.ask_again.ensures.rest

pub returns-in-Ok-AskAgain-clause-spends : goal.returns-in-Ok-AskAgain-clause-spends
returns-in-Ok-AskAgain-clause-spends c = again-spends (length c.args.packet.bytes) c.args.self.now c.ask_again.new.self c.args.page.now c.ask_again.new.page c.ask_again.ensures.spends

pub returns-in-Err-clause-link : goal.returns-in-Err-clause-link
returns-in-Err-clause-link c = c.refuse_whole.ensures.link

pub returns-in-Err-clause-spends : goal.returns-in-Err-clause-spends
returns-in-Err-clause-spends c = drop-spends (length c.args.packet.bytes) c.args.self.now c.refuse_whole.new.self c.args.page.now c.refuse_whole.new.page c.refuse_whole.ensures.spends
