use Rattle.std.proofs.Common.{ap, ◌∙◌, subst}
use Rattle.spec_step.specs.declared.events.Event.TheVariants.{Tick}
use Rattle.spec_step.specs.Shown.{GatewayAndOutput}
use Rattle.spec_step.specs.Steps.{Does}
use Rattle.forwarder.specs.Forwarder.{scene_on}
use Rattle.gateway.specs.Ticks.{is_apart_at}
use Rattle.gateway.proofs.Apart.{ticks-alone}
use Rattle.gateway.proofs.steps.tick_alone.Goals as goal

pub returns-in_ok-make_ready-in-Ok-clause-does : goal.returns-in_ok-make_ready-in-Ok-clause-does
returns-in_ok-make_ready-in-Ok-clause-does c =
    let before = scene_on c.make_ready.new.forwarder c.make_ready.new.page in
    let ticked = scene_on c.take_tick.new.forwarder c.take_tick.new.page in
    let after = scene_on c.release_all.new.self c.release_all.new.page in
    let same = c.make_ready.ensures.scene in
    let apart = ap (λ (s : GatewayAndOutput). is_apart_at s.shown c.args.now) same ∙ c.requires.apart in
    subst (λ (s : GatewayAndOutput). Does s (Tick c.args.now) after) same (ticks-alone before c.args.now ticked after apart c.take_tick.ensures.ticks c.release_all.ensures.scene)
