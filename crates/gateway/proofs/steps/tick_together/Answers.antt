use Rattle.std.proofs.Common.{ap, ◌∙◌, subst}
use Rattle.spec_step.specs.declared.events.Event.TheVariants.{Tick}
use Rattle.spec_step.specs.Shown.{GatewayAndOutput}
use Rattle.spec_step.specs.Steps.{Does}
use Rattle.forwarder.specs.Forwarder.{scene_on}
use Rattle.gateway.specs.Ticks.{is_apart_at}
use Rattle.gateway.proofs.Apart.{ticks-together}
use Rattle.gateway.proofs.steps.tick_together.Goals as goal

pub returns-clause-does : goal.returns-clause-does
returns-clause-does c =
    let before = scene_on c.make_ready.new.forwarder c.make_ready.new.page in
    let after = scene_on c.take_tick.new.forwarder c.take_tick.new.page in
    let same = c.in_ok-make_ready.ensures.scene in
    let together = ap (λ (s : GatewayAndOutput). is_apart_at s.shown c.args.now) same ∙ c.requires.together in
    subst (λ (s : GatewayAndOutput). Does s (Tick c.args.now) after) same (ticks-together before c.args.now after together c.take_tick.ensures.ticks)
