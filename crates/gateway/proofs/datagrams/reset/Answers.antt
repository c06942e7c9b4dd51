use Rattle.std.proofs.Common.{ap, ◌∙◌}
use Rattle.waiting.specs.declared.waits.Ended.TheVariants.{AllPairs}
use Rattle.spec_step.specs.Shown.{GatewayAndOutput}
use Rattle.forwarder.specs.Forwarder.{scene_on}
use Rattle.gateway.proofs.Staying.{released-stays}
use Rattle.gateway.proofs.datagrams.reset.Goals as goal

pub returns-clause-moment : goal.returns-clause-moment
returns-clause-moment c =
    let stays = released-stays (scene_on (record c.args.forwarder.now { core = c.peer_restarted.new.self; link = c.peer_restarted.new.link }) c.put_notes.new.self) AllPairs in
    ap (λ (s : GatewayAndOutput). s.shown.moment) c.release_all.ensures.scene ∙ stays.moment
