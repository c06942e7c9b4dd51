use Rattle.std.proofs.Common.{ap, ◌∙◌}
use Rattle.std.proofs.lemmas.Result.{IfOk-weaker}
use Rattle.spec_step.specs.Shown.{Shown}
use Rattle.spec_gateway.specs.State.{beginning}
use Rattle.frame_sim.proofs.Fixed.{fixed-begins}
use Rattle.frame_sim.proofs.worlds.begin.Goals as goal

pub returns-clause-begins : goal.returns-clause-begins
returns-clause-begins c =
    IfOk-weaker c.new.result _ _ (λ g is.
    is ∙ ap (λ (g : Shown). beginning g) (fixed-begins c.args.settings.now c.args.id c.args.boot c.args.found c.fixed.result c.fixed.ensures.hashers c.fixed.ensures.key))
    c.new.ensures.begins
