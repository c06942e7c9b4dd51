use Rattle.std.proofs.Common.{IfOk, subst}
use Rattle.frame_sim.specs.Status.{IsNew}
use Rattle.frame_sim.specs.World.{World}
use Rattle.simulation.specs.Runs.{IsLooped}
use Rattle.simulation.proofs.looped.run_loop_job.Goals as goal

pub returns-in-Ok : goal.returns-in-Ok
unfolding IsNew
returns-in-Ok g c =
    subst (λ (w : World). IfOk c.run_on-status.result (IsLooped g.W.Write.contents w c.args.job.now.events.items c.args.output.now c.run_on-status.new.output))
    c.in-Ok.ensures.new c.run_on-status.ensures
