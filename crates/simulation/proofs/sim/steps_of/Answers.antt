use Rattle.std.proofs.Common.{rules, drop_of_length-le}
use Rattle.simulation.proofs.Steps.{all-done, more-done, none-done, two-parts}
use Rattle.simulation.proofs.sim.steps_of.Goals as goal

pub loop-rest-init : goal.loop-rest-init
loop-rest-init g c = none-done _ _ _ c.in_ok-steps.ensures.items

pub loop-rest-preserved : goal.loop-rest-preserved
loop-rest-preserved g c = more-done _ _ _ _ c.loop-rest.rest.now _ _ _ _ _ (two-parts _ _ _ _ c.split_at.ensures.front c.split_at.ensures.back)
    c.in_ok-append.ensures c.loop-rest.invariant c.in_ok-more.ensures.steps

pub returns : goal.returns
returns g c = all-done _ _ _ c.loop-rest.rest.now _ (drop_of_length-le c.loop-rest.rest.now {i = 0} (search rules)) c.loop-rest.invariant
