use Rattle.frame_sim.proofs.Strays.{strays-nothing}
use Rattle.frame_sim.proofs.worlds.World.strays_change_nothing.Goals as goal

pub returns : goal.returns
returns c = rw (← c.self.view_is) (λ i bytes told outcome told2 w2 is takes. strays-nothing c.strays_change_nothing.ensures.step c.strays_change_nothing.ensures.outcome _ i bytes told outcome told2 w2 c.self.invariant is takes)
