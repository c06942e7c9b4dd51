-- The steps of a run, with one step more.
use Rattle.std.proofs.Common.{List, [], ◌∷◌, ◌++◌, refl, subst}
use Rattle.frame_sim.specs.declared.events.Step.{Step}
use Rattle.nat_types.specs.declared.events.WorldEvent.{WorldEvent}
use Rattle.frame_sim.specs.World.{World}
use Rattle.frame_sim.specs.Runs.{AreSteps, Gives}

pub steps-push : (w mid w2 : World) (es : List WorldEvent) (ss : List Step) (e : WorldEvent) (s : Step) → AreSteps w es ss mid → Gives mid e s w2 → AreSteps w (es ++ e ∷ []) (ss ++ s ∷ []) w2
steps-push w mid w2 [] [] e s steps step = (w2, subst (λ (x : World). Gives x e s w2) steps step, refl)
steps-push w mid w2 [] (t ∷ ss) e s steps step = absurd steps
steps-push w mid w2 (f ∷ es) [] e s steps step = absurd steps
steps-push w mid w2 (f ∷ es) (t ∷ ss) e s steps step = (steps.0, steps.1, steps-push steps.0 mid w2 es ss e s steps.2 step)
