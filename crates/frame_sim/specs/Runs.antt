-- The answer to a run of events: a step for each event.
use Rattle.std.specs.Prelude.{◌≡◌, Option, Some, None, Result, Ok, Err, List, [], ◌∷◌}
use Rattle.output.specs.Output.{Output, none_told}
use Rattle.spec_step.specs.declared.events.Outcome.{Outcome}
use Rattle.frame_sim.specs.declared.events.Step.{Step}
use Rattle.nat_types.specs.declared.events.WorldEvent.{WorldEvent}
use Rattle.frame_sim.specs.declared.events.WorldFault.{WorldFault}
use Rattle.frame_sim.specs.declared.events.WorldFault.TheVariants.{NoMemory}
use Rattle.frame_sim.specs.World.{World}
use Rattle.frame_sim.specs.Events.{Does, refusal}
use Rattle.frame_sim.specs.Lacks.{Lacks}

-- the fault of an event that wasn't applied: the reason of its refusal, else NoMemory
abbrev pub fault_of : Option WorldFault → WorldFault
fault_of None = NoMemory
fault_of (Some fault) = fault

-- An event was applied; or it wasn't, with NoMemory only where it lacked memory (`Lacks`), and neither the world nor
-- the output changed.
abbrev pub Answers : World → WorldEvent → Output → Result Outcome WorldFault → Output → World → Type 0
Answers w e told (Ok outcome) told2 w2 = (refusal w e ≡ None) × Does w e told outcome told2 w2
Answers w e told (Err fault) told2 w2 =
    (fault ≡ fault_of (refusal w e)) × (fault ≡ NoMemory → Lacks w e) × (told2 ≡ told) × (w2 ≡ w)

-- A world was to take an event: this is what it answered, and the world afterwards. The name stands for that one call,
-- and only the function that makes the call gives it.
unfoldable pub WasTaken : World → WorldEvent → Result Outcome WorldFault → World → Type 0
WasTaken w e answer w2 = Unit {0}

-- the step of an event: what exactly this world answered, with its output
abbrev pub Gives : World → WorldEvent → Step → World → Type 0
Gives w e s w2 = Answers w e none_told s.answer s.out w2 × WasTaken w e s.answer w2

-- the steps of these events in order, from one world to another
abbrev pub AreSteps : World → List WorldEvent → List Step → World → Type 0
AreSteps w [] [] w2 = w2 ≡ w
AreSteps w [] (s ∷ ss) w2 = ⊥
AreSteps w (e ∷ es) [] w2 = ⊥
AreSteps w (e ∷ es) (s ∷ ss) w2 = (next : World) × Gives w e s next × AreSteps next es ss w2
