-- Runs of events on a world, and what is printed of them.
use Rattle.std.specs.Prelude.{◌≡◌, ℕ, Bool, false, List, [], ◌∷◌, ◌++◌, Option, Some, None, is_err, if◌then◌else◌}
use Rattle.std.specs.Io.KnownBytes.{Appends}
use Rattle.std.specs.List.{list_any}
use Rattle.nat_types.specs.declared.events.WorldEvent.{WorldEvent}
use Rattle.frame_sim.specs.Runs.{Gives}
use Rattle.frame_sim.specs.Status.{IsRunFrom}
use Rattle.frame_sim.specs.World.{World}
use Rattle.frame_sim.specs.declared.events.Step.{Step}
use Rattle.simulation.specs.Lines.{BothNetworks, counts_after, lost_line, networks_in, no_counts, step_lines, with_event, world_lines}
use Rattle.simulation.specs.declared.lines.Counts.{Counts}

-- what an output has, as far as it says that
abbrev pub Contents : Type 0 → Type 0
Contents O = O → Option (List ℕ)

-- ---- `sim`

-- what each event gave, in order, where lines have counted so far
abbrev pub steps_lines : BothNetworks → Counts → List WorldEvent → List Step → List ℕ
steps_lines both counts [] steps = []
steps_lines both counts (e ∷ es) [] = []
steps_lines both counts (e ∷ es) (s ∷ ss) = step_lines both counts e s ++ steps_lines both (counts_after counts e s) es ss

-- what the events of a run gave, and then how both gateways of the world stand to which they led
abbrev pub run_lines : BothNetworks → List WorldEvent → List Step → World → List ℕ
run_lines both events steps w = steps_lines both no_counts events steps ++ world_lines w

-- the steps that these events take, in order, from a world; exactly their lines were printed; 3 where one was refused, else 0
pub record IsPlayed {O : Type 0} (contents : Contents O) (w : World) (events : List WorldEvent) (output printed : O) (status : ℕ) : Type 0 where
  pub run : IsRunFrom w events status
  pub text : Appends (contents output) (contents printed) (run_lines (networks_in w) events run.steps run.world)

-- ---- `loop`: the bytes that an event brings may be lost

-- the event gives this step; or its bytes are lost, and nothing changes
abbrev pub IsTurn : World → WorldEvent → Option Step → World → Type 0
IsTurn w e (Some s) w2 = Gives w e s w2
IsTurn w e None w2 = w2 ≡ w

-- the turns of these events in order, from one world to another
abbrev pub AreTurns : World → List WorldEvent → List (Option Step) → World → Type 0
AreTurns w [] [] w2 = w2 ≡ w
AreTurns w [] (t ∷ ts) w2 = ⊥
AreTurns w (e ∷ es) [] w2 = ⊥
AreTurns w (e ∷ es) (t ∷ ts) w2 = (next : World) × (IsTurn w e t next × AreTurns next es ts w2)

-- the event was refused
abbrev pub is_refusal : Option Step → Bool
is_refusal None = false
is_refusal (Some s) = is_err s.answer

-- what an event gave, where lines have counted so far; or that it is lost
abbrev pub turn_lines : BothNetworks → Counts → WorldEvent → Option Step → List ℕ
turn_lines both counts e None = lost_line counts
turn_lines both counts e (Some s) = step_lines both counts e s

-- and what they have counted then
abbrev pub counts_then : Counts → WorldEvent → Option Step → Counts
counts_then counts e None = with_event counts
counts_then counts e (Some s) = counts_after counts e s

-- what each event's turn gave, in order
abbrev pub turns_lines : BothNetworks → Counts → List WorldEvent → List (Option Step) → List ℕ
turns_lines both counts [] ts = []
turns_lines both counts (e ∷ es) [] = []
turns_lines both counts (e ∷ es) (t ∷ ts) = turn_lines both counts e t ++ turns_lines both (counts_then counts e t) es ts

-- these events have had their turns, exactly their lines were printed, and one was refused or none
pub record HaveTurned {O : Type 0} (contents : Contents O) (w : World) (es : List WorldEvent) (w2 : World) (output printed : O) (refused : Bool) : Type 0 where
  pub turns : List (Option Step)
  pub taken : AreTurns w es turns w2
  pub text : Appends (contents output) (contents printed) (turns_lines (networks_in w) no_counts es turns)
  pub refusals : refused ≡ list_any is_refusal turns

-- the same, and after their lines exactly the tables of the world to which they led were printed; 3 where one was refused, else 0
pub record IsLooped {O : Type 0} (contents : Contents O) (w : World) (es : List WorldEvent) (output printed : O) (status : ℕ) : Type 0 where
  pub turns : List (Option Step)
  pub last : World
  pub taken : AreTurns w es turns last
  pub text : Appends (contents output) (contents printed) (turns_lines (networks_in w) no_counts es turns ++ world_lines last)
  pub is : status ≡ (if list_any is_refusal turns then 3 else 0)
