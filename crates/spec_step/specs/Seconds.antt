-- How many answers and complaints a gateway sends itself in one second of a life.
use Rattle.std.specs.Prelude.{◌≡◌, ℕ, ◌+◌, Bool, true, false, not, ◌==◌, ◌&&◌, List, [], ◌∷◌, if◌then◌else◌}
use Rattle.std.specs.List.{count_by}
use Rattle.nat_types.specs.declared.gateways.Side.{Side}
use Rattle.interfaces.specs.Stations.{same_side}
use Rattle.interfaces.specs.Tallies.{second_of}
use Rattle.output.specs.Output.{Output}
use Rattle.spec_binding.specs.Books.{IsBook}
use Rattle.spec_step.specs.declared.events.Event.{Event}
use Rattle.spec_step.specs.Machine.{HasBytes, KeepsBytes}
use Rattle.spec_step.specs.OwnAnswers.{Answers, Complains, OwnFrame, Purpose}
use Rattle.spec_step.specs.PassedOn.{TellsAll}
use Rattle.spec_step.specs.Shown.{Shown, scene}
use Rattle.spec_step.specs.Steps.{IsStepOn}
use Rattle.spec_step.specs.Truly.{hand_of}

-- whether an own frame of this purpose is an answer
abbrev pub is_answer : Purpose → Bool
is_answer Answers = true
is_answer (Complains reason exit) = false

-- how many of these own frames are answers at a side
abbrev pub answers_at : Side → List OwnFrame → ℕ
answers_at side own = count_by (λ o. same_side o.packet.side side && is_answer o.purpose) own

-- how many of these own frames are complaints at a side, of packets that are dropped
abbrev pub complaints_at : Side → List OwnFrame → ℕ
complaints_at side own = count_by (λ o. same_side o.packet.side side && not (is_answer o.purpose)) own

-- the own frames of a step, and the time of the clock after it
pub record StepOwn : Type 0 where
  pub moment : ℕ
  pub own : List OwnFrame

-- how many frames the steps of one second have, by a count for one step
abbrev pub in_second : (List OwnFrame → ℕ) → ℕ → List StepOwn → ℕ
in_second count second [] = 0
in_second count second (x ∷ xs) =
    (if second_of x.moment == second then count x.own else 0) + in_second count second xs

-- A step of a gateway, for any event and any output before, whose own frames are exactly these, one for one.
pub record IsStepSaying (g : Shown) (x : StepOwn) (new : Shown) : Type 0 where
  pub event : Event
  pub before : Output
  pub after : Output
  pub step : IsStepOn (scene g before) event (scene new after)
  pub bytes : HasBytes event
  pub book : IsBook g.ledger.book
  pub kept : KeepsBytes g
  pub tells : TellsAll (hand_of event) (scene g before) (scene new after)
  pub own_is : x.own ≡ tells.own
  pub moment_is : x.moment ≡ new.moment

-- steps of one life, one after the other
abbrev pub AreStepsSaying : Shown → List StepOwn → Shown → Type 0
AreStepsSaying g [] g2 = g2 ≡ g
AreStepsSaying g (x ∷ xs) g2 = (new : Shown) × (IsStepSaying g x new × AreStepsSaying new xs g2)
