-- Events that are run some at a time.
use Rattle.std.proofs.Common.{◌≡◌, ◌++◌, ◌∙◌, ℕ, List, [], ◌∷◌, take, drop, ap, sym, subst, refl}
use Rattle.std.proofs.lemmas.List.{append_assoc, append-nil, take-append-drop}
use Rattle.nat_types.specs.declared.events.WorldEvent.{WorldEvent}
use Rattle.frame_sim.specs.declared.events.Step.{Step}
use Rattle.frame_sim.specs.Runs.{AreSteps}
use Rattle.frame_sim.specs.World.{World}

-- some of the events are done, in order, with these steps from one world to another; the rest isn't
pub record IsUnderWay (w : World) (events rest : List WorldEvent) (steps : List Step) (w2 : World) : Type 0 where
  pub done : List WorldEvent
  pub split : events ≡ done ++ rest
  pub so_far : AreSteps w done steps w2

steps-append : (w mid w2 : World) (es fs : List WorldEvent) (ss ts : List Step) → AreSteps w es ss mid → AreSteps mid fs ts w2
    → AreSteps w (es ++ fs) (ss ++ ts) w2
steps-append w mid w2 [] fs [] ts h more = subst (λ (x : World). AreSteps x fs ts w2) h more
steps-append w mid w2 [] fs (s ∷ ss) ts h more = absurd h
steps-append w mid w2 (e ∷ es) fs [] ts h more = absurd h
steps-append w mid w2 (e ∷ es) fs (s ∷ ss) ts h more = (h.0, h.1, steps-append h.0 mid w2 es fs ss ts h.2 more)

-- before the first
pub none-done : (w : World) (events : List WorldEvent) (steps : List Step) → steps ≡ [] → IsUnderWay w events events steps w
none-done w events steps none =
    record { done = []; split = refl; so_far = subst (λ (ss : List Step). AreSteps w [] ss w) (sym none) refl }

-- the next few are done, too
pub more-done : (w mid w2 : World) (events rest next others : List WorldEvent) (ss ts all : List Step) → rest ≡ next ++ others
    → all ≡ ss ++ ts → IsUnderWay w events rest ss mid → AreSteps mid next ts w2 → IsUnderWay w events others all w2
more-done w mid w2 events rest next others ss ts all parts steps h more = record {
  done = h.done ++ next;
  split = h.split ∙ ap (λ (xs : List WorldEvent). h.done ++ xs) parts ∙ sym (append_assoc h.done next others);
  so_far = subst (λ (xs : List Step). AreSteps w (h.done ++ next) xs w2) (sym steps) (steps-append w mid w2 h.done next ss ts h.so_far more);
}

-- a list in two parts
pub two-parts : (rest next others : List WorldEvent) (n : ℕ) → next ≡ take n rest → others ≡ drop n rest → rest ≡ next ++ others
two-parts rest next others n front back = rw (front, back) (sym (take-append-drop n rest))

-- none is left
pub all-done : (w w2 : World) (events rest : List WorldEvent) (ss : List Step) → rest ≡ [] → IsUnderWay w events rest ss w2 → AreSteps w events ss w2
all-done w w2 events rest ss none h =
    subst (λ (xs : List WorldEvent). AreSteps w xs ss w2) (sym (h.split ∙ ap (λ (xs : List WorldEvent). h.done ++ xs) none ∙ append-nil h.done)) h.so_far
