-- A taking in two steps: first all but the end of a datagram that is whole, then that end.
use Rattle.std.proofs.Common.{◌≡◌, ℕ, Bool, true, false, cond, Option, Some, None, List, [], ◌∷◌, ◌++◌, refl, ap}
use Rattle.std.specs.List.{find}
use Rattle.nat_types.specs.declared.gateways.Side.{Side}
use Rattle.nat_types.specs.declared.gateways.Side.TheVariants.{Inside, Outside}
use Rattle.fragments.specs.Fragment.{is_broken, trimmed}
use Rattle.fragments.specs.Gathered.{Datagram, Gathered, Taking, after, after_end, after_join, arrived, effect_of, ended, is_named, joined, left_first, of_side, refused, taken, without_first}
use Rattle.fragments.specs.Name.{name_of}
use Rattle.fragments.specs.declared.names.Name.{Name}
use Rattle.fragments.specs.declared.datagrams.Effect.{Effect}
use Rattle.fragments.specs.declared.datagrams.Effect.TheVariants.{Repeats, Contradicts, Waits, TooLong, Completes}
use Rattle.fragments.specs.declared.gatherings.Came.TheVariants.{Whole}

-- what a taking leaves at first, and once its datagram ended
record InSteps (name : Name) (ds : List Datagram) (taking : Taking) : Type 0 where
  whole : taking.came ≡ Whole → without_first (is_named name) (left_first taking ds) ≡ taking.left
  other : (taking.came ≡ Whole → ⊥) → left_first taking ds ≡ taking.left

joined-steps : (e : Effect) (name : Name) (fs : List (List ℕ)) (ds : List Datagram) → InSteps name ds (joined e name fs ds)
joined-steps Repeats name fs ds = record { whole = λ is. absurd (cc); other = λ isnt. refl }
joined-steps Contradicts name fs ds = record { whole = λ is. absurd (cc); other = λ isnt. refl }
joined-steps Waits name fs ds = record { whole = λ is. absurd (cc); other = λ isnt. refl }
joined-steps TooLong name fs ds = record { whole = λ is. absurd (cc); other = λ isnt. refl }
joined-steps Completes name fs ds = record { whole = λ is. refl; other = λ isnt. absurd (isnt refl) }

arrived-steps : (now : ℕ) (f : List ℕ) (o : Option Datagram) (ds : List Datagram) → InSteps (name_of f) ds (arrived now f o ds)
arrived-steps now f None ds = record { whole = λ is. absurd (cc); other = λ isnt. refl }
arrived-steps now f (Some d) ds = joined-steps (effect_of d.fragments f) (name_of f) (d.fragments ++ f ∷ []) ds

taken-steps : (now : ℕ) (frame : List ℕ) (ds : List Datagram) → InSteps (name_of (trimmed frame)) ds (taken now frame ds)
unfolding taken
taken-steps now frame ds = by (is_broken (trimmed frame))
  where
    f : List ℕ
    f = trimmed frame

    by : (b : Bool) → InSteps (name_of f) ds (cond b (refused None ds) (arrived now f (find (is_named (name_of f)) ds) ds))
    by true = record { whole = λ is. absurd (cc); other = λ isnt. refl }
    by false = arrived-steps now f (find (is_named (name_of f)) ds) ds

pub ends-whole : (side : Side) (now : ℕ) (frame : List ℕ) (g : Gathered) → (taken now frame (of_side side g)).came ≡ Whole
    → after_end side frame (after_join side (taken now frame (of_side side g)) g) ≡ after side (taken now frame (of_side side g)) g
unfolding ended
ends-whole Inside now frame g is = ap (λ (ds : List Datagram). after Inside (record (taken now frame g.inside) { left = ds }) g) ((taken-steps now frame g.inside).whole is)
ends-whole Outside now frame g is = ap (λ (ds : List Datagram). after Outside (record (taken now frame g.outside) { left = ds }) g) ((taken-steps now frame g.outside).whole is)

pub ends-other : (side : Side) (now : ℕ) (frame : List ℕ) (g : Gathered) → ((taken now frame (of_side side g)).came ≡ Whole → ⊥)
    → after_join side (taken now frame (of_side side g)) g ≡ after side (taken now frame (of_side side g)) g
ends-other Inside now frame g isnt = ap (λ (ds : List Datagram). after Inside (record (taken now frame g.inside) { left = ds }) g) ((taken-steps now frame g.inside).other isnt)
ends-other Outside now frame g isnt = ap (λ (ds : List Datagram). after Outside (record (taken now frame g.outside) { left = ds }) g) ((taken-steps now frame g.outside).other isnt)
