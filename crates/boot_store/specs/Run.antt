-- Runs of starts, crashes and openings over one boot file.
use Rattle.std.specs.Prelude.{◌≡◌, ◌⊎◌, ◌<◌, ℕ, List, [], ◌∷◌, ◌++◌, Result, Ok, Err}
use Rattle.boot_store.specs.declared.faults.BootFault.{BootFault}
use Rattle.boot_store.specs.Moment.{Moment, MayLeave, StillKept, left_by_crash}
use Rattle.boot_store.specs.Crash.{Keeps, Rises}

pub data BootEvent : Type 0 where
  -- a start returned: the moments that passed, the end and the answer
  Answered : (since : List Moment) (end : Moment) (answer : Result ℕ BootFault) → BootEvent
  -- a crash at one of a start's moments left this file
  CutShort : (since : List Moment) (end crashed : Moment) (left : List ℕ) → BootEvent
  -- a crash between starts left this file
  Crashed : (left : List ℕ) → BootEvent
  -- the file was opened again, with no crash; what was not kept may read as any bytes
  Opened : (found : Moment) → BootEvent

-- the moment is one of these moments
abbrev pub IsAmong : Moment → List Moment → Type 0
IsAmong moment [] = ⊥
IsAmong moment (first ∷ moments) = (moment ≡ first) ⊎ IsAmong moment moments

-- a run of events: each start keeps what it has to, and each crash leaves what it may
abbrev pub IsRun : Moment → List BootEvent → Type 0
IsRun now [] = Unit {0}
IsRun now (Answered since end answer ∷ events) =
    Keeps now end since × Rises now end answer × IsRun end events
IsRun now (CutShort since end crashed left ∷ events) =
    Keeps now end since × IsAmong crashed (since ++ end ∷ []) × MayLeave crashed left
    × IsRun (left_by_crash left) events
IsRun now (Crashed left ∷ events) = MayLeave now left × IsRun (left_by_crash left) events
IsRun now (Opened found ∷ events) = StillKept now found × IsRun found events

-- the numbers that were answered, in order
abbrev pub numbers_of : List BootEvent → List ℕ
numbers_of [] = []
numbers_of (Answered since end (Ok n) ∷ events) = n ∷ numbers_of events
numbers_of (Answered since end (Err fault) ∷ events) = numbers_of events
numbers_of (CutShort since end crashed left ∷ events) = numbers_of events
numbers_of (Crashed left ∷ events) = numbers_of events
numbers_of (Opened found ∷ events) = numbers_of events

-- each number is greater than the one before it, the first greater than m
abbrev pub RiseFrom : ℕ → List ℕ → Type 0
RiseFrom m [] = Unit {0}
RiseFrom m (n ∷ numbers) = (m < n) × RiseFrom n numbers
