-- The faults of a modelled disk, and what they leave.
use Rattle.std.specs.Prelude.{ℕ, ◌-◌, ◌==◌, List, length, take, drop, if◌then◌else◌}
use Rattle.boot_store.specs.declared.model.Fate.{Fate}
use Rattle.boot_store.specs.declared.model.Fate.TheVariants.{Done, Torn, Undone}
use Rattle.boot_store.specs.declared.model.Trouble.{Trouble}
use Rattle.boot_store.specs.declared.model.Trouble.TheVariants.{None, FailsOnce, StopsBefore, StopsWithin}
use Rattle.boot_store.specs.Cells.{lost, read_once}
use Rattle.boot_store.specs.Moment.{Moment, synced, written}

-- the outcome of the call at which the fault comes
abbrev pub fate_at : Trouble → Fate
fate_at None = Done
fate_at FailsOnce = Torn
fate_at StopsWithin = Torn
fate_at StopsBefore = Undone

-- the fault after that call: a disk fails once, and one that has stopped does no call more
abbrev pub trouble_after : Trouble → Trouble
trouble_after None = None
trouble_after FailsOnce = None
trouble_after StopsWithin = StopsBefore
trouble_after StopsBefore = StopsBefore

-- the outcome of the next call, where good_calls are left before the fault
abbrev pub fate_of : ℕ → Trouble → Fate
fate_of good_calls trouble = if good_calls == 0 then fate_at trouble else Done

-- the fault that is left after the next call
abbrev pub trouble_left : ℕ → Trouble → Trouble
trouble_left good_calls trouble = if good_calls == 0 then trouble_after trouble else trouble

-- how many good calls are left after the next call: a disk with which nothing is to go wrong counts none
abbrev pub good_calls_left : ℕ → Trouble → ℕ
good_calls_left good_calls None = good_calls
good_calls_left good_calls FailsOnce = good_calls - 1
good_calls_left good_calls StopsWithin = good_calls - 1
good_calls_left good_calls StopsBefore = good_calls - 1

-- the moment after a read; what a sync lost reads as the bytes of `any`
abbrev pub read_as : Fate → List ℕ → Moment → Moment
read_as Done any moment = read_once any moment
read_as Torn any moment = moment
read_as Undone any moment = moment

-- the moment after a sync; one that fails loses what was written since the last one, and one that is undone changes nothing
abbrev pub synced_as : Fate → Moment → Moment
synced_as Done moment = synced moment
synced_as Torn moment = lost moment
synced_as Undone moment = moment

-- the moment after a write there; one that is torn leaves the bytes of `any` at its place
abbrev pub written_as : Fate → ℕ → List ℕ → List ℕ → Moment → Moment
written_as Done at bytes any moment = written at bytes moment
written_as Torn at bytes any moment = written at (take (length bytes) (drop at any)) moment
written_as Undone at bytes any moment = moment
