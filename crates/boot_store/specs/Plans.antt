-- The faults to come of a modelled disk, and its calls under them.
use Rattle.std.specs.Prelude.{◌≡◌, ◌↔◌, ℕ, List, Result, IsOk, OnOk}
use Rattle.boot_store.specs.declared.disk.DeviceFault.{DeviceFault}
use Rattle.boot_store.specs.declared.model.Fate.{Fate}
use Rattle.boot_store.specs.declared.model.Fate.TheVariants.{Done}
use Rattle.boot_store.specs.declared.model.ModelDisk.{ModelDisk}
use Rattle.boot_store.specs.declared.model.Trouble.{Trouble}
use Rattle.boot_store.specs.Moment.{Moment, bytes_of}
use Rattle.boot_store.specs.Troubles.{fate_of, good_calls_left, read_as, synced_as, trouble_left, written_as}

-- the file's cells
abbrev pub cells_of : ModelDisk → Moment
cells_of disk = disk.cells

-- how many calls are good before the fault
abbrev pub good_calls_of : ModelDisk → ℕ
good_calls_of disk = disk.good_calls

abbrev pub trouble_of : ModelDisk → Trouble
trouble_of disk = disk.trouble

-- the bytes that a fault leaves
abbrev pub any_of : ModelDisk → List ℕ
any_of disk = disk.any

-- the outcome of the next call
abbrev pub next_fate_of : ModelDisk → Fate
next_fate_of disk = fate_of (good_calls_of disk) (trouble_of disk)

-- one call more was made: the calls and the fault that are left, and the bytes that a fault leaves
pub record IsCalled (old new : ModelDisk) : Type 0 where
  pub good_calls : good_calls_of new ≡ good_calls_left (good_calls_of old) (trouble_of old)
  pub trouble : trouble_of new ≡ trouble_left (good_calls_of old) (trouble_of old)
  pub any : any_of new ≡ any_of old

-- a read by the disk's fate: Ok where it is done, and the cells afterwards
pub record IsRead (old : ModelDisk) (result : Result ℕ DeviceFault) (room : List ℕ) (new : ModelDisk) : Type 0 where
  pub answer : IsOk result ↔ (next_fate_of old ≡ Done)
  pub cells : cells_of new ≡ read_as (next_fate_of old) (any_of old) (cells_of old)
  pub shown : OnOk result (room ≡ bytes_of (cells_of new))
  pub left : IsCalled old new

-- a write of these bytes there by the disk's fate
pub record IsWrite (old : ModelDisk) (at : ℕ) (bytes : List ℕ) (result : Result (Unit {0}) DeviceFault) (new : ModelDisk) : Type 0 where
  pub answer : IsOk result ↔ (next_fate_of old ≡ Done)
  pub cells : cells_of new ≡ written_as (next_fate_of old) at bytes (any_of old) (cells_of old)
  pub left : IsCalled old new

-- a sync by the disk's fate
pub record IsSync (old : ModelDisk) (result : Result (Unit {0}) DeviceFault) (new : ModelDisk) : Type 0 where
  pub answer : IsOk result ↔ (next_fate_of old ≡ Done)
  pub cells : cells_of new ≡ synced_as (next_fate_of old) (cells_of old)
  pub left : IsCalled old new
