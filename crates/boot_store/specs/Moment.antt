-- A boot file's disk at one moment, what a crash may leave of it, and what a read may show.
use Rattle.std.specs.Prelude.{◌≡◌, ◌≢◌, ◌⊎◌, ℕ, ◌+◌, List, [], ◌∷◌, ◌++◌, length, take, drop, map}
use Rattle.boot_store.specs.declared.disk.Cell.{Cell}
use Rattle.boot_store.specs.declared.disk.Hold.{Hold}
use Rattle.boot_store.specs.declared.disk.Hold.TheVariants.{Kept, Loose, Lost}

-- a moment: each byte of the file, and its durability
abbrev pub Moment : Type 0
Moment = List Cell

-- the bytes of a moment
abbrev pub bytes_of : Moment → List ℕ
bytes_of moment = map (λ cell. cell.byte) moment

-- what a crash at that moment may leave: any byte where one isn't kept, all others as they are
abbrev pub MayLeave : Moment → List ℕ → Type 0
MayLeave [] [] = Unit {0}
MayLeave [] (byte ∷ file) = ⊥
MayLeave (cell ∷ moment) [] = ⊥
MayLeave (cell ∷ moment) (byte ∷ file) = (cell.hold ≡ Kept → byte ≡ cell.byte) × MayLeave moment file

-- what a read at that moment may show: any byte where a sync has failed, all others as they are
abbrev pub MayShow : Moment → List ℕ → Type 0
MayShow [] [] = Unit {0}
MayShow [] (byte ∷ file) = ⊥
MayShow (cell ∷ moment) [] = ⊥
MayShow (cell ∷ moment) (byte ∷ file) = (cell.hold ≢ Lost → byte ≡ cell.byte) × MayShow moment file

-- old with these items in place of those from `at` on
abbrev pub put : {X : Type 0} → ℕ → List X → List X → List X
put at items old = take at old ++ items ++ drop (at + length items) old

-- a byte that outlasts a crash
abbrev pub kept_cell : ℕ → Cell
kept_cell byte = record { byte = byte; hold = Kept }

-- a byte that a crash may change, and the next sync keeps
abbrev pub loose_cell : ℕ → Cell
loose_cell byte = record { byte = byte; hold = Loose }

-- the moment after a crash that left these bytes
abbrev pub left_by_crash : List ℕ → Moment
left_by_crash file = map kept_cell file

-- the moment after a write that put these bytes there
abbrev pub written : ℕ → List ℕ → Moment → Moment
written at bytes moment = put at (map loose_cell bytes) moment

-- the moment within a write of n bytes there: they count as written already
abbrev pub within_write : ℕ → ℕ → Moment → Moment
within_write at n moment = written at (take n (drop at (bytes_of moment))) moment

-- the moments after a write of n bytes there that failed: none of them is written, or they are any bytes
abbrev pub FailedWrite : ℕ → ℕ → Moment → Moment → Type 0
FailedWrite at n old new = (new ≡ old) ⊎ ((bytes : List ℕ) × (length bytes ≡ n) × (new ≡ written at bytes old))

-- durability after a sync that succeeded: what was written since the last sync is kept; what an earlier sync lost stays lost
abbrev pub synced_hold : Hold → Hold
synced_hold Kept = Kept
synced_hold Loose = Kept
synced_hold Lost = Lost

-- a cell after a sync that succeeded
abbrev pub synced_cell : Cell → Cell
synced_cell cell = record { byte = cell.byte; hold = synced_hold cell.hold }

-- the moment after a sync that succeeded
abbrev pub synced : Moment → Moment
synced moment = map synced_cell moment

-- the moments after a sync or a read that failed: what was kept still is, and the rest may be any bytes
abbrev pub StillKept : Moment → Moment → Type 0
StillKept [] [] = Unit {0}
StillKept [] (after ∷ new) = ⊥
StillKept (cell ∷ old) [] = ⊥
StillKept (cell ∷ old) (after ∷ new) = (cell.hold ≡ Kept → after ≡ cell) × StillKept old new

-- the moments after a read that succeeded: a lost byte is now what the device has of it, all others are as before
abbrev pub AfterRead : Moment → Moment → Type 0
AfterRead [] [] = Unit {0}
AfterRead [] (after ∷ new) = ⊥
AfterRead (cell ∷ old) [] = ⊥
AfterRead (cell ∷ old) (after ∷ new) = (cell.hold ≢ Lost → after ≡ cell) × (cell.hold ≡ Lost → after.hold ≡ Kept) × AfterRead old new
