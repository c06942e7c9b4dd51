-- The effects of calls and crashes on the cells of a modelled disk.
use Rattle.std.specs.Prelude.{ℕ, List, [], ◌∷◌, map}
use Rattle.boot_store.specs.declared.disk.Cell.{Cell}
use Rattle.boot_store.specs.declared.disk.Hold.{Hold}
use Rattle.boot_store.specs.declared.disk.Hold.TheVariants.{Kept, Loose, Lost}
use Rattle.boot_store.specs.Moment.{Moment, kept_cell}

-- each cell, changed with the byte at its place
abbrev pub each_with : (ℕ → Cell → Cell) → List ℕ → Moment → Moment
each_with change [] moment = moment
each_with change (byte ∷ any) [] = []
each_with change (byte ∷ any) (cell ∷ moment) = change byte cell ∷ each_with change any moment

-- the byte that a crash leaves, where `any` may replace it
abbrev pub crashed_byte : Hold → ℕ → ℕ → ℕ
crashed_byte Kept any byte = byte
crashed_byte Loose any byte = any
crashed_byte Lost any byte = any

abbrev pub crashed_cell : ℕ → Cell → Cell
crashed_cell any cell = kept_cell (crashed_byte cell.hold any cell.byte)

-- the cells after a crash, where the bytes of `any` replace those that it may change
abbrev pub crashed : List ℕ → Moment → Moment
crashed any moment = each_with crashed_cell any moment

-- a cell after a read, where the device has `any` in place of a lost byte
abbrev pub shown : Hold → ℕ → Cell → Cell
shown Kept any cell = cell
shown Loose any cell = cell
shown Lost any cell = kept_cell any

abbrev pub shown_cell : ℕ → Cell → Cell
shown_cell any cell = shown cell.hold any cell

-- the cells after a read, where the device has the bytes of `any` in place of those that are lost
abbrev pub read_once : List ℕ → Moment → Moment
read_once any moment = each_with shown_cell any moment

-- the durability of a byte after a sync that failed: what was written since the last sync is lost
abbrev pub lost_hold : Hold → Hold
lost_hold Kept = Kept
lost_hold Loose = Lost
lost_hold Lost = Lost

abbrev pub lost_cell : Cell → Cell
lost_cell cell = record { byte = cell.byte; hold = lost_hold cell.hold }

-- the cells after a sync that failed
abbrev pub lost : Moment → Moment
lost moment = map lost_cell moment
