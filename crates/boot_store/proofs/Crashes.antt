-- A modelled disk's crash, failed sync and read do what the clauses of Disk allow.
use Rattle.std.proofs.Common.{◌≡◌, ◌≢◌, ℕ, suc, List, [], ◌∷◌, length, refl, sym, ap, arith}
use Rattle.std.proofs.Math.Path.{ap₂}
use Rattle.boot_store.specs.declared.disk.Cell.{Cell}
use Rattle.boot_store.specs.declared.disk.Hold.{Hold}
use Rattle.boot_store.specs.declared.disk.Hold.TheVariants.{Kept, Loose, Lost}
use Rattle.boot_store.specs.Moment.{Moment, bytes_of, MayLeave, StillKept, AfterRead, left_by_crash}
use Rattle.boot_store.specs.Cells.{crashed, crashed_byte, crashed_cell, lost, lost_hold, read_once, shown}

less : (m n : ℕ) → suc m ≡ suc n → m ≡ n
less m n e = omega (arith, e)

-- a crash leaves what it may
pub crashed_may : (any : List ℕ) (s : Moment) → length s ≡ length any → MayLeave s (bytes_of (crashed any s))
crashed_may [] [] e = tt
crashed_may [] (cell ∷ s) e = cc
crashed_may (b ∷ any) [] e = tt
crashed_may (b ∷ any) (cell ∷ s) e = ((λ kept. ap (λ h. crashed_byte h b cell.byte) kept), crashed_may any s (less _ _ e))

picked : (h : Hold) (b byte : ℕ) → (h ≡ Kept → b ≡ byte) → crashed_byte h b byte ≡ b
picked Kept b byte may = sym (may refl)
picked Loose b byte may = refl
picked Lost b byte may = refl

-- each outcome of a crash can be picked
pub crashed_picked : (any : List ℕ) (s : Moment) → MayLeave s any → bytes_of (crashed any s) ≡ any
crashed_picked [] [] may = refl
crashed_picked [] (cell ∷ s) may = absurd may
crashed_picked (b ∷ any) [] may = absurd may
crashed_picked (b ∷ any) (cell ∷ s) may = ap₂ (λ (x : ℕ) (xs : List ℕ). x ∷ xs) (picked cell.hold b cell.byte may.0) (crashed_picked any s may.1)

-- after a crash all is kept
pub crashed_kept : (any : List ℕ) (s : Moment) → length s ≡ length any → crashed any s ≡ left_by_crash (bytes_of (crashed any s))
crashed_kept [] [] e = refl
crashed_kept [] (cell ∷ s) e = cc
crashed_kept (b ∷ any) [] e = refl
crashed_kept (b ∷ any) (cell ∷ s) e = ap (λ (l : Moment). crashed_cell b cell ∷ l) (crashed_kept any s (less _ _ e))

still : (h : Hold) (byte : ℕ) → h ≡ Kept → ◌≡◌ {A = Cell} (record { byte = byte; hold = lost_hold h }) (record { byte = byte; hold = h })
still Kept byte is = refl
still Loose byte is = cc
still Lost byte is = cc

-- a sync that fails leaves what was kept
pub lost_still : (s : Moment) → StillKept s (lost s)
lost_still [] = tt
lost_still (cell ∷ s) = (still cell.hold cell.byte, lost_still s)

pub same_still : (s : Moment) → StillKept s s
same_still [] = tt
same_still (cell ∷ s) = ((λ _. refl), same_still s)

shown_same : (h : Hold) (any : ℕ) (cell : Cell) → h ≢ Lost → shown h any cell ≡ cell
shown_same Kept any cell other = refl
shown_same Loose any cell other = refl
shown_same Lost any cell other = absurd (other refl)

shown_kept : (h : Hold) (any : ℕ) (cell : Cell) → h ≡ Lost → (shown h any cell).hold ≡ Kept
shown_kept Kept any cell is = cc
shown_kept Loose any cell is = cc
shown_kept Lost any cell is = refl

-- a read shows what it may
pub shown_may : (any : List ℕ) (s : Moment) → length s ≡ length any → AfterRead s (read_once any s)
shown_may [] [] e = tt
shown_may [] (cell ∷ s) e = cc
shown_may (b ∷ any) [] e = tt
shown_may (b ∷ any) (cell ∷ s) e = (shown_same cell.hold b cell, shown_kept cell.hold b cell, shown_may any s (less _ _ e))
