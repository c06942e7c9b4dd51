-- The answer of a start, from the bytes that were read.
use Rattle.std.proofs.Common.{◌≡◌, inl, inr, ⊎_elim, ℕ, ◌+◌, ◌<◌, ◌≤◌, ◌^◌, Bool, true, false, ◌&&◌, not, ◌==◌, if◌then◌else◌, List, length, take, drop, [], ◌∷◌, ◌++◌, Option, Some, None, Result, Ok, Err, refl, sym, ◌∙◌, ap, arith, append_assoc}
use Rattle.std.proofs.Math.Path.{ap₂}
use Rattle.std.proofs.lemmas.List.{take-take, drop-take, length-map}
use Rattle.boot_store.specs.declared.faults.BootFault.{BootFault}
use Rattle.boot_store.specs.declared.faults.BootFault.TheVariants.{BootsUsedUp, FoundTwice}
use Rattle.boot_store.specs.Moment.{Moment, MayShow, bytes_of, put, left_by_crash, written, within_write, synced}
use Rattle.boot_store.specs.BootFile.{slot_number, slot_at, greater, number_of, boot_answer, next_place, slot_bytes, with_number}
use Rattle.boot_store.specs.Crash.{LeavesAtLeast, IsReady, AfterFailure, AfterWrite, Since, WritesOnce, WriteStopped, StartStopped, answered_file, looked}
use Rattle.boot_store.proofs.Leaves.{as_read, synced-written}
use Rattle.boot_store.proofs.Numbers.{number_is, kept_slot}
use Rattle.boot_store.proofs.Stored.{new_number}

chosen : (b d : Bool) (n boot : ℕ) (one two : BootFault) → (if b then Err one else (if d then Err two else Ok (n + 1))) ≡ Ok boot → boot ≡ n + 1
chosen true d n boot one two is = cc
chosen false true n boot one two is = cc
chosen false false n boot one two is = cc

-- an answered number follows the file's
pub follows : (found : Bool) (x : Option ℕ) (boot : ℕ) → boot_answer found x ≡ Ok boot → (n : ℕ) × (x ≡ Some n) × (boot ≡ n + 1)
follows found None boot is = cc
follows found (Some n) boot is = (n, refl, chosen (found && not (n == 0)) (n == 18446744073709551615) n boot FoundTwice BootsUsedUp is)

-- a refusal writes nothing
pub unchanged : (answer : Result ℕ BootFault) (fault : BootFault) (file : List ℕ) → answer ≡ Err fault → file ≡ answered_file answer file
unchanged (Ok n) fault file is = cc
unchanged (Err other) fault file is = refl

-- the slots of the 32 bytes that were read
pub slots_read : (bytes file : List ℕ) → file ≡ take 32 bytes → (slot_number (take 16 file) ≡ slot_at 0 bytes) × (slot_number (take 16 (drop 16 file)) ≡ slot_at 16 bytes)
slots_read bytes file is = (
  ap (λ (f : List ℕ). slot_number (take 16 f)) is ∙ ap slot_number (take-take 16 32 bytes (omega arith)),
  ap (λ (f : List ℕ). slot_number (take 16 (drop 16 f))) is ∙ ap (λ (f : List ℕ). slot_number (take 16 f)) (drop-take 16 16 bytes) ∙ ap slot_number (take-take 16 16 (drop 16 bytes) (omega arith)),
)

module _ (t : Moment) (a b : Option ℕ) (steady : left_by_crash (bytes_of t) ≡ t) (long : 32 ≤ length (bytes_of t)) (first_slot : a ≡ slot_at 0 (bytes_of t)) (second_slot : b ≡ slot_at 16 (bytes_of t)) where
  -- the number is that of the two slots
  pub number_read : number_of (bytes_of t) ≡ greater a b
  number_read = number_is (bytes_of t) long ∙ sym (ap₂ greater first_slot second_slot)

  -- the disk is ready for the next number
  pub is_ready : (n : ℕ) → greater a b ≡ Some n → IsReady (next_place a b) t
  is_ready n is =
      let number : number_of (bytes_of t) ≡ Some n = number_read ∙ is in
      record {
        steady = steady;
        long = omega (arith, length-map t (λ cell. cell.byte), long);
        beside = ⊎_elim
            (λ low. inl (low.0, sym second_slot ∙ low.1 ∙ sym number))
            (λ high. inr (high.0, sym first_slot ∙ high.1 ∙ sym number))
            (kept_slot a b n is);
      }

  -- once the number is written and synced, the file has it
  pub file_with : (n : ℕ) → synced (written (next_place a b) (slot_bytes n) t) ≡ left_by_crash (with_number n (bytes_of t))
  file_with n =
      synced-written (next_place a b) (slot_bytes n) t steady
      ∙ ap₂ (λ x y. left_by_crash (put (next_place x y) (slot_bytes n) (bytes_of t))) first_slot second_slot

  -- an answered number is above what each crash before leaves at least, and then each crash leaves at least that number
  pub rises_to : (found : Bool) (boot : ℕ) → boot < 2 ^ 64 → boot_answer found (greater a b) ≡ Ok boot → (m : ℕ) → LeavesAtLeast m t
      → (m < boot) × LeavesAtLeast boot (synced (written (next_place a b) (slot_bytes boot) t))
  rises_to found boot fits is m leaves =
      let n = follows found (greater a b) boot is in
      let has = leaves (bytes_of t) (as_read t) in
      let same : n.0 ≡ has.0 = some_same n.0 has.0 (sym n.1 ∙ sym number_read ∙ has.1) in
      (omega (arith, n.2, has.2, same), new_number (next_place a b) boot t fits (is_ready n.0 n.1))
    where
      some_same : (x y : ℕ) → Some x ≡ Some y → x ≡ y
      some_same x y e = cc

  -- the number is written over one slot, once
  pub writes_once : (start : Moment) (p q r : List Moment) (n : ℕ) → MayShow start (bytes_of t)
      → q ≡ p ++ looked start → r ≡ q ++ t ∷ within_write (next_place a b) 16 t ∷ written (next_place a b) (slot_bytes n) t ∷ []
      → Since p r (WritesOnce start (synced (written (next_place a b) (slot_bytes n) t)) n)
  writes_once start p q r n shows first second =
      let calls : Moment → Option ℕ → Option ℕ → List Moment = λ s x y. looked start ++ s ∷ within_write (next_place x y) 16 s ∷ written (next_place x y) (slot_bytes n) s ∷ [] in
      let slots : calls (left_by_crash (bytes_of t)) a b ≡ calls (left_by_crash (bytes_of t)) (slot_at 0 (bytes_of t)) (slot_at 16 (bytes_of t)) =
      ap₂ (calls (left_by_crash (bytes_of t))) first_slot second_slot in (
        calls t a b,
        second ∙ ap (λ (l : List Moment). l ++ t ∷ within_write (next_place a b) 16 t ∷ written (next_place a b) (slot_bytes n) t ∷ []) first ∙ append_assoc p (looked start) _,
        (bytes_of t, shows, ap (λ (s : Moment). calls s a b) (sym steady) ∙ slots, file_with n),
      )

  -- where the write fails, the end is as after a failure
  pub write_failed : (start end : Moment) → MayShow start (bytes_of t) → AfterWrite (next_place a b) t end → AfterFailure start end
  write_failed start end shows after =
      inr (bytes_of t, shows, rw (← first_slot, ← second_slot, steady) after)

  -- a start whose write fails makes no call after it
  pub start_stopped : (found : Bool) (boot : ℕ) (start end : Moment) (p q r : List Moment)
      → MayShow start (bytes_of t) → boot_answer found (greater a b) ≡ Ok boot
      → q ≡ p ++ looked start → Since q r (WriteStopped (next_place a b) (slot_bytes boot) t end)
      → Since p r (StartStopped found start end)
  start_stopped found boot start end p q r shows is first second = (
    looked start ++ second.0,
    second.1 ∙ ap (λ (l : List Moment). l ++ second.0) first ∙ append_assoc p (looked start) second.0,
    inr (bytes_of t, boot, second.0, shows, rw number_read is, refl, rw (← first_slot, ← second_slot, steady) second.2),
  )
