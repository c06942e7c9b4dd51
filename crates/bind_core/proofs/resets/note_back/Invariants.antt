use Rattle.std.proofs.Common.{◌≡◌, ◌+◌, ◌-◌, ◌≤◌, ◌++◌, length, vec_len, vec_capacity}
use Rattle.resync.specs.Cursor.{place_after}
use Rattle.spec_binding.specs.Resets.{back_in, retaken}
use Rattle.bind_core.proofs.Walking.{behind}
use Rattle.bind_core.proofs.resets.note_back.Given as goal

-- the pairs of the entries passed are noted
pub record Noted (l : goal.Live-loop-entry) : Type 0 where
  pub items : l.notes.items ++ retaken l.by l.at (back_in (behind l.last l.table.entries)) ≡ l.fn.notes.items ++ retaken l.by l.at (back_in l.table.entries)
  pub len : vec_len l.notes + length (behind l.last l.table.entries) ≤ vec_len l.fn.notes + length l.table.entries
  pub capacity : vec_capacity l.notes ≡ vec_capacity l.fn.notes

abbrev pub invariant-loop-entry : goal.invariant-loop-entry
invariant-loop-entry l = Noted l

abbrev pub decreases-loop-entry : goal.decreases-loop-entry
decreases-loop-entry l = 2000000 - place_after l.last
