use Rattle.std.proofs.Common.{◌≡◌, ◌≤◌, length, map}
use Rattle.bindings.specs.Revivals.{woken_entry}
use Rattle.bindings.proofs.Walks.{behind, woken_behind}
use Rattle.bindings.proofs.revivals.wake.Given as goal

-- the entries that are left will wake up, and then all have
abbrev pub invariant-loop-entry : goal.invariant-loop-entry
invariant-loop-entry l = record {
  woken : woken_behind l.last l.store.entries ≡ map woken_entry l.fn.store.entries;
  lives : l.store.lives ≡ l.fn.store.lives;
  room : l.store.room ≡ l.fn.store.room;
  spare : l.fn.store.spare ≤ l.store.spare;
  hashers : l.store.hashers ≡ l.fn.store.hashers;
}

abbrev pub decreases-loop-entry : goal.decreases-loop-entry
decreases-loop-entry l = length (behind l.last l.store.entries)
