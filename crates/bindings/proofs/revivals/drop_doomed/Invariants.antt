use Rattle.std.proofs.Common.{◌≡◌, ◌≤◌, length, not}
use Rattle.std.specs.List.{filter, find}
use Rattle.bindings.specs.Entries.{is_pair}
use Rattle.bindings.specs.Ports.{AreAlike, AreFree, SameBounds, SameOwned}
use Rattle.bindings.specs.Revivals.{lives_of_pairs}
use Rattle.bindings.proofs.Walks.{behind}
use Rattle.bindings.proofs.revivals.drop_doomed.Given as goal

-- the pairs and their lives stay, and each Doomed entry that is left is after the last entry seen
abbrev pub invariant-loop-entry : goal.invariant-loop-entry
invariant-loop-entry l = record {
  same : AreAlike l.fn.ports.tcp.lowest l.fn.ports.tcp.highest l.ports;
  free : AreFree l.fn.ports.tcp.lowest l.fn.ports.tcp.highest l.store.entries l.ports;
  pairs : filter (λ e. is_pair e.state) l.store.entries ≡ filter (λ e. is_pair e.state) l.fn.store.entries;
  kept : lives_of_pairs l.store.entries l.store.lives ≡ lives_of_pairs l.fn.store.entries l.fn.store.lives;
  first : find (λ e. not (is_pair e.state)) l.store.entries ≡ find (λ e. not (is_pair e.state)) (behind l.last l.store.entries);
  room : l.store.room ≡ l.fn.store.room;
  spare : l.fn.store.spare ≤ l.store.spare;
  hashers : l.store.hashers ≡ l.fn.store.hashers;
  owned : SameOwned l.fn.ports l.ports;
  bounds : SameBounds l.fn.ports l.ports;
}

abbrev pub decreases-loop-entry : goal.decreases-loop-entry
decreases-loop-entry l = length (behind l.last l.store.entries)
