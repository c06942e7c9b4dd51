use Rattle.std.proofs.Common.{◌≡◌, ◌++◌, length}
use Rattle.bindings.specs.Entries.{is_listed, pairs_in}
use Rattle.bindings.proofs.Walks.{behind}
use Rattle.bindings.proofs.rows.list_pairs.Given as goal

-- the list has the pairs so far, and those that are left come after them
abbrev pub invariant-loop-entry : goal.invariant-loop-entry
invariant-loop-entry l = l.pairs.items ++ pairs_in (is_listed l.translating) (behind l.last l.store.entries) ≡ pairs_in (is_listed l.translating) l.store.entries

abbrev pub decreases-loop-entry : goal.decreases-loop-entry
decreases-loop-entry l = length (behind l.last l.store.entries)
