use Rattle.std.proofs.Common.{◌≡◌, length}
use Rattle.bindings.specs.Entries.{is_sought}
use Rattle.bindings.specs.Lists.{first_after}
use Rattle.bindings.proofs.Walks.{behind}
use Rattle.bindings.proofs.Seeking.{first_passing}
use Rattle.bindings.proofs.rows.next_sought.Given as goal

-- the first of all is the first of those that are left
abbrev pub invariant-loop-entry : goal.invariant-loop-entry
invariant-loop-entry l = first_passing (is_sought l.sought) (behind l.last l.store.entries) ≡ first_after (is_sought l.sought) l.fn.from l.store.entries

abbrev pub decreases-loop-entry : goal.decreases-loop-entry
decreases-loop-entry l = length (behind l.last l.store.entries)
