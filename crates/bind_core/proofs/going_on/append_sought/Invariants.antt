use Rattle.std.proofs.Common.{◌≡◌, ◌+◌, ◌≤◌, ◌++◌, length, vec_len, vec_capacity}
use Rattle.spec_binding.specs.Ledgers.{sought_keys}
use Rattle.bind_core.proofs.Walking.{behind}
use Rattle.bind_core.proofs.going_on.append_sought.Given as goal

-- the keys passed are listed
pub record Listed (l : goal.Live-loop-entry) : Type 0 where
  pub items : l.keys.items ++ sought_keys l.apart (behind l.last l.table.entries) ≡ l.fn.keys.items ++ sought_keys l.apart l.table.entries
  pub len : vec_len l.keys + length (sought_keys l.apart (behind l.last l.table.entries)) ≤ vec_len l.fn.keys + length l.table.entries
  pub capacity : vec_capacity l.keys ≡ vec_capacity l.fn.keys

abbrev pub invariant-loop-entry : goal.invariant-loop-entry
invariant-loop-entry l = Listed l

abbrev pub decreases-loop-entry : goal.decreases-loop-entry
decreases-loop-entry l = length (sought_keys l.apart (behind l.last l.table.entries))
