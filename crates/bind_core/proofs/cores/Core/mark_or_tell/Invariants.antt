use Rattle.std.proofs.Common.{◌≡◌, ◌+◌, ◌≤◌, ◌++◌, drop, false, vec_len, vec_capacity}
use Rattle.spec_binding.specs.Ledgers.{go_on_all, sought_keys}
use Rattle.bind_core.specs.Cores.{ledger_of}
use Rattle.bind_core.proofs.cores.Core.mark_or_tell.Given as goal

-- going on with the keys that are left gives what going on with all would give
pub record SoFar (l : goal.Live-loop-i) : Type 0 where
  pub ledger : (go_on_all l.apart l.now (drop l.i (sought_keys l.apart l.fn.self.table.entries)) (ledger_of l.self) l.link).ledger ≡ (go_on_all l.apart l.now (sought_keys l.apart l.fn.self.table.entries) (ledger_of l.fn.self) l.fn.link).ledger
  pub link : (go_on_all l.apart l.now (drop l.i (sought_keys l.apart l.fn.self.table.entries)) (ledger_of l.self) l.link).link ≡ (go_on_all l.apart l.now (sought_keys l.apart l.fn.self.table.entries) (ledger_of l.fn.self) l.fn.link).link
  pub notes : l.notes.items ++ (go_on_all l.apart l.now (drop l.i (sought_keys l.apart l.fn.self.table.entries)) (ledger_of l.self) l.link).notes ≡ l.fn.notes.items ++ (go_on_all l.apart l.now (sought_keys l.apart l.fn.self.table.entries) (ledger_of l.fn.self) l.fn.link).notes
  pub ready : l.self.table.ready ≡ l.fn.self.table.ready
  pub idle : l.self.idle ≡ sought_keys l.apart l.fn.self.table.entries
  pub len : vec_len l.notes ≤ vec_len l.fn.notes + l.i
  pub still : l.apart ≡ false → vec_len l.notes ≤ vec_len l.fn.notes
  pub capacity : vec_capacity l.notes ≡ vec_capacity l.fn.notes

abbrev pub invariant-loop-i : goal.invariant-loop-i
invariant-loop-i l = SoFar l
