use Rattle.std.proofs.Common.{◌≡◌, ◌+◌, ◌≤◌, ◌++◌, true, drop, length, vec_len, vec_capacity}
use Rattle.spec_binding.specs.Books.{is_apart}
use Rattle.spec_binding.specs.Ledgers.{release_all}
use Rattle.bind_core.specs.Cores.{book_of, ledger_of, looked_at}
use Rattle.bind_core.proofs.cores.Core.release_idle.Given as goal

-- releasing the keys that are left gives what releasing all would give
pub record SoFar (l : goal.Live-loop-i) : Type 0 where
  pub ledger : (release_all l.now (drop l.i (looked_at l.fn.self l.fn.link l.now)) (ledger_of l.self) l.link).ledger ≡ (release_all l.now (looked_at l.fn.self l.fn.link l.now) (ledger_of l.fn.self) l.fn.link).ledger
  pub link : (release_all l.now (drop l.i (looked_at l.fn.self l.fn.link l.now)) (ledger_of l.self) l.link).link ≡ (release_all l.now (looked_at l.fn.self l.fn.link l.now) (ledger_of l.fn.self) l.fn.link).link
  pub notes : l.notes.items ++ (release_all l.now (drop l.i (looked_at l.fn.self l.fn.link l.now)) (ledger_of l.self) l.link).notes ≡ l.fn.notes.items ++ (release_all l.now (looked_at l.fn.self l.fn.link l.now) (ledger_of l.fn.self) l.fn.link).notes
  pub ready : l.self.table.ready ≡ l.fn.self.table.ready
  pub idle : l.self.idle ≡ looked_at l.fn.self l.fn.link l.now
  pub len : vec_len l.notes ≤ vec_len l.fn.notes + l.i
  pub capacity : vec_capacity l.notes ≡ vec_capacity l.fn.notes
  pub apart : is_apart (book_of l.self) l.link l.now ≡ is_apart (book_of l.fn.self) l.fn.link l.now
  pub few : is_apart (book_of l.fn.self) l.fn.link l.now ≡ true → vec_len l.notes + length l.self.table.entries ≤ vec_len l.fn.notes + length l.fn.self.table.entries

abbrev pub invariant-loop-i : goal.invariant-loop-i
invariant-loop-i l = SoFar l
