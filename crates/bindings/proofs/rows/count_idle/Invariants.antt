use Rattle.std.proofs.Common.{◌≡◌, ◌+◌, ◌≤◌, drop}
use Rattle.std.specs.List.{count_by}
use Rattle.bindings.specs.Dues.{is_idle_key}
use Rattle.bindings.proofs.rows.count_idle.Given as goal

-- the count is that of the idle keys so far, and those that are left are added
abbrev pub invariant-loop-key : goal.invariant-loop-key
invariant-loop-key l = record {
  so_far : l.count + count_by (is_idle_key l.watch l.now l.store.entries l.store.lives) (drop l.key-index l.keys) ≡ count_by (is_idle_key l.watch l.now l.store.entries l.store.lives) l.keys;
  within : l.count ≤ l.key-index;
}
