use Rattle.std.proofs.Common.{◌≡◌, ◌+◌, ◌≤◌, ◌++◌, drop, vec_len, vec_capacity}
use Rattle.std.specs.List.{count_by}
use Rattle.bindings.specs.Dues.{idle_among, is_idle_key}
use Rattle.bindings.proofs.rows.list_idle.Given as goal

-- the list has the idle keys so far, and those that are left come after them
abbrev pub invariant-loop-key : goal.invariant-loop-key
invariant-loop-key l = record {
  room : vec_len l.out + count_by (is_idle_key l.watch l.now l.store.entries l.store.lives) (drop l.key-index l.keys) ≤ vec_capacity l.out;
  same : vec_capacity l.out ≡ vec_capacity l.fn.out;
  found : l.out.items ++ idle_among l.watch l.now l.store.entries l.store.lives (drop l.key-index l.keys) ≡ l.fn.out.items ++ idle_among l.watch l.now l.store.entries l.store.lives l.keys;
}
