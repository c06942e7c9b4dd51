use Rattle.std.proofs.Common.{◌≡◌, ◌+◌, ◌≤◌, length}
use Rattle.bind_core.specs.Grants.{spares_between}
use Rattle.bind_core.proofs.grants.count_spare.Given as goal

-- the ports counted so far and those that are left are all
abbrev pub invariant-loop-count : goal.invariant-loop-count
invariant-loop-count l = record {
  end : l.below ≤ 65536;
  counted : length (spares_between l.table.entries l.table.owned l.lowest.0 l.fn.end) ≡ l.count + length (spares_between l.table.entries l.table.owned l.lowest.0 l.below);
}
