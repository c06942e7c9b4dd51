use Rattle.std.proofs.Common.{◌≡◌}
use Rattle.resync.specs.Loading.{unnamed}
use Rattle.resync.proofs.loading.give_up_run.Given as goal

-- the ports so far are removed, and nothing else changed
abbrev pub invariant-loop-port : goal.invariant-loop-port
invariant-loop-port l = record {
  left : unnamed l.port l.fn.last.0 l.table.owned ≡ unnamed l.fn.first.0 l.fn.last.0 l.fn.table.owned;
  same : l.table ≡ record l.fn.table { owned = l.table.owned };
}
