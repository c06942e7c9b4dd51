use Rattle.std.proofs.Common.{◌≡◌, ◌-◌, ◌≤◌}
use Rattle.std.specs.List.{range_with_len}
use Rattle.bind_core.proofs.deeds.own_range.Given as goal

pub record Owned (l : goal.Live-loop-port) : Type 0 where
  pub from : l.range.lowest.0 ≤ l.port
  pub to : l.port ≤ l.range.highest.0
  pub table : l.table ≡ record l.fn.table { owned = range_with_len l.range.lowest.0 (l.port - l.range.lowest.0) }

abbrev pub invariant-loop-port : goal.invariant-loop-port
invariant-loop-port l = Owned l
