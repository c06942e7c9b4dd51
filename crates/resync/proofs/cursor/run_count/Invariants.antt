use Rattle.std.proofs.Common.{◌≡◌, ◌+◌, ◌≤◌, length}
use Rattle.bindings.specs.Runs.{runs_of}
use Rattle.resync.specs.Cursor.{runs_from, ports_ahead}
use Rattle.resync.proofs.cursor.run_count.Given as goal

-- the runs counted and the runs ahead are all runs
abbrev pub invariant-loop-next : goal.invariant-loop-next
invariant-loop-next l = record {
  counted : l.count + length (runs_from l.from l.table.owned) ≡ length (runs_of l.table.owned);
  few : l.count + ports_ahead l.from ≤ 65536;
}

abbrev pub decreases-loop-next : goal.decreases-loop-next
decreases-loop-next l = ports_ahead l.from
