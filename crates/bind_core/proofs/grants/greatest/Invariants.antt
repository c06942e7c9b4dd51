use Rattle.std.proofs.Common.{◌≡◌, ◌-◌, ◌≤◌, ◌++◌, length, take}
use Rattle.spec_binding.specs.Rows.{as_ports}
use Rattle.bind_core.specs.Grants.{spares_between}
use Rattle.bind_core.proofs.grants.greatest.Given as goal

-- the ports chosen so far and the first of those left are the choice
abbrev pub invariant-loop-taken : goal.invariant-loop-taken
invariant-loop-taken l = record {
  end : l.below ≤ 65536;
  few : length l.granted.ports ≡ l._taken;
  chosen : (as_ports (take l.most (spares_between l.table.entries l.table.owned l.lowest.0 l.fn.end))).ports
      ≡ l.granted.ports ++ (as_ports (take (l.most - l._taken) (spares_between l.table.entries l.table.owned l.lowest.0 l.below))).ports;
}
