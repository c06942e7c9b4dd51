use Rattle.std.proofs.Common.{◌≤◌}
use Rattle.bindings.specs.Ports.{is_spare_in}
use Rattle.bindings.proofs.Owning.{NonePast}
use Rattle.bindings.proofs.ports.Ports.spare_below.Given as goal

-- no port from the rest on, below the end, is spare
abbrev pub invariant-loop-rest : goal.invariant-loop-rest
invariant-loop-rest l = record {
  within : l.rest ≤ l.fn.end;
  none : NonePast (is_spare_in l.self) l.rest l.fn.end;
}

abbrev pub decreases-loop-rest : goal.decreases-loop-rest
decreases-loop-rest l = l.rest
