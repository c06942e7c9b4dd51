use Rattle.bindings.specs.Ports.{is_spare}
use Rattle.bind_core.proofs.Granting.{none-between, first-between, none-above}
use Rattle.bind_core.proofs.grants.spare_between.Goals as goal

pub returns-in_err-port-clause-none : goal.returns-in_err-port-clause-none
returns-in_err-port-clause-none c =
    rw c.from_residual.ensures (none-between (is_spare c.args.table.now.entries c.args.table.now.owned) c.args.lowest.0 c.args.end (λ q from below. c.in_err-port.ensures.none q below))

pub returns-then-lowest-port-clause-first : goal.returns-then-lowest-port-clause-first
returns-then-lowest-port-clause-first c =
    first-between (is_spare c.args.table.now.entries c.args.table.now.owned) c.args.lowest.0 c.args.end c.in_ok-port.port.0 c.if-lowest-port.true c.in_ok-port.ensures.some

pub returns-else-lowest-port-clause-none : goal.returns-else-lowest-port-clause-none
returns-else-lowest-port-clause-none c =
    none-above (is_spare c.args.table.now.entries c.args.table.now.owned) c.args.lowest.0 c.args.end c.in_ok-port.port.0 c.if-lowest-port.false c.in_ok-port.ensures.some
