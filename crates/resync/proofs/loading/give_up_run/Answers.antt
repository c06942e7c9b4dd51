use Rattle.std.proofs.Common.{◌≡◌, ◌+◌, ℕ, List, ap, ◌∙◌, arith}
use Rattle.bindings.specs.Runs.{without_port}
use Rattle.bindings.specs.Table.{Table}
use Rattle.resync.specs.Loading.{unnamed}
use Rattle.resync.proofs.Giving.{run-given, run-more, unnamed-on}
use Rattle.resync.proofs.loading.give_up_run.Goals as goal

pub returns : goal.returns
returns c =
    let here : c.loop-port.port ≡ c.args.last.0 = omega (arith, c.loop-port.auto.port-end) in
    c.give_up-2.ensures ∙ run-given c.args.table.now c.loop-port.table c.args.first.0 c.args.last.0 c.loop-port.port here c.loop-port.invariant.same c.loop-port.invariant.left

pub loop-port-preserved : goal.loop-port-preserved
loop-port-preserved c =
    let owned = ap (λ (t : Table). t.owned) c.give_up.ensures in
    record {
      left =
          ap (λ (ps : List ℕ). unnamed (c.loop-port.port + 1) c.args.last.0 ps) owned
          ∙ unnamed-on c.loop-port.port c.args.last.0 c.loop-port.table.owned c.loop-port-test.true
          ∙ c.loop-port.invariant.left;
      same = run-more c.args.table.now c.loop-port.table c.give_up.new.table (without_port c.loop-port.port c.loop-port.table.owned) c.loop-port.invariant.same c.give_up.ensures;
    }
