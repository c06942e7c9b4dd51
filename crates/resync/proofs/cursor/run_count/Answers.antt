use Rattle.std.proofs.Common.{ℕ, List, length, ap, arith}
use Rattle.bindings.specs.Runs.{runs_of}
use Rattle.resync.proofs.Ahead.{all-ahead}
use Rattle.resync.proofs.cursor.run_count.Goals as goal

pub loop-next-init : goal.loop-next-init
loop-next-init c =
    let all = ap (λ (ps : List ℕ). length (runs_of ps)) (all-ahead c.args.table.now.owned) in
    record { counted = omega (arith, all); few = omega arith }
