use Rattle.std.proofs.Common.{◌≡◌, ◌+◌, arith}
use Rattle.rewrite.specs.Sums.{flow_sum}
use Rattle.rewrite.proofs.Moved.{moved_sum-update}
use Rattle.rewrite.proofs.insides.moved.Goals as goal

pub returns : goal.returns
returns c =
    let d = flow_sum c.args.old in
    let d2 = flow_sum c.args.new in
    let turned : d2 + d ≡ d + d2 = omega arith in
    moved_sum-update c.args.checksum d d2 d d2 c.update_flow.result turned c.update_flow.ensures
