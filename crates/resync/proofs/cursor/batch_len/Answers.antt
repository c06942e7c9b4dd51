use Rattle.std.proofs.Common.{arith}
use Rattle.resync.proofs.Drawing.{batch-length}
use Rattle.resync.proofs.cursor.batch_len.Goals as goal

pub returns : goal.returns
returns c =
    let total = batch-length c.args.table.now.owned c.args.table.now.entries c.recall.ensures.keys c.requires.settled in
    omega (arith, total)
