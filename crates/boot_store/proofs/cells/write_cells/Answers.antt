use Rattle.std.proofs.Common.{◌<◌, length, arith}
use Rattle.boot_store.proofs.Loops.{write_more}
use Rattle.boot_store.proofs.cells.write_cells.Goals as goal

pub loop-i-preserved : goal.loop-i-preserved
loop-i-preserved c =
    let there : c.loop-i.i < length c.args.bytes.now = omega arith in
    rw c.loop-i.invariant (write_more c.args.at c.loop-i.i c.args.bytes.now c.args.cells.now 0 c.requires there)
