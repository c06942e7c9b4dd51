use Rattle.std.proofs.Common.{◌<◌, length, add-one, arith}
use Rattle.boot_store.specs.declared.disk.Hold.TheVariants.{Kept}
use Rattle.boot_store.proofs.Loops.{read_more}
use Rattle.boot_store.proofs.cells.read_cells.Goals as goal

pub loop-i-preserved : goal.loop-i-preserved
loop-i-preserved c =
    let within : c.loop-i.i < length c.args.cells.now = omega arith in
    rw (add-one, c.loop-i.invariant) (read_more c.args.cells.now c.args.room.now c.loop-i.i (record { byte = 0; hold = Kept }) within c.requires)
