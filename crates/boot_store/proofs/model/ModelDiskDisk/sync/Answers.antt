use Rattle.boot_store.proofs.Crashes.{lost_still, same_still}
use Rattle.boot_store.proofs.model.ModelDiskDisk.sync.Goals as goal
use Rattle.boot_store.proofs.model.ModelDiskDisk.sync.Goals.{in-Torn, in-Undone}

pub returns-clause-unsynced : goal.returns-clause-unsynced
returns-clause-unsynced c h = elim c.match-fate.branch [
  | in-Torn w ↦ rw (c.failed.ensures.cells, w.self-is, w.lose_cells.ensures, c.fate.ensures.cells) (lost_still c.args.self.now.cells)
  | in-Undone w ↦ rw (c.failed.ensures.cells, w.self-is, c.fate.ensures.cells) (same_still c.args.self.now.cells)
]
