use Rattle.std.proofs.Common.{◌≡◌, length, rules}
use Rattle.boot_store.proofs.Crashes.{shown_may, same_still}
use Rattle.boot_store.proofs.model.ModelDiskDisk.read.Goals as goal

pub returns-then-eq-clause-read : goal.returns-then-eq-clause-read
returns-then-eq-clause-read c h =
    let same : length c.args.self.now.cells ≡ length c.fate.new.self.any = search rules in
    rw (c.show_cells.ensures, c.fate.ensures.cells) (shown_may c.fate.new.self.any c.args.self.now.cells same)

pub returns-clause-unread : goal.returns-clause-unread
returns-clause-unread c h = rw (c.failed.ensures.cells, c.fate.ensures.cells) (same_still c.args.self.now.cells)
