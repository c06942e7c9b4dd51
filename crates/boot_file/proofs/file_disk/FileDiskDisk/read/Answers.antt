use Rattle.std.proofs.Common.{sym, ◌∙◌, ap, subst}
use Rattle.boot_store.specs.Moment.{StillKept}
use Rattle.boot_store.proofs.Offered.{read_keeps}
use Rattle.boot_file.proofs.file_disk.FileDiskDisk.read.Goals as goal

pub returns-in-Err-fill-clause-unread : goal.returns-in-Err-fill-clause-unread
returns-in-Err-fill-clause-unread g c h =
    let same = ap g.F.Blocks.now c.failed.ensures.file ∙ c.fill.ensures.same (c.drop_cache.ensures.honesty.0 h) in
    subst (StillKept (g.F.Blocks.now c.args.self.now.file)) (sym same) (read_keeps _ _ (c.in-Ok.ensures.dropped h))
