use Rattle.std.proofs.Common.{sym, ◌∙◌, subst}
use Rattle.boot_store.specs.Moment.{Moment, StillKept, synced}
use Rattle.boot_store.proofs.Offered.{same_still, synced_still}
use Rattle.boot_file.proofs.file_disk.sync_both.Goals as goal

pub returns-in-Err-sync_name-clause-unsynced : goal.returns-in-Err-sync_name-clause-unsynced
returns-in-Err-sync_name-clause-unsynced g c h =
    let start = g.F.Blocks.now c.args.file.now in
    let is = c.sync_name.ensures.same (c.sync.ensures.honesty.0 h) ∙ c.in-Ok.ensures.synced h in
    subst (λ (s : Moment). StillKept start s) (sym is) (synced_still start (synced start) (same_still (synced start)))
