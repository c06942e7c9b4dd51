use Rattle.std.proofs.Common.{⊎_elim, inl, inr, ℕ, List, ◌∷◌, [], ◌++◌, length, refl, sym, ◌∙◌, ap, subst}
use Rattle.boot_store.specs.Moment.{Moment, written, within_write, synced}
use Rattle.boot_store.specs.Crash.{AfterWrite, LeavesAtLeast, Since, WriteStopped}
use Rattle.boot_store.proofs.Joins.{one_passed, two_passed, then_passed, stored_past, on_err}
use Rattle.boot_store.proofs.Crashes.{same_still}
use Rattle.boot_store.proofs.Numbers.{length-slot}
use Rattle.boot_store.proofs.Stored.{keeps_synced, keeps_still, keeps_written, keeps_within}
use Rattle.boot_store.proofs.starts.store.Goals as goal

pub returns-in_err-write_at-clause-any_moment : goal.returns-in_err-write_at-clause-any_moment
returns-in_err-write_at-clause-any_moment g c h =
    let ready = c.requires.ready h in
    let size = ap length c.slot_of.ensures ∙ length-slot c.args.boot in
    two_passed _ _ _ _ _ (c.write_at.ensures.passes h) (keeps_within _ _ _ size ready) (λ m l. ⊎_elim
    (λ as_before. subst (LeavesAtLeast m) (sym as_before) l)
    (λ torn. subst (LeavesAtLeast m) (sym torn.2) (keeps_written _ torn.0 _ (torn.1 ∙ size) ready m l))
    (c.in_err-write_at.ensures.torn h))

pub returns-in_err-sync-clause-any_moment : goal.returns-in_err-sync-clause-any_moment
returns-in_err-sync-clause-any_moment g c h =
    let ready = c.requires.ready h in
    let size = ap length c.slot_of.ensures ∙ length-slot c.args.boot in
    let h2 = c.write_at.ensures.honesty.0 h in
    then_passed _ _ _ _ (g.D.Disk.now c.write_at.new.self) _
    (two_passed _ _ _ _ _ (c.write_at.ensures.passes h) (keeps_within _ _ _ size ready) (λ m l. subst (LeavesAtLeast m) (sym (c.in_ok-write_at.ensures.written h)) (keeps_written _ _ _ size ready m l)))
    (one_passed _ _ _ _ (c.sync.ensures.passes h2) (keeps_still _ _ (c.in_err-sync.ensures.unsynced h2)))

pub returns-clause-any_moment : goal.returns-clause-any_moment
returns-clause-any_moment g c h =
    let ready = c.requires.ready h in
    let size = ap length c.slot_of.ensures ∙ length-slot c.args.boot in
    let h2 = c.write_at.ensures.honesty.0 h in
    then_passed _ _ _ _ (g.D.Disk.now c.write_at.new.self) _
    (two_passed _ _ _ _ _ (c.write_at.ensures.passes h) (keeps_within _ _ _ size ready) (λ m l. subst (LeavesAtLeast m) (sym (c.in_ok-write_at.ensures.written h)) (keeps_written _ _ _ size ready m l)))
    (one_passed _ _ _ _ (c.sync.ensures.passes h2) (λ m l. subst (LeavesAtLeast m) (sym (c.in_ok-sync.ensures.synced h2)) (keeps_synced _ m l)))

pub returns-clause-stored : goal.returns-clause-stored
returns-clause-stored g c h =
    let h2 = c.write_at.ensures.honesty.0 h in
    c.in_ok-sync.ensures.synced h2 ∙ ap synced (c.in_ok-write_at.ensures.written h ∙ ap (λ x. written c.args.place x (g.D.Disk.now c.args.disk.now)) c.slot_of.ensures)

pub returns-clause-passes : goal.returns-clause-passes
returns-clause-passes g c h =
    let start = g.D.Disk.now c.args.disk.now in
    let slot = c.slot_of.ensures in
    let size = ap length slot ∙ length-slot c.args.boot in
    let last = c.in_ok-write_at.ensures.written h ∙ ap (λ x. written c.args.place x start) slot in
    stored_past _ _ _ start _ _ (within_write c.args.place 16 start)
    (c.write_at.ensures.passes h) (ap (λ (n : ℕ). within_write c.args.place n start) size) (c.sync.ensures.passes (c.write_at.ensures.honesty.0 h))
    ∙ ap (λ (s : Moment). g.D.Disk.past c.args.disk.now ++ start ∷ within_write c.args.place 16 start ∷ s ∷ []) last

pub returns-in_err-write_at-clause-torn : goal.returns-in_err-write_at-clause-torn
returns-in_err-write_at-clause-torn g c h =
    let size = ap length c.slot_of.ensures ∙ length-slot c.args.boot in
    let end = g.D.Disk.now c.write_at.new.self in
    let after : AfterWrite c.args.place (g.D.Disk.now c.args.disk.now) end =
    (end, ⊎_elim (λ as_before. inl as_before) (λ torn. inr (torn.0, torn.1 ∙ size, torn.2)) (c.in_err-write_at.ensures.torn h), same_still end) in
    on_err _ after

pub returns-in_err-sync-clause-torn : goal.returns-in_err-sync-clause-torn
returns-in_err-sync-clause-torn g c h =
    let size = ap length c.slot_of.ensures ∙ length-slot c.args.boot in
    let after : AfterWrite c.args.place (g.D.Disk.now c.args.disk.now) (g.D.Disk.now c.sync.new.self) =
    (g.D.Disk.now c.write_at.new.self, inr (c.slot_of.result, size, c.in_ok-write_at.ensures.written h), c.in_err-sync.ensures.unsynced (c.write_at.ensures.honesty.0 h)) in
    on_err _ after

pub returns-in_err-write_at-clause-stops : goal.returns-in_err-write_at-clause-stops
returns-in_err-write_at-clause-stops g c h =
    let start = g.D.Disk.now c.args.disk.now in
    let moments = start ∷ within_write c.args.place (length c.slot_of.result) start ∷ [] in
    on_err _ (subst (λ (bytes : List ℕ). Since (g.D.Disk.past c.args.disk.now) (g.D.Disk.past c.write_at.new.self) (WriteStopped c.args.place bytes start (g.D.Disk.now c.write_at.new.self)))
    c.slot_of.ensures (moments, c.write_at.ensures.passes h, inl (refl, c.in_err-write_at.ensures.torn h)))
