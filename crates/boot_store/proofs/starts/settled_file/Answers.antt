use Rattle.std.proofs.Common.{◌≡◌, ◌<◌, ◌≤◌, ℕ, List, length, take, sym, ◌∙◌, ap, subst, arith}
use Rattle.std.proofs.lemmas.List.{length-take, take_all}
use Rattle.boot_store.specs.Moment.{AfterRead, StillKept}
use Rattle.boot_store.specs.Crash.{LeavesAtLeast}
use Rattle.boot_store.proofs.Joins.{one_passed, then_passed, looked_past, on_err}
use Rattle.boot_store.proofs.Leaves.{settled_shows, settled_kept, synced_still}
use Rattle.boot_store.proofs.Stored.{keeps_synced, keeps_still, keeps_read}
use Rattle.boot_store.proofs.starts.settled_file.Goals as goal

pub returns-in_err-settle-clause-any_moment : goal.returns-in_err-settle-clause-any_moment
returns-in_err-settle-clause-any_moment g c h =
    one_passed _ _ _ _ (c.settle.ensures.passes h) (keeps_still _ _ (c.in_err-settle.ensures.unsynced h))

pub returns-in_err-count-clause-any_moment : goal.returns-in_err-count-clause-any_moment
returns-in_err-count-clause-any_moment g c h =
    let h2 = c.settle.ensures.honesty.0 h in
    then_passed _ _ _ _ (g.D.Disk.now c.settle.new.disk) _
    (one_passed _ _ _ _ (c.settle.ensures.passes h) (λ m l. subst (LeavesAtLeast m) (sym (c.in_ok-settle.ensures.synced h)) (keeps_synced _ m l)))
    (one_passed _ _ _ _ (c.read.ensures.passes h2) (keeps_still _ _ (c.in_err-count.ensures.unread h2)))

pub returns-then-count-lt32-clause-any_moment : goal.returns-then-count-lt32-clause-any_moment
returns-then-count-lt32-clause-any_moment g c h =
    let h2 = c.settle.ensures.honesty.0 h in
    then_passed _ _ _ _ (g.D.Disk.now c.settle.new.disk) _
    (one_passed _ _ _ _ (c.settle.ensures.passes h) (λ m l. subst (LeavesAtLeast m) (sym (c.in_ok-settle.ensures.synced h)) (keeps_synced _ m l)))
    (one_passed _ _ _ _ (c.read.ensures.passes h2) (keeps_read _ _ (c.in_ok-count.ensures.read h2)))

pub returns-clause-any_moment : goal.returns-clause-any_moment
returns-clause-any_moment g c h =
    let h2 = c.settle.ensures.honesty.0 h in
    then_passed _ _ _ _ (g.D.Disk.now c.settle.new.disk) _
    (one_passed _ _ _ _ (c.settle.ensures.passes h) (λ m l. subst (LeavesAtLeast m) (sym (c.in_ok-settle.ensures.synced h)) (keeps_synced _ m l)))
    (one_passed _ _ _ _ (c.read.ensures.passes h2) (keeps_read _ _ (c.in_ok-count.ensures.read h2)))

pub returns-then-count-lt32-clause-settled : goal.returns-then-count-lt32-clause-settled
returns-then-count-lt32-clause-settled g c h =
    let read = subst (λ s. AfterRead s (g.D.Disk.now c.read.new.self)) (c.in_ok-settle.ensures.synced h) (c.in_ok-count.ensures.read (c.settle.ensures.honesty.0 h)) in
    (settled_shows _ _ read, settled_kept _ _ read)

pub returns-clause-settled : goal.returns-clause-settled
returns-clause-settled g c h =
    let read = subst (λ s. AfterRead s (g.D.Disk.now c.read.new.self)) (c.in_ok-settle.ensures.synced h) (c.in_ok-count.ensures.read (c.settle.ensures.honesty.0 h)) in
    (settled_shows _ _ read, settled_kept _ _ read)

pub returns-then-count-lt32-clause-whole : goal.returns-then-count-lt32-clause-whole
returns-then-count-lt32-clause-whole g c h =
    short c.in_ok-count.count c.read.new.room _ c.if-count-lt32.true c.read.array_long (c.in_ok-count.ensures.filled (c.settle.ensures.honesty.0 h))
  where
    short : (n : ℕ) (room file : List ℕ) → n < 32 → length room ≡ 32 → take n room ≡ take 32 file → length file < 32
    short n room file few long filled = omega (arith, ap length filled, length-take n room, length-take 32 file)

pub returns-clause-whole : goal.returns-clause-whole
returns-clause-whole g c h =
    whole c.in_ok-count.count c.read.new.room _ c.if-count-lt32.false c.in_ok-count.ensures.count c.read.array_long (c.in_ok-count.ensures.filled (c.settle.ensures.honesty.0 h))
  where
    whole : (n : ℕ) (room file : List ℕ) → 32 ≤ n → n ≤ 32 → length room ≡ 32 → take n room ≡ take 32 file → (32 ≤ length file) × (room ≡ take 32 file)
    whole n room file all most long filled =
        (omega (arith, ap length filled, length-take n room, length-take 32 file), sym (take_all n room (omega (arith, all, long))) ∙ filled)

pub returns-then-count-lt32-clause-looked : goal.returns-then-count-lt32-clause-looked
returns-then-count-lt32-clause-looked g c h =
    looked_past _ _ _ _ _ (c.settle.ensures.passes h) (c.in_ok-settle.ensures.synced h) (c.read.ensures.passes (c.settle.ensures.honesty.0 h))

pub returns-clause-looked : goal.returns-clause-looked
returns-clause-looked g c h =
    looked_past _ _ _ _ _ (c.settle.ensures.passes h) (c.in_ok-settle.ensures.synced h) (c.read.ensures.passes (c.settle.ensures.honesty.0 h))

pub returns-in_err-count-clause-unsettled : goal.returns-in_err-count-clause-unsettled
returns-in_err-count-clause-unsettled g c h =
    on_err _ (synced_still _ _ (subst (λ s. StillKept s (g.D.Disk.now c.read.new.self)) (c.in_ok-settle.ensures.synced h) (c.in_err-count.ensures.unread (c.settle.ensures.honesty.0 h))))
