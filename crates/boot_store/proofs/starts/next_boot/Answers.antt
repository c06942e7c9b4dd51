use Rattle.std.proofs.Common.{rules, ◌≡◌, sym, ◌∙◌, ap, subst}
use Rattle.boot_store.specs.Moment.{bytes_of, left_by_crash}
use Rattle.boot_store.specs.BootFile.{number_of, boot_answer}
use Rattle.boot_store.specs.Crash.{LeavesAtLeast, WholeFile}
use Rattle.boot_store.proofs.Joins.{then_passed}
use Rattle.boot_store.proofs.Answered.{follows, unchanged, slots_read, number_read, is_ready, file_with, rises_to, write_failed, writes_once, start_stopped}
use Rattle.boot_store.proofs.starts.next_boot.Goals as goal

pub store-requires-clause-ready : goal.store-requires-clause-ready
store-requires-clause-ready g c h2 =
    let h = c.settled_file.ensures.honesty.1 h2 in
    let file = subst (WholeFile (bytes_of (g.D.Disk.now c.settled_file.new.disk))) c.in-Some.is (c.in_ok-file.ensures.whole h) in
    let slots = slots_read _ _ file.1 in
    let n = follows c.args.found _ _ (sym c.in_ok-boot.ensures.answer) in
    let ready = is_ready (g.D.Disk.now c.settled_file.new.disk) _ _ (c.in_ok-file.ensures.settled h).1 file.0 (c.slot_number-first.ensures ∙ slots.0) (c.slot_number-second.ensures ∙ slots.1) n.0 n.1 in
    rw c.next_place.ensures ready

pub returns-in_err-store-clause-any_moment : goal.returns-in_err-store-clause-any_moment
returns-in_err-store-clause-any_moment g c h =
    then_passed _ _ _ _ (g.D.Disk.now c.settled_file.new.disk) _ (c.settled_file.ensures.any_moment h) (c.store.ensures.any_moment (c.settled_file.ensures.honesty.0 h))

pub returns-clause-any_moment : goal.returns-clause-any_moment
returns-clause-any_moment g c h =
    then_passed _ _ _ _ (g.D.Disk.now c.settled_file.new.disk) _ (c.settled_file.ensures.any_moment h) (c.store.ensures.any_moment (c.settled_file.ensures.honesty.0 h))

pub returns-in_err-boot-clause-decided : goal.returns-in_err-boot-clause-decided
returns-in_err-boot-clause-decided g c h same =
    let settled = c.in_ok-file.ensures.settled h in
    let file = subst (WholeFile (bytes_of (g.D.Disk.now c.settled_file.new.disk))) c.in-Some.is (c.in_ok-file.ensures.whole h) in
    let slots = slots_read _ _ file.1 in
    let number = number_read (g.D.Disk.now c.settled_file.new.disk) _ _ settled.1 file.0 (c.slot_number-first.ensures ∙ slots.0) (c.slot_number-second.ensures ∙ slots.1) in
    let is : c.from_residual-in_err-boot.result ≡ boot_answer c.args.found (number_of (bytes_of (g.D.Disk.now c.settled_file.new.disk))) = rw number (search rules) in
    (bytes_of (g.D.Disk.now c.settled_file.new.disk), settled.0, is, sym settled.1 ∙ ap left_by_crash (unchanged _ _ _ (is ∙ ap (boot_answer c.args.found) number ∙ sym c.in_err-boot.ensures.answer)))

pub returns-clause-decided : goal.returns-clause-decided
returns-clause-decided g c h same =
    let settled = c.in_ok-file.ensures.settled h in
    let file = subst (WholeFile (bytes_of (g.D.Disk.now c.settled_file.new.disk))) c.in-Some.is (c.in_ok-file.ensures.whole h) in
    let slots = slots_read _ _ file.1 in
    let first = c.slot_number-first.ensures ∙ slots.0 in
    let second = c.slot_number-second.ensures ∙ slots.1 in
    let number = number_read (g.D.Disk.now c.settled_file.new.disk) _ _ settled.1 file.0 first second in
    let with = file_with (g.D.Disk.now c.settled_file.new.disk) _ _ settled.1 file.0 first second c.in_ok-boot.boot in
    let stored = c.in_ok-store.ensures.stored (c.settled_file.ensures.honesty.0 h) in
    (bytes_of (g.D.Disk.now c.settled_file.new.disk), settled.0, rw number c.in_ok-boot.ensures.answer, rw (stored, c.next_place.ensures) with)

pub returns-clause-rises : goal.returns-clause-rises
returns-clause-rises g c h m leaves =
    let settled = c.in_ok-file.ensures.settled h in
    let file = subst (WholeFile (bytes_of (g.D.Disk.now c.settled_file.new.disk))) c.in-Some.is (c.in_ok-file.ensures.whole h) in
    let slots = slots_read _ _ file.1 in
    let now : LeavesAtLeast m (g.D.Disk.now c.settled_file.new.disk) = ((c.settled_file.ensures.any_moment h).2 m leaves).1 in
    let stored = c.in_ok-store.ensures.stored (c.settled_file.ensures.honesty.0 h) in
    rw (stored, c.next_place.ensures)
    (rises_to (g.D.Disk.now c.settled_file.new.disk) _ _ settled.1 file.0 (c.slot_number-first.ensures ∙ slots.0) (c.slot_number-second.ensures ∙ slots.1) c.args.found c.in_ok-boot.boot c.in_ok-boot.ensures.fits (sym c.in_ok-boot.ensures.answer) m now)

pub returns-clause-writes : goal.returns-clause-writes
returns-clause-writes g c h =
    let settled = c.in_ok-file.ensures.settled h in
    let file = subst (WholeFile (bytes_of (g.D.Disk.now c.settled_file.new.disk))) c.in-Some.is (c.in_ok-file.ensures.whole h) in
    let slots = slots_read _ _ file.1 in
    let first = c.slot_number-first.ensures ∙ slots.0 in
    let second = c.slot_number-second.ensures ∙ slots.1 in
    let h2 = c.settled_file.ensures.honesty.0 h in
    let stored = c.in_ok-store.ensures.stored h2 in
    let passes = rw c.next_place.ensures at (c.in_ok-store.ensures.passes h2) in
    rw (stored, c.next_place.ensures)
    (writes_once (g.D.Disk.now c.settled_file.new.disk) _ _ settled.1 file.0 first second (g.D.Disk.now c.args.disk.now) _ _ _ c.in_ok-boot.boot settled.0 (c.in_ok-file.ensures.looked h) passes)

pub returns-in_err-store-clause-leaves : goal.returns-in_err-store-clause-leaves
returns-in_err-store-clause-leaves g c h is =
    let settled = c.in_ok-file.ensures.settled h in
    let file = subst (WholeFile (bytes_of (g.D.Disk.now c.settled_file.new.disk))) c.in-Some.is (c.in_ok-file.ensures.whole h) in
    let slots = slots_read _ _ file.1 in
    let first = c.slot_number-first.ensures ∙ slots.0 in
    let second = c.slot_number-second.ensures ∙ slots.1 in
    let torn = rw c.next_place.ensures at (c.in_err-store.ensures.torn (c.settled_file.ensures.honesty.0 h)) in
    write_failed (g.D.Disk.now c.settled_file.new.disk) _ _ settled.1 file.0 first second (g.D.Disk.now c.args.disk.now) _ settled.0 torn

pub returns-in_err-store-clause-stops : goal.returns-in_err-store-clause-stops
returns-in_err-store-clause-stops g c h is =
    let settled = c.in_ok-file.ensures.settled h in
    let file = subst (WholeFile (bytes_of (g.D.Disk.now c.settled_file.new.disk))) c.in-Some.is (c.in_ok-file.ensures.whole h) in
    let slots = slots_read _ _ file.1 in
    let first = c.slot_number-first.ensures ∙ slots.0 in
    let second = c.slot_number-second.ensures ∙ slots.1 in
    let stopped = rw c.next_place.ensures at (c.in_err-store.ensures.stops (c.settled_file.ensures.honesty.0 h)) in
    start_stopped (g.D.Disk.now c.settled_file.new.disk) _ _ settled.1 file.0 first second c.args.found c.in_ok-boot.boot (g.D.Disk.now c.args.disk.now) _ _ _ _ settled.0 (sym c.in_ok-boot.ensures.answer) (c.in_ok-file.ensures.looked h) stopped
