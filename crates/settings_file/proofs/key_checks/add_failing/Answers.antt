use Rattle.std.proofs.Common.{◌+◌, ◌∷◌, [], drop, false, get_or}
use Rattle.settings_file.specs.declared.keys.Section.TheVariants.{Ports}
use Rattle.settings_file.specs.Faults.{all_bad}
use Rattle.settings_file.specs.Keys.{whole}
use Rattle.settings_file.proofs.Loops.{bad_row, found_more, found_same, good_row}
use Rattle.settings_file.proofs.key_checks.add_failing.Goals.{then-not-passes+in_ok-push, else-not-passes}
use Rattle.settings_file.proofs.key_checks.add_failing.Goals as goal

pub loop-key-preserved : goal.loop-key-preserved
loop-key-preserved c =
    let l = c.loop-key in
    let rows = c.args.rows.now in
    let row = get_or rows l.key-index (whole Ports, false) in
    let rest = drop (l.key-index + 1) rows in
    let within = c.loop-key-test.true in
    elim c.if-not-passes.branch [
      | then-not-passes+in_ok-push w ↦ rw w.found-is (found_more all_bad _ l.found.items _ (row.0 ∷ []) rows l.key-index (whole Ports, false) within w.in_ok-push.ensures.items (bad_row row rest w.if-not-passes.true) l.invariant)
      | else-not-passes w ↦ rw w.found-is (found_same all_bad l.found.items _ rows l.key-index (whole Ports, false) within (good_row row rest w.if-not-passes.false) l.invariant)
    ]
