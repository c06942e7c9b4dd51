use Rattle.std.proofs.Common.{◌∙◌, filter, sym}
use Rattle.toml.specs.View.{table_view}
use Rattle.settings_file.specs.Missing.{lacks}
use Rattle.settings_file.proofs.Loops.{fails, found_more, found_same, passes}
use Rattle.settings_file.proofs.missing.add_missing.Goals.{then-lacks+in_ok-push, else-lacks}
use Rattle.settings_file.proofs.missing.add_missing.Goals as goal

pub loop-key-preserved : goal.loop-key-preserved
loop-key-preserved c =
    let l = c.loop-key in
    let keys = c.args.keys.now in
    let lacked = lacks (table_view c.args.document.now) in
    let within = c.loop-key-test.true in
    elim c.if-lacks.branch [
      | then-lacks+in_ok-push w ↦ rw w.found-is (found_more (λ ks. filter lacked ks) _ l.found.items _ _ keys l.key-index _ within w.in_ok-push.ensures.items (passes lacked _ _ (sym c.lacks.ensures ∙ w.if-lacks.true)) l.invariant)
      | else-lacks w ↦ rw w.found-is (found_same (λ ks. filter lacked ks) l.found.items _ keys l.key-index _ within (fails lacked _ _ (sym c.lacks.ensures ∙ w.if-lacks.false)) l.invariant)
    ]
