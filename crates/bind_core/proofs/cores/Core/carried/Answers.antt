use Rattle.std.proofs.Common.{◌≡◌, Bool, true, is_some, List, [], ◌++◌, sym, ap, subst, ◌∙◌}
use Rattle.nat_types.specs.declared.notes.Note.{Note}
use Rattle.activity.specs.Lives.{with_packet}
use Rattle.bindings.specs.Table.{IsPast}
use Rattle.spec_binding.specs.declared.changes.Transition.{Transition}
use Rattle.spec_binding.specs.Rows.{after, answered, carry_row}
use Rattle.spec_binding.specs.Uses.{use_counts}
use Rattle.bind_core.specs.Cores.{Core, book_of, ledger_of, packet_at}
use Rattle.bind_core.specs.View.{core_of}
use Rattle.bind_core.proofs.Carried.{noted-is}
use Rattle.bind_core.proofs.Performing.{works-as, carry-quiet, same-carried}
use Rattle.bind_core.proofs.cores.Core.carried.Goals as goal

pub returns-clause-works : goal.returns-clause-works
returns-clause-works c = rw (← c.self.view_is) (λ e h n stands.
    let k = core_of c.self.inside in
    let quiet = carry-quiet (book_of k) e c.args.key in
    let packet = packet_at k c.args.remote c.args.way c.args.flags c.args.now in
    works-as c.args.now [] [] (book_of k) e n (after (book_of k) (carry_row (book_of k) c.args.key)) _ (answered e (carry_row (book_of k) c.args.key).answer) e n _ h
    (same-carried k c.carry_by-counts.new.table c.self.inside.cursor c.carry_by-counts.ensures.same ∙ sym quiet.0) (sym quiet.1)
    (c.carry_works.ensures c.args.now (book_of k) e n h (use_counts (ledger_of k) c.args.key packet) c.args.key stands))

pub returns-clause-notes : goal.returns-clause-notes
returns-clause-notes c = rw (← c.self.view_is) (
    let k = core_of c.self.inside in
    let packet = packet_at k c.args.remote c.args.way c.args.flags c.args.now in
    c.note.ensures.items
    ∙ ap (λ (ns : List Note). c.args.notes.now.items ++ ns)
    (noted-is k c.args.key packet c.carry_row_of-row.result c.carry_by-counts.result c.is_some.result (c.carry_row_of-row.ensures ∙ ap (λ (x : Core). carry_row (book_of x) c.args.key) (sym c.self.view_is)) c.is_some.ensures c.carry_by-counts.ensures.counts))

pub returns-clause-longer : goal.returns-clause-longer
returns-clause-longer c = λ used past has.
    let on : is_some c.carry_row_of-row.result.what ≡ true = ap (λ (r : Transition). is_some r.what) c.carry_row_of-row.ensures ∙ used in
    let old : IsPast c.self.inside.table c.args.key past = subst (λ (x : Core). IsPast x.table c.args.key past) (sym c.self.view_is) has in
    subst (λ (refresh : Bool). IsPast c.carry_by-counts.new.table c.args.key (with_packet (record { remote = c.args.remote; way = c.args.way; flags = c.args.flags; inward_refresh = refresh; at = c.args.now }) past))
    (ap (λ (x : Core). x.inward_refresh) c.self.view_is) (c.carry_by-counts.ensures.longer (c.is_some.ensures ∙ on) past old)
