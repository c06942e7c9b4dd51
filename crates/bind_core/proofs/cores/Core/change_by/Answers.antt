use Rattle.std.proofs.Common.{◌≡◌, ◌<◌, None, true, refl, subst, sym, ap, ◌∙◌, arith}
use Rattle.bindings.specs.Table.{Table}
use Rattle.spec_binding.specs.Books.{IsBook, is_promised}
use Rattle.spec_binding.specs.Rows.{changed, row}
use Rattle.spec_binding.specs.WellFormed.{Fits}
use Rattle.bind_core.specs.Changes.{IsSteady, LivesOn, adds}
use Rattle.bind_core.specs.Cores.{Core, book_of, core_after}
use Rattle.bind_core.specs.View.{core_of}
use Rattle.bind_core.proofs.Performing.{made-after, kept-after, still-between, coming-after, fits-table}
use Rattle.bind_core.proofs.cores.Core.change_by.Goals as goal

pub change_table-requires-clause-fits : goal.change_table-requires-clause-fits
change_table-requires-clause-fits c = fits-table (core_of c.self.inside) c.args.change (subst (λ (k : Core). Fits (book_of k) c.args.change) (sym c.self.view_is) c.requires.fits)

pub change_table-requires-clause-ready : goal.change_table-requires-clause-ready
change_table-requires-clause-ready c = subst (λ (k : Core). adds c.args.change ≡ true → 0 < k.table.ready) (sym c.self.view_is) c.requires.ready

pub invariant_of-self : goal.invariant_of-self
invariant_of-self c =
    let steady = subst (λ (k : Core). is_promised (book_of k) ≡ true → IsSteady (book_of k) c.args.change) (sym c.self.view_is) c.requires.steady in
    let same = c.change_table.ensures.exact in
    let made = made-after c.args.now (core_of c.self.inside) (row c.args.change None None) c.change_table.new.table c.is_wanting-self-inside.result _ same c.is_wanting-self-inside.ensures
    (coming-after record { proposed = c.steady_batch_law.ensures.proposed; turned = c.steady_batch_law.ensures.turned; dropped = c.steady_batch_law.ensures.dropped } c.self.inside.cursor c.args.now c.args.change (core_of c.self.inside) c.change_table.new.table c.self.invariant.book.keys refl steady same) in
    let kept = c.self.invariant.room in
    let places = ap (λ (t : Table). t.capacity) same in
    record {
      book = kept-after c.args.now (core_of c.self.inside) (row c.args.change None None) _ made (subst (λ (k : Core). IsBook (changed c.args.change (book_of k))) (sym c.self.view_is) c.requires.kept);
      bounds = still-between c.self.inside.table c.change_table.new.table c.self.inside.bounds (ap (λ (t : Table). t.zero) same) (ap (λ (t : Table). t.one) same) c.self.invariant.bounds;
      zero = c.self.invariant.zero ∙ sym (ap (λ (t : Table). t.zero) same);
      one = c.self.invariant.one ∙ sym (ap (λ (t : Table). t.one) same);
      room = omega (arith, kept, places);
    }

pub returns-clause-core : goal.returns-clause-core
returns-clause-core c =
    let steady = subst (λ (k : Core). is_promised (book_of k) ≡ true → IsSteady (book_of k) c.args.change) (sym c.self.view_is) c.requires.steady in
    let same = c.change_table.ensures.exact in
    made-after c.args.now (core_of c.self.inside) (row c.args.change None None) c.change_table.new.table c.is_wanting-self-inside.result _ same c.is_wanting-self-inside.ensures
    (coming-after record { proposed = c.steady_batch_law.ensures.proposed; turned = c.steady_batch_law.ensures.turned; dropped = c.steady_batch_law.ensures.dropped } c.self.inside.cursor c.args.now c.args.change (core_of c.self.inside) c.change_table.new.table c.self.invariant.book.keys refl steady same)
    ∙ ap (λ (k : Core). core_after c.args.now k (row c.args.change None None)) c.self.view_is

pub returns-clause-pasts : goal.returns-clause-pasts
returns-clause-pasts c = subst (λ (k : Core). LivesOn c.args.now c.args.change k.table c.change_table.new.table) c.self.view_is c.change_table.ensures.lives
