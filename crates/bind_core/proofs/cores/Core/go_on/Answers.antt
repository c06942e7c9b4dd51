use Rattle.std.proofs.Common.{◌≡◌, ◌<◌, Bool, true, is_some, ◌++◌, length, sym, ap, subst, ◌∙◌, arith}
use Rattle.std.proofs.lemmas.List.{length-append}
use Rattle.std.specs.Option.{IfSome}
use Rattle.link.specs.Grammar.{IsWellFormedRecord}
use Rattle.link.specs.Link.{free_places}
use Rattle.spec_binding.specs.declared.changes.Transition.{Transition}
use Rattle.spec_binding.specs.Books.{IsBook, is_promised}
use Rattle.spec_binding.specs.Rows.{after, alone_row, answered, is_full, noted_by}
use Rattle.spec_binding.specs.WellFormed.{Fits}
use Rattle.bind_core.specs.Changes.{IsSteady, adds}
use Rattle.bind_core.specs.Cores.{Core, book_of}
use Rattle.bind_core.proofs.Deciding.{alone-steady, alone-adds, alone-places}
use Rattle.bind_core.proofs.GoingOn.{noted-most}
use Rattle.bind_core.proofs.Performing.{ledger-then, ready-kept}
use Rattle.bind_core.proofs.cores.Core.go_on.Goals as goal

pub perform-requires-clause-fits : goal.perform-requires-clause-fits
perform-requires-clause-fits c =
    let b = book_of c.args.self.now in
    subst (λ (x : Transition). Fits b x.change) (sym c.alone_row_of-row.ensures) (c.alone_rows.ensures.fit b c.args.apart c.is_link_full-full.result c.args.key c.recall.ensures.book)

pub perform-requires-clause-kept : goal.perform-requires-clause-kept
perform-requires-clause-kept c =
    let b = book_of c.args.self.now in
    subst (λ (x : Transition). IsBook (after b x)) (sym c.alone_row_of-row.ensures) (c.alone_rows.ensures.book b c.args.apart c.is_link_full-full.result c.args.key c.recall.ensures.book)

pub perform-requires-clause-formed : goal.perform-requires-clause-formed
perform-requires-clause-formed c =
    let b = book_of c.args.self.now in
    subst (λ (x : Transition). IfSome x.answer IsWellFormedRecord) (sym c.alone_row_of-row.ensures) (c.alone_rows.ensures.answer b c.args.apart c.is_link_full-full.result c.args.key c.recall.ensures.book)

pub perform-requires-clause-ready : goal.perform-requires-clause-ready
perform-requires-clause-ready c =
    subst (λ (x : Transition). adds x.change ≡ true → 0 < c.args.self.now.table.ready) (sym c.alone_row_of-row.ensures) (λ h. let no = alone-adds (book_of c.args.self.now) c.args.apart c.is_link_full-full.result c.args.key in absurd (cc))

pub perform-requires-clause-steady : goal.perform-requires-clause-steady
perform-requires-clause-steady c =
    let b = book_of c.args.self.now in
    subst (λ (x : Transition). is_promised b ≡ true → IsSteady b x.change) (sym c.alone_row_of-row.ensures) (λ promised. alone-steady b c.args.apart c.is_link_full-full.result c.args.key)

pub perform-requires-clause-places : goal.perform-requires-clause-places
perform-requires-clause-places c =
    let b = book_of c.args.self.now in
    let is = c.alone_row_of-row.ensures ∙ ap (λ (full : Bool). alone_row b c.args.apart full c.args.key) c.is_link_full-full.ensures in
    subst (λ (x : Transition). is_some x.answer ≡ true → 0 < free_places c.args.link.now) (sym is) (alone-places b c.args.link.now c.args.apart c.args.key)

pub returns : goal.returns
returns c =
    let b = book_of c.args.self.now in
    let is = c.alone_row_of-row.ensures ∙ ap (λ (full : Bool). alone_row b c.args.apart full c.args.key) c.is_link_full-full.ensures in
    let row = alone_row b c.args.apart (is_full c.args.link.now) c.args.key in
    let notes = c.perform.ensures.notes ∙ ap (λ (x : Transition). c.args.notes.now.items ++ noted_by c.args.self.now.id c.args.now x.what) is in
    let made = ap length notes ∙ length-append c.args.notes.now.items (noted_by c.args.self.now.id c.args.now row.what) in
    let most = noted-most b c.args.apart (is_full c.args.link.now) c.args.key c.args.now in
    let had = c.args.notes.now.ok.0 in
    let has = c.perform.new.notes.ok.0 in
    record {
      ledger = ledger-then c.args.now c.args.self.now c.perform.new.self c.alone_row_of-row.result row c.perform.ensures.core is;
      link = c.perform.ensures.link ∙ ap (λ (x : Transition). answered c.args.link.now x.answer) is;
      notes = notes;
      ready = ready-kept c.args.now c.args.self.now c.perform.new.self c.alone_row_of-row.result (ap (λ (x : Transition). adds x.change) c.alone_row_of-row.ensures ∙ alone-adds b c.args.apart c.is_link_full-full.result c.args.key) c.perform.ensures.core;
      idle = ap (λ (k : Core). k.idle) c.perform.ensures.core;
      len = omega (arith, made, most, had, has);
      capacity = c.perform.ensures.capacity;
    }
