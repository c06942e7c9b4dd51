use Rattle.std.proofs.Common.{◌≡◌, ◌<◌, Bool, true, is_some, ◌++◌, sym, ap, subst, ◌∙◌}
use Rattle.std.specs.Option.{IfSome}
use Rattle.link.specs.Grammar.{IsWellFormedRecord}
use Rattle.link.specs.Link.{free_places}
use Rattle.spec_binding.specs.declared.changes.Transition.{Transition}
use Rattle.spec_binding.specs.Books.{IsBook, is_promised}
use Rattle.spec_binding.specs.Ledgers.{may_ask}
use Rattle.spec_binding.specs.Rows.{after, answered, idle_row, noted_by}
use Rattle.spec_binding.specs.WellFormed.{Fits}
use Rattle.bind_core.specs.Changes.{IsSteady, adds}
use Rattle.bind_core.specs.Cores.{Core, book_of}
use Rattle.bind_core.proofs.Deciding.{idle-steady, idle-adds, idle-places, idle-ready}
use Rattle.bind_core.proofs.Performing.{ledger-then, ready-kept}
use Rattle.bind_core.proofs.cores.Core.release.Goals as goal

pub perform-requires-clause-fits : goal.perform-requires-clause-fits
perform-requires-clause-fits c =
    let b = book_of c.args.self.now in
    subst (λ (x : Transition). Fits b x.change) (sym c.idle_row_of-row.ensures) (c.rows_fit.ensures.idle b c.may_ask-ask.result c.args.key c.recall.ensures.book)

pub perform-requires-clause-kept : goal.perform-requires-clause-kept
perform-requires-clause-kept c =
    let b = book_of c.args.self.now in
    subst (λ (x : Transition). IsBook (after b x)) (sym c.idle_row_of-row.ensures) (c.books_keep.ensures.idle b c.may_ask-ask.result c.args.key c.recall.ensures.book)

pub perform-requires-clause-formed : goal.perform-requires-clause-formed
perform-requires-clause-formed c =
    let b = book_of c.args.self.now in
    subst (λ (x : Transition). IfSome x.answer IsWellFormedRecord) (sym c.idle_row_of-row.ensures) (c.answers_fit.ensures.idle b c.may_ask-ask.result c.args.key c.recall.ensures.book)

pub perform-requires-clause-ready : goal.perform-requires-clause-ready
perform-requires-clause-ready c =
    subst (λ (x : Transition). adds x.change ≡ true → 0 < c.args.self.now.table.ready) (sym c.idle_row_of-row.ensures) (idle-ready (book_of c.args.self.now) c.may_ask-ask.result c.args.key _)

pub perform-requires-clause-steady : goal.perform-requires-clause-steady
perform-requires-clause-steady c =
    let b = book_of c.args.self.now in
    subst (λ (x : Transition). is_promised b ≡ true → IsSteady b x.change) (sym c.idle_row_of-row.ensures) (idle-steady b c.may_ask-ask.result c.args.key c.recall.ensures.book)

pub perform-requires-clause-places : goal.perform-requires-clause-places
perform-requires-clause-places c =
    let b = book_of c.args.self.now in
    let is = c.idle_row_of-row.ensures ∙ ap (λ (ask : Bool). idle_row b ask c.args.key) c.may_ask-ask.ensures in
    subst (λ (x : Transition). is_some x.answer ≡ true → 0 < free_places c.args.link.now) (sym is) (idle-places b c.args.now c.args.link.now c.args.key)

pub returns : goal.returns
returns c =
    let b = book_of c.args.self.now in
    let is = c.idle_row_of-row.ensures ∙ ap (λ (ask : Bool). idle_row b ask c.args.key) c.may_ask-ask.ensures in
    let row = idle_row b (may_ask c.args.now b c.args.link.now) c.args.key in
    record {
      ledger = ledger-then c.args.now c.args.self.now c.perform.new.self c.idle_row_of-row.result row c.perform.ensures.core is;
      link = c.perform.ensures.link ∙ ap (λ (x : Transition). answered c.args.link.now x.answer) is;
      notes = c.perform.ensures.notes ∙ ap (λ (x : Transition). c.args.notes.now.items ++ noted_by c.args.self.now.id c.args.now x.what) is;
      ready = ready-kept c.args.now c.args.self.now c.perform.new.self c.idle_row_of-row.result (ap (λ (x : Transition). adds x.change) c.idle_row_of-row.ensures ∙ idle-adds b c.may_ask-ask.result c.args.key) c.perform.ensures.core;
      idle = ap (λ (k : Core). k.idle) c.perform.ensures.core;
      len = c.perform.ensures.len;
      capacity = c.perform.ensures.capacity;
    }
