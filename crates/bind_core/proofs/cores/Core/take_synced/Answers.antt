use Rattle.std.proofs.Common.{◌≡◌, ◌<◌, true, is_some, ◌++◌, sym, ap, subst, ◌∙◌}
use Rattle.std.specs.Option.{IfSome}
use Rattle.link.specs.Grammar.{IsWellFormedRecord}
use Rattle.link.specs.Link.{free_places}
use Rattle.spec_binding.specs.declared.changes.Transition.{Transition}
use Rattle.spec_binding.specs.Books.{IsBook, is_promised}
use Rattle.spec_binding.specs.Ledgers.{rests_for}
use Rattle.spec_binding.specs.Rows.{after, answered, behind, noted_by}
use Rattle.spec_binding.specs.WellFormed.{Fits}
use Rattle.bind_core.specs.Changes.{IsSteady, LivesOn}
use Rattle.bind_core.specs.Cores.{book_of, core_behind, ledger_of}
use Rattle.bind_core.proofs.Deciding.{row-places, row-steady}
use Rattle.bind_core.proofs.Performing.{taken-book}
use Rattle.bind_core.proofs.cores.Core.take_synced.Goals as goal

pub carry_out-requires-clause-fits : goal.carry_out-requires-clause-fits
carry_out-requires-clause-fits c =
    let b = book_of c.args.self.now in
    subst (λ (x : Transition). Fits b x.change) (sym c.row_for-row.ensures) (c.rows_fit.ensures.taken b (rests_for c.args.now (ledger_of c.args.self.now) c.args.entry) c.args.entry c.recall.ensures.book c.requires.formed)

pub carry_out-requires-clause-kept : goal.carry_out-requires-clause-kept
carry_out-requires-clause-kept c =
    let b = book_of c.args.self.now in
    let rests = rests_for c.args.now (ledger_of c.args.self.now) c.args.entry in
    subst (λ (x : Transition). IsBook (after b x)) (sym c.row_for-row.ensures) (subst IsBook (taken-book b rests c.args.entry c.requires.synced) (c.books_keep.ensures.taken b rests c.args.entry c.recall.ensures.book c.requires.formed))

pub carry_out-requires-clause-formed : goal.carry_out-requires-clause-formed
carry_out-requires-clause-formed c =
    let b = book_of c.args.self.now in
    subst (λ (x : Transition). IfSome x.answer IsWellFormedRecord) (sym c.row_for-row.ensures) (c.answers_fit.ensures.row b (rests_for c.args.now (ledger_of c.args.self.now) c.args.entry) c.args.entry c.recall.ensures.book c.requires.formed)

pub carry_out-requires-clause-steady : goal.carry_out-requires-clause-steady
carry_out-requires-clause-steady c =
    let b = book_of c.args.self.now in
    subst (λ (x : Transition). is_promised b ≡ true → IsSteady b x.change) (sym c.row_for-row.ensures) (row-steady b (rests_for c.args.now (ledger_of c.args.self.now) c.args.entry) c.args.entry)

pub carry_out-requires-clause-places : goal.carry_out-requires-clause-places
carry_out-requires-clause-places c =
    let b = book_of c.args.self.now in
    let rests = rests_for c.args.now (ledger_of c.args.self.now) c.args.entry in
    subst (λ (x : Transition). is_some x.answer ≡ true → 0 < free_places c.args.link.now) (sym c.row_for-row.ensures) (row-places b rests c.args.entry _ (c.rows_leave.ensures.answer b rests c.args.entry) c.requires.synced c.requires.places)

pub returns : goal.returns
returns c = record {
  ended = ap (λ (x : Transition). x.ended) c.row_for-row.ensures;
  core = c.carry_out.ensures.core ∙ ap (λ (x : Transition). core_behind c.args.now c.args.self.now c.args.link.now x) c.row_for-row.ensures;
  link = c.carry_out.ensures.link ∙ ap (λ (x : Transition). answered (answered c.args.link.now x.answer) (behind (book_of c.args.self.now) c.args.link.now x).answer) c.row_for-row.ensures;
  pasts = subst (λ (x : Transition). LivesOn c.args.now x.change c.args.self.now.table c.carry_out.new.self.table) c.row_for-row.ensures c.carry_out.ensures.pasts;
  notes = c.carry_out.ensures.notes ∙ ap (λ (x : Transition). c.args.notes.now.items ++ noted_by c.args.self.now.id c.args.now x.what) c.row_for-row.ensures;
  len = c.carry_out.ensures.len;
  capacity = c.carry_out.ensures.capacity;
}
