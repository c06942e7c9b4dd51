use Rattle.std.proofs.Common.{Option, [], ◌∷◌, ◌++◌, suc, sym, ap, ◌∙◌}
use Rattle.nat_types.specs.declared.notes.NoteKind.{NoteKind}
use Rattle.nat_types.specs.declared.records.Record.{Record}
use Rattle.spec_binding.specs.declared.changes.Transition.{Transition}
use Rattle.spec_binding.specs.Machine.{Works}
use Rattle.spec_binding.specs.Rows.{after, row_of, answered, behind, is_full, noted_by, taken_behind, taken_book, taken_answer, taken_what}
use Rattle.spec_binding.specs.Ledgers.{Ledger, ledger_after, rests_for, taken_ledger}
use Rattle.spec_binding.proofs.Offered.{works-behind}
use Rattle.bind_core.proofs.Asking.{ledger-behind, loaded-behind, ready-behind, taken-behind, taken-ledger-behind}
use Rattle.bind_core.specs.Cores.{book_of, ledger_of}
use Rattle.bind_core.proofs.Performing.{works-as, taken-book, taken-answer, taken-what, taken-ended, loaded-book, loaded-answer, loaded-what, loaded-ended, loaded-ledger}
use Rattle.bind_core.proofs.cores.Core.take.Goals as goal

pub returns-then-is_synced-clause-ledger : goal.returns-then-is_synced-clause-ledger
returns-then-is_synced-clause-ledger c = taken-ledger-behind c.args.now c.args.self.now c.take_synced.new.self c.args.link.now c.args.entry (sym c.is_synced.ensures ∙ c.if-is_synced.true) c.take_synced.ensures.core

pub returns-then-is_synced-clause-ready : goal.returns-then-is_synced-clause-ready
returns-then-is_synced-clause-ready c = ready-behind c.args.now c.args.self.now c.take_synced.new.self c.args.link.now (row_of (book_of c.args.self.now) (rests_for c.args.now (ledger_of c.args.self.now) c.args.entry) c.args.entry) c.take_synced.ensures.core

pub returns-else-is_synced-clause-ledger : goal.returns-else-is_synced-clause-ledger
returns-else-is_synced-clause-ledger c =
    let b = book_of c.args.self.now in
    let l = ledger_of c.args.self.now in
    let loads = sym c.is_synced.ensures ∙ c.if-is_synced.false in
    loaded-ledger c.args.now c.args.self.now c.load.new.self c.args.entry loads c.load.ensures.book c.load.ensures.lives c.load.ensures.refresh c.load.ensures.hashers
    ∙ sym (ap (λ (x : Transition). ledger_after c.args.now x.change (taken_ledger c.args.now l c.args.entry)) (loaded-behind b c.args.link.now (rests_for c.args.now l c.args.entry) c.args.entry loads))

pub returns-then-is_synced-clause-ended : goal.returns-then-is_synced-clause-ended
returns-then-is_synced-clause-ended c =
    c.take_synced.ensures.ended ∙ sym (taken-ended (book_of c.args.self.now) (rests_for c.args.now (ledger_of c.args.self.now) c.args.entry) c.args.entry (sym c.is_synced.ensures ∙ c.if-is_synced.true))

pub returns-then-is_synced-clause-link : goal.returns-then-is_synced-clause-link
returns-then-is_synced-clause-link c =
    let b = book_of c.args.self.now in
    let rests = rests_for c.args.now (ledger_of c.args.self.now) c.args.entry in
    let synced = sym c.is_synced.ensures ∙ c.if-is_synced.true in
    c.take_synced.ensures.link
    ∙ sym (ap (λ (o : Option Record). answered (answered c.args.link.now o) (taken_behind b c.args.link.now rests c.args.entry).answer) (taken-answer b rests c.args.entry synced)
    ∙ ap (λ (x : Transition). answered (answered c.args.link.now (row_of b rests c.args.entry).answer) x.answer) (taken-behind b c.args.link.now rests c.args.entry synced))

pub returns-then-is_synced-clause-notes : goal.returns-then-is_synced-clause-notes
returns-then-is_synced-clause-notes c =
    c.take_synced.ensures.notes
    ∙ sym (ap (λ (what : Option NoteKind). c.args.notes.now.items ++ noted_by c.args.self.now.id c.args.now what)
    (taken-what (book_of c.args.self.now) (rests_for c.args.now (ledger_of c.args.self.now) c.args.entry) c.args.entry (sym c.is_synced.ensures ∙ c.if-is_synced.true)))

pub returns-else-is_synced-clause-ended : goal.returns-else-is_synced-clause-ended
returns-else-is_synced-clause-ended c = sym (loaded-ended (book_of c.args.self.now) (rests_for c.args.now (ledger_of c.args.self.now) c.args.entry) c.args.entry (sym c.is_synced.ensures ∙ c.if-is_synced.false))

pub returns-else-is_synced-clause-link : goal.returns-else-is_synced-clause-link
returns-else-is_synced-clause-link c =
    let b = book_of c.args.self.now in
    let rests = rests_for c.args.now (ledger_of c.args.self.now) c.args.entry in
    let loads = sym c.is_synced.ensures ∙ c.if-is_synced.false in
    sym (ap (λ (o : Option Record). answered (answered c.args.link.now o) (taken_behind b c.args.link.now rests c.args.entry).answer) (loaded-answer b rests c.args.entry loads)
    ∙ ap (λ (x : Transition). answered c.args.link.now x.answer) (loaded-behind b c.args.link.now rests c.args.entry loads))

pub returns-else-is_synced-clause-notes : goal.returns-else-is_synced-clause-notes
returns-else-is_synced-clause-notes c =
    c.load.ensures.notes
    ∙ sym (ap (λ (what : Option NoteKind). c.args.notes.now.items ++ noted_by c.args.self.now.id c.args.now what)
    (loaded-what (book_of c.args.self.now) (rests_for c.args.now (ledger_of c.args.self.now) c.args.entry) c.args.entry (sym c.is_synced.ensures ∙ c.if-is_synced.false)))

pub returns-then-is_synced-clause-works : goal.returns-then-is_synced-clause-works
returns-then-is_synced-clause-works c = λ h n l offset lone stands turn.
    let b = book_of c.args.self.now in
    let e = c.args.link.now in
    let rests = rests_for c.args.now (ledger_of c.args.self.now) c.args.entry in
    let synced = sym c.is_synced.ensures ∙ c.if-is_synced.true in
    let row = row_of b rests c.args.entry in
    let e1 = answered e row.answer in
    let ns = noted_by b.id c.args.now (taken_what b rests c.args.entry) in
    let first : Works c.args.now (l ∷ []) [] b e n (after b row) e1 (suc n) ns h =
    works-as c.args.now (l ∷ []) [] b e n (taken_book b rests c.args.entry) (after b row) (answered e (taken_answer b rests c.args.entry)) e1 (suc n) ns h
    (sym (taken-book b rests c.args.entry synced)) (sym (ap (answered e) (taken-answer b rests c.args.entry synced)))
    (c.record_works.ensures c.args.now b e n h l offset rests c.args.entry c.recall.ensures.book lone stands turn) in
    works-as c.args.now (l ∷ []) [] b e n (after (after b row) (behind b e row)) (book_of c.take_synced.new.self) (answered e1 (behind b e row).answer) c.take_synced.new.link (suc n) ns h
    (ap (λ (x : Ledger). x.book) (ledger-behind c.args.now c.args.self.now c.take_synced.new.self e row c.take_synced.ensures.core)) c.take_synced.ensures.link
    (works-behind c.args.now (l ∷ []) [] b e e1 n (suc n) ns h (is_full e1) row.change first)

pub returns-else-is_synced-clause-works : goal.returns-else-is_synced-clause-works
returns-else-is_synced-clause-works c = λ h n l offset lone stands turn.
    let b = book_of c.args.self.now in
    let e = c.args.link.now in
    let rests = rests_for c.args.now (ledger_of c.args.self.now) c.args.entry in
    let loads = sym c.is_synced.ensures ∙ c.if-is_synced.false in
    let book = c.load.ensures.book ∙ sym (loaded-book b rests c.args.entry loads) in
    works-as c.args.now (l ∷ []) [] b e n (taken_book b rests c.args.entry) (book_of c.load.new.self) (answered e (taken_answer b rests c.args.entry)) e (suc n) _ h book
    (sym (ap (answered e) (loaded-answer b rests c.args.entry loads)))
    (c.record_works.ensures c.args.now b e n h l offset rests c.args.entry c.recall.ensures.book lone stands turn)
