use Rattle.std.proofs.Common.{◌≡◌, List, length, Option, Some, None, refl, sym, ap, ◌∙◌}
use Rattle.nat_types.specs.declared.records.Record.{Record}
use Rattle.link.specs.Link.{Link}
use Rattle.spec_binding.specs.Ledgers.{Ledger, rests_for}
use Rattle.spec_binding.specs.Rows.{answered, taken_answer, taken_behind, taken_book}
use Rattle.spec_binding.proofs.Offered.{change-leaves}
use Rattle.bind_core.specs.Cores.{book_of, ledger_of}
use Rattle.cases_bindings.proofs.side.take_promised.Goals as goal

-- an answer leaves the promised records as they are
answer-leaves : (e : Link) (o : Option Record) → (answered e o).promised ≡ e.promised
answer-leaves e None = refl
answer-leaves e (Some r) = refl

pub returns : goal.returns
returns c =
    let old = c.args.core.now in
    let item = c.args.item.now in
    let link = c.args.link.now in
    let b = book_of old in
    let rests = rests_for c.args.now (ledger_of old) item in
    let more = taken_behind b link rests item in
    ap (λ (l : Ledger). length l.book.coming) c.take.ensures.ledger
    ∙ ap (λ (rs : List Record). length rs) ((change-leaves (taken_book b rests item) more.change).coming ∙ c.rows_leave.ensures.coming b rests item)
    ∙ c.requires.promised
    ∙ sym (
    ap (λ (e : Link). e.promised) c.take.ensures.link
    ∙ answer-leaves (answered link (taken_answer b rests item)) more.answer
    ∙ answer-leaves link (taken_answer b rests item)
    )
