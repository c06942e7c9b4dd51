use Rattle.std.proofs.Common.{◌≡◌, ◌<◌, Bool, true, is_some, sym, ap, subst, ◌∙◌}
use Rattle.std.specs.Option.{IfSome}
use Rattle.link.specs.Grammar.{IsWellFormedRecord}
use Rattle.link.specs.Link.{free_places}
use Rattle.spec_binding.specs.declared.changes.Transition.{Transition}
use Rattle.bind_core.specs.Cores.{book_of}
use Rattle.bind_core.specs.Looks.{asked_row}
use Rattle.bind_core.proofs.Asking.{asked-formed, asked-places}
use Rattle.bind_core.proofs.cores.Core.ask_ahead.Goals as goal

pub push_answer-requires-clause-formed : goal.push_answer-requires-clause-formed
push_answer-requires-clause-formed c =
    subst (λ (r : Transition). IfSome r.answer IsWellFormedRecord) (sym c.asked-row.ensures) (asked-formed c.args.is_cause (book_of c.args.self.now) c.is_link_full.result c.args.change)

pub push_answer-requires-clause-places : goal.push_answer-requires-clause-places
push_answer-requires-clause-places c =
    let b = book_of c.args.self.now in
    let is = c.asked-row.ensures ∙ ap (λ (full : Bool). asked_row c.args.is_cause b full c.args.change) c.is_link_full.ensures in
    subst (λ (r : Transition). is_some r.answer ≡ true → 0 < free_places c.args.link.now) (sym is) (asked-places c.args.is_cause b c.args.link.now c.args.change)
