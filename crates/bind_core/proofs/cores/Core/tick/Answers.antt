use Rattle.std.proofs.Common.{◌++◌, List, [], sym, ap, subst, ◌∙◌}
use Rattle.std.proofs.lemmas.List.{append-nil}
use Rattle.nat_types.specs.declared.notes.Note.{Note}
use Rattle.bindings.specs.Table.{idle_keys_of}
use Rattle.spec_binding.specs.Books.{is_lone}
use Rattle.spec_binding.specs.Ledgers.{LetGo}
use Rattle.spec_binding.specs.Machine.{Works}
use Rattle.bind_core.specs.Cores.{book_of, ledger_of}
use Rattle.bind_core.proofs.Releasing.{none-go}
use Rattle.bind_core.proofs.cores.Core.tick.Goals as goal

pub returns-else-may_release-clause-ledger : goal.returns-else-may_release-clause-ledger
returns-else-may_release-clause-ledger c =
    let keys = idle_keys_of c.args.self.now.table (is_lone c.args.self.now.stage) c.args.now in
    sym (ap (λ (g : LetGo). g.ledger) (none-go c.args.now keys (ledger_of c.args.self.now) c.args.link.now (sym c.may_release.ensures ∙ c.if-may_release.false)))

pub returns-else-may_release-clause-link : goal.returns-else-may_release-clause-link
returns-else-may_release-clause-link c =
    let keys = idle_keys_of c.args.self.now.table (is_lone c.args.self.now.stage) c.args.now in
    sym (ap (λ (g : LetGo). g.link) (none-go c.args.now keys (ledger_of c.args.self.now) c.args.link.now (sym c.may_release.ensures ∙ c.if-may_release.false)))

pub returns-else-may_release-clause-notes : goal.returns-else-may_release-clause-notes
returns-else-may_release-clause-notes c =
    let keys = idle_keys_of c.args.self.now.table (is_lone c.args.self.now.stage) c.args.now in
    sym (ap (λ (g : LetGo). c.args.notes.now.items ++ g.notes) (none-go c.args.now keys (ledger_of c.args.self.now) c.args.link.now (sym c.may_release.ensures ∙ c.if-may_release.false)) ∙ append-nil c.args.notes.now.items)

pub returns-else-may_release-clause-works : goal.returns-else-may_release-clause-works
returns-else-may_release-clause-works c = λ h n stands.
    let keys = idle_keys_of c.args.self.now.table (is_lone c.args.self.now.stage) c.args.now in
    let b = book_of c.args.self.now in
    subst (λ (ns : List Note). Works c.args.now [] [] b c.args.link.now n b c.args.link.now n ns h)
    (sym (ap (λ (g : LetGo). g.notes) (none-go c.args.now keys (ledger_of c.args.self.now) c.args.link.now (sym c.may_release.ensures ∙ c.if-may_release.false))))
    (c.works_nothing.ensures c.args.now [] [] b c.args.link.now n h stands)
