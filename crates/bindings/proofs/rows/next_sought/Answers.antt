use Rattle.std.proofs.Common.{sym, ◌∙◌}
use Rattle.bindings.specs.Entries.{is_sought}
use Rattle.bindings.proofs.Walks.{behind-less}
use Rattle.bindings.proofs.Seeking.{first-behind, found-next, skip-next, none-next, none-counted}
use Rattle.bindings.proofs.rows.next_sought.Goals as goal

pub returns-then-count-eq0 : goal.returns-then-count-eq0
returns-then-count-eq0 c = sym (none-counted (is_sought c.args.sought) c.args.from c.args.store.now.entries (sym c.count.ensures ∙ c.if-count-eq0.true))

pub loop-entry-init : goal.loop-entry-init
loop-entry-init c = sym (first-behind (is_sought c.args.sought) c.args.from c.args.store.now.entries)

pub returns-then-is_sought_state : goal.returns-then-is_sought_state
returns-then-is_sought_state c =
    sym (found-next (is_sought c.args.sought) c.loop-entry.last c.args.store.now.entries c.in-Some.entry c.recall.ensures.order (sym c.in-Some.ensures) (sym c.is_sought_state.ensures ∙ c.if-is_sought_state.true))
    ∙ c.loop-entry.invariant

pub loop-entry-preserved : goal.loop-entry-preserved
loop-entry-preserved c =
    rw c.key_of.ensures
    (sym (skip-next (is_sought c.args.sought) c.loop-entry.last c.args.store.now.entries c.in-Some.entry c.recall.ensures.order (sym c.in-Some.ensures) (sym c.is_sought_state.ensures ∙ c.if-is_sought_state.false))
    ∙ c.loop-entry.invariant)

pub loop-entry-smaller : goal.loop-entry-smaller
loop-entry-smaller c =
    rw c.key_of.ensures (behind-less 0 c.loop-entry.last c.args.store.now.entries c.in-Some.entry c.recall.ensures.order (sym c.in-Some.ensures))

pub returns : goal.returns
returns c = sym (none-next (is_sought c.args.sought) c.loop-entry.last c.args.store.now.entries (sym c.entry_after.ensures ∙ c.in_default.is)) ∙ c.loop-entry.invariant
