use Rattle.std.proofs.Common.{Some, [], ◌∷◌, ◌++◌, cond, sym, ap, ◌∙◌, append_assoc, append-nil}
use Rattle.bindings.specs.Entries.{is_listed, pairs_in}
use Rattle.bindings.proofs.Walks.{behind, behind-none, behind-less, pairs-next, pairs-end}
use Rattle.bindings.proofs.rows.list_pairs.Goals as goal

pub loop-entry-init : goal.loop-entry-init
loop-entry-init c = rw c.new-pairs.ensures.items (ap (pairs_in (is_listed c.args.translating)) (behind-none c.args.store.now.entries))

pub loop-entry-preserved : goal.loop-entry-preserved
loop-entry-preserved c =
    let es = c.args.store.now.entries in
    let e = c.in-Some.entry in
    let next = pairs-next (is_listed c.args.translating) 0 c.loop-entry.last es e c.recall.ensures.order (sym c.in-Some.ensures) in
    let rest = pairs_in (is_listed c.args.translating) (behind (Some e.pair.key) es) in
    let out = c.loop-entry.pairs.items in
    rw (c.key_of.ensures, c.in_ok-push_if.ensures.items, c.is_listed_state.ensures)
    (append_assoc out (cond (is_listed c.args.translating e.state) (e.pair ∷ []) []) rest ∙ ap (λ ps. out ++ ps) (sym next) ∙ c.loop-entry.invariant)

pub loop-entry-smaller : goal.loop-entry-smaller
loop-entry-smaller c =
    rw c.key_of.ensures (behind-less 0 c.loop-entry.last c.args.store.now.entries c.in-Some.entry c.recall.ensures.order (sym c.in-Some.ensures))

pub returns-clause-items : goal.returns-clause-items
returns-clause-items c =
    let end = pairs-end (is_listed c.args.translating) c.loop-entry.last c.args.store.now.entries (sym c.entry_after.ensures ∙ c.in_default.is) in
    sym (append-nil c.loop-entry.pairs.items) ∙ ap (λ ps. c.loop-entry.pairs.items ++ ps) (sym end) ∙ c.loop-entry.invariant
