use Rattle.std.proofs.Common.{◌-◌, ◌<◌, ◌∷◌, Some, sym, ap, subst, ◌∙◌, arith}
use Rattle.std.proofs.lemmas.Bool.{cond-true, cond-false}
use Rattle.nat_types.specs.declared.pairs.Key.{Key}
use Rattle.nat_types.specs.declared.pairs.Pair.{Pair}
use Rattle.link.specs.Grammar.{IsWellFormedPair}
use Rattle.resync.specs.Batch.{is_settled}
use Rattle.resync.specs.Cursor.{pairs_behind, place_after}
use Rattle.resync.proofs.Behind.{table-strict, found-sent, pairs-next, pairs-none, place-on, place-small}
use Rattle.resync.proofs.cursor.next_pair.Goals as goal

pub returns-then-is_settled_state-clause-some : goal.returns-then-is_settled_state-clause-some
returns-then-is_settled_state-clause-some c =
    let es = c.args.table.now.entries in
    let e = c.in-Some.entry in
    c.loop-entry.invariant
    ∙ pairs-next c.loop-entry.last 0 es e (table-strict c.args.table.now c.recall.ensures c.requires) (sym c.entry_after.ensures ∙ c.in-Some.is)
    ∙ cond-true (is_settled e.state) (e.pair ∷ pairs_behind (Some e.pair.key) es) (pairs_behind (Some e.pair.key) es) (sym c.is_settled_state.ensures ∙ c.if-is_settled_state.true)
    ∙ ap (λ (p : Pair). p ∷ pairs_behind (Some p.key) es) (sym c.pair_of.ensures)

pub returns-then-is_settled_state-clause-formed : goal.returns-then-is_settled_state-clause-formed
returns-then-is_settled_state-clause-formed c =
    subst (λ (p : Pair). IsWellFormedPair p) (sym c.pair_of.ensures) (found-sent c.args.table.now c.loop-entry.last c.in-Some.entry c.recall.ensures c.requires (sym c.entry_after.ensures ∙ c.in-Some.is))

pub loop-entry-smaller : goal.loop-entry-smaller
loop-entry-smaller c =
    let found = sym c.entry_after.ensures ∙ c.in-Some.is in
    let on = place-on c.loop-entry.last c.args.table.now.entries c.in-Some.entry found in
    let formed = found-sent c.args.table.now c.loop-entry.last c.in-Some.entry c.recall.ensures c.requires found in
    let small = place-small c.in-Some.entry.pair.key formed.key.1 in
    subst (λ (k : Key). 2000000 - place_after (Some k) < 2000000 - place_after c.loop-entry.last) (sym c.key_of.ensures) (omega (arith, on, small))

pub loop-entry-preserved : goal.loop-entry-preserved
loop-entry-preserved c =
    let es = c.args.table.now.entries in
    let e = c.in-Some.entry in
    c.loop-entry.invariant
    ∙ pairs-next c.loop-entry.last 0 es e (table-strict c.args.table.now c.recall.ensures c.requires) (sym c.entry_after.ensures ∙ c.in-Some.is)
    ∙ cond-false (is_settled e.state) (e.pair ∷ pairs_behind (Some e.pair.key) es) (pairs_behind (Some e.pair.key) es) (sym c.is_settled_state.ensures ∙ c.if-is_settled_state.false)
    ∙ ap (λ (k : Key). pairs_behind (Some k) es) (sym c.key_of.ensures)

pub returns-clause-none : goal.returns-clause-none
returns-clause-none c = c.loop-entry.invariant ∙ pairs-none c.loop-entry.last c.args.table.now.entries (sym c.entry_after.ensures ∙ c.in_default.is)
