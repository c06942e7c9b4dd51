use Rattle.std.proofs.Common.{List, refl, sym, ap, ◌∙◌}
use Rattle.nat_types.specs.declared.pairs.Key.{Key}
use Rattle.activity.specs.Lives.{Activity, life_renewed}
use Rattle.bindings.specs.Lives.{lives_with}
use Rattle.bindings.specs.Stores.{Store}
use Rattle.bindings.proofs.Walks.{behind-less}
use Rattle.bindings.proofs.Renewed.{lives-all, lives-end, lives-next}
use Rattle.bindings.proofs.revivals.renew_all.Goals as goal

pub loop-entry-init : goal.loop-entry-init
loop-entry-init c = record {
  renewed = lives-all (life_renewed c.args.now) c.args.store.now.entries c.args.store.now.lives c.recall.ensures.alike;
  same = refl;
}

pub loop-entry-preserved : goal.loop-entry-preserved
loop-entry-preserved c =
    let s = c.loop-entry.store in
    let e = c.in-Some.entry in
    let i = c.loop-entry.invariant in
    let g = life_renewed c.args.now in
    let new = c.renew.ensures.lives ∙ ap (λ (k : Key). record s { lives = lives_with g k s.entries s.lives }) c.key_of-key.ensures in
    rw (c.key_of-key.ensures, new) (record {
      renewed = lives-next g 0 c.loop-entry.last s.entries s.lives e c.recall-in-Some.ensures.order (sym c.in-Some.ensures) ∙ i.renewed;
      same = ap (λ (t : Store). record t { lives = lives_with g e.pair.key s.entries s.lives }) i.same;
    })

pub loop-entry-smaller : goal.loop-entry-smaller
loop-entry-smaller c =
    let s = c.loop-entry.store in
    let e = c.in-Some.entry in
    rw (c.renew.ensures.lives, c.key_of-key.ensures) (behind-less 0 c.loop-entry.last s.entries e c.recall-in-Some.ensures.order (sym c.in-Some.ensures))

pub returns : goal.returns
returns c =
    let s = c.loop-entry.store in
    let i = c.loop-entry.invariant in
    let end = lives-end (life_renewed c.args.now) c.loop-entry.last s.entries s.lives (sym c.entry_after.ensures ∙ c.in_default.is) in
    i.same ∙ ap (λ (ls : List Activity). record c.args.store.now { lives = ls }) (sym end ∙ i.renewed)
