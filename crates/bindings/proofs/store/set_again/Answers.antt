use Rattle.std.proofs.Common.{List, drop, ◌+◌, ◌∙◌, arith, subst}
use Rattle.std.proofs.lemmas.List.{drop_all, drop_more}
use Rattle.nat_types.specs.declared.pairs.Key.{Key}
use Rattle.bindings.specs.Dues.{AreTimedBut}
use Rattle.bindings.proofs.Timed.{timed-again, timed-all}
use Rattle.bindings.proofs.store.set_again.Goals as goal

pub loop-key-preserved : goal.loop-key-preserved
loop-key-preserved c =
    let rows = c.args.slots.now.rows in
    let keys = c.args.keys.now in
    let i = c.loop-key.key-index in
    let P : List Key → Type 0 = λ ks. AreTimedBut c.args.watch ks c.loop-key.dues.moments rows in
    record {
      timed = timed-again c.args.watch _ (drop (i + 1) keys) c.loop-key.dues.moments c.set_in_time.new.dues.moments rows c.set_in_time.ensures.others c.set_in_time.ensures.timed
          (subst P (drop_more keys i _ (omega (arith, c.loop-key-test.true))) c.loop-key.invariant.timed);
      count = c.set_in_time.ensures.count ∙ c.loop-key.invariant.count;
    }

pub returns-clause-timed : goal.returns-clause-timed
returns-clause-timed c =
    let rows = c.args.slots.now.rows in
    let P : List Key → Type 0 = λ ks. AreTimedBut c.args.watch ks c.loop-key.dues.moments rows in
    timed-all c.args.watch c.loop-key.dues.moments rows (subst P (drop_all c.loop-key.key-index c.args.keys.now (omega (arith, c.loop-key-test.false))) c.loop-key.invariant.timed)
