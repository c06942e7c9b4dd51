use Rattle.std.proofs.Common.{List, Some, ◌∷◌, refl, sym, ap, subst, ◌∙◌}
use Rattle.nat_types.specs.declared.pairs.Key.{Key}
use Rattle.bindings.specs.Stores.{entries_of}
use Rattle.bindings.specs.Dues.{AreTimedBut}
use Rattle.bindings.proofs.Kept.{rises-up}
use Rattle.bindings.proofs.Slots.{slot-key}
use Rattle.bindings.proofs.Stored.{next-row, no-next_row, held-by}
use Rattle.bindings.proofs.Timed.{keys_of, timed-again, timed-all, timed-none}
use Rattle.bindings.proofs.Walks.{behind, behind-none, behind-first, behind-less, behind-end}
use Rattle.bindings.proofs.store.set_all.Goals as goal

pub loop-key-init : goal.loop-key-init
loop-key-init c =
    let rows = c.args.slots.now.rows in
    record { timed = rw (behind-none (entries_of rows)) (timed-none c.args.watch c.args.dues.now.moments rows c.requires.keyed); count = refl }

pub loop-key-preserved : goal.loop-key-preserved
loop-key-preserved c =
    let rows = c.args.slots.now.rows in
    let es = entries_of rows in
    let key = c.in-Some.key in
    let next = next-row c.args.slots.now c.loop-key.last key c.requires.keyed c.recall.ensures.order c.in-Some.ensures in
    let own = slot-key es key next.0.entry (held-by rows key next.0 c.requires.keyed next.1) in
    let first = behind-first 0 c.loop-key.last es next.0.entry (rises-up 0 rows c.requires.keyed c.recall.ensures.order) next.2 in
    let listed = ap keys_of first ∙ ap (λ (k : Key). k ∷ keys_of (behind (Some k) es)) own in
    let P : List Key → Type 0 = λ ks. AreTimedBut c.args.watch ks c.loop-key.dues.moments rows in
    record {
      timed = timed-again c.args.watch key (keys_of (behind (Some key) es)) c.loop-key.dues.moments c.set_in_time.new.dues.moments rows c.set_in_time.ensures.others c.set_in_time.ensures.timed (subst P listed c.loop-key.invariant.timed);
      count = c.set_in_time.ensures.count ∙ c.loop-key.invariant.count;
    }

pub loop-key-smaller : goal.loop-key-smaller
loop-key-smaller c =
    let rows = c.args.slots.now.rows in
    let es = entries_of rows in
    let key = c.in-Some.key in
    let next = next-row c.args.slots.now c.loop-key.last key c.requires.keyed c.recall.ensures.order c.in-Some.ensures in
    let own = slot-key es key next.0.entry (held-by rows key next.0 c.requires.keyed next.1) in
    rw (← own) (behind-less 0 c.loop-key.last es next.0.entry (rises-up 0 rows c.requires.keyed c.recall.ensures.order) next.2)

pub returns-clause-timed : goal.returns-clause-timed
returns-clause-timed c =
    let rows = c.args.slots.now.rows in
    let es = entries_of rows in
    let none = no-next_row c.args.slots.now c.loop-key.last c.requires.keyed (sym (sym c.key_after.ensures ∙ c.in_default.is)) in
    let P : List Key → Type 0 = λ ks. AreTimedBut c.args.watch ks c.loop-key.dues.moments rows in
    timed-all c.args.watch c.loop-key.dues.moments rows (subst P (ap keys_of (behind-end c.loop-key.last es none)) c.loop-key.invariant.timed)
