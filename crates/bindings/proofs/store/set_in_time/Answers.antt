use Rattle.std.proofs.Common.{Some, None, sym, ap, ◌∙◌, arith}
use Rattle.std.proofs.lemmas.List.{get_or-set_same}
use Rattle.slots.specs.Dues.{Dues, moment_of}
use Rattle.bindings.proofs.Timed.{timed-by, due-by}
use Rattle.bindings.proofs.store.set_in_time.Goals as goal

pub returns-then-not-is_due_by-clause-timed : goal.returns-then-not-is_due_by-clause-timed
returns-then-not-is_due_by-clause-timed c =
    let rows = c.args.slots.now.rows in
    let n = c.in-Some.number in
    let has = sym c.in-Some.ensures in
    let below = c.recall.ensures.below c.args.key n has in
    let set = ap (λ (d : Dues). moment_of d.moments n) c.set.ensures in
    let within = c.requires.count in
    timed-by c.args.watch rows c.args.key n c.in-Some-at.item.now c.set.new.self.moments c.due-due.result has (sym (c.in-Some-at.ensures.item c.args.key has))
    (set ∙ get_or-set_same c.args.dues.now.moments n.0 (Some c.due-due.result) None (omega (arith, below, within)))
    (let e = c.due-due.ensures in omega (arith, e))

pub returns-else-not-is_due_by-clause-timed : goal.returns-else-not-is_due_by-clause-timed
returns-else-not-is_due_by-clause-timed c =
    let rows = c.args.slots.now.rows in
    let n = c.in-Some.number in
    let has = sym c.in-Some.ensures in
    let there = due-by c.due-due.result (moment_of c.args.dues.now.moments n) (let a = c.is_due_by.ensures in let b = c.if-not-is_due_by.false in cc) in
    timed-by c.args.watch rows c.args.key n c.in-Some-at.item.now c.args.dues.now.moments there.0 has (sym (c.in-Some-at.ensures.item c.args.key has)) there.1
    (let e = c.due-due.ensures in let le = there.2 in omega (arith, e, le))
