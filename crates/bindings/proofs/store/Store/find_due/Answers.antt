use Rattle.std.proofs.Common.{arith}
use Rattle.bindings.proofs.Listed.{listed-as, climbs-from}
use Rattle.bindings.proofs.Timed.{timed-but}
use Rattle.bindings.proofs.Merged.{idle-among}
use Rattle.bindings.proofs.store.Store.find_due.Goals as goal

pub set_again-requires-clause-timed : goal.set_again-requires-clause-timed
set_again-requires-clause-timed c =
    let i = c.self.inside in
    let listed = listed-as i.slots.rows c.find.new.self.found c.list_keys.new.keys.items c.sort_keys.new.keys.items c.sort_keys.ensures.permutation c.list_keys.ensures.listed in
    rw (c.deref.ensures.value, c.list_keys.ensures.moments, c.find.ensures.cleared)
    (timed-but c.args.watch c.args.now c.set_watch.new.dues.moments c.find.new.self.found c.sort_keys.new.keys.items i.slots.rows c.find.ensures.found listed c.set_watch.ensures.timed)

pub returns-clause-among : goal.returns-clause-among
returns-clause-among c =
    let i = c.self.inside in
    let listed = listed-as i.slots.rows c.find.new.self.found c.list_keys.new.keys.items c.sort_keys.new.keys.items c.sort_keys.ensures.permutation c.list_keys.ensures.listed in
    rw (← c.self.view_is)
    (idle-among c.args.watch c.args.now c.set_watch.new.dues.moments c.find.new.self.found c.sort_keys.new.keys.items i.slots.rows c.recall.ensures.order c.self.invariant.0.keyed
    c.set_watch.ensures.timed c.find.ensures.found listed (climbs-from 0 _ (λ d some. omega arith) c.sort_keys.ensures.order))
