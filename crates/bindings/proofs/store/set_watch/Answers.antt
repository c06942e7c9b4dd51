use Rattle.std.proofs.Common.{◌≡◌, true}
use Rattle.bindings.specs.Dues.{covers}
use Rattle.bindings.proofs.Timed.{timed-as}
use Rattle.bindings.proofs.store.set_watch.Goals as goal

pub returns-else-not-covers-clause-timed : goal.returns-else-not-covers-clause-timed
returns-else-not-covers-clause-timed c =
    let all : covers c.args.was c.args.watch ≡ true = let a = c.covers.ensures in let b = c.if-not-covers.false in cc in
    timed-as c.args.was c.args.watch c.args.dues.now.moments c.args.slots.now.rows all c.requires.timed
