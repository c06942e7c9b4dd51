use Rattle.bindings.proofs.Unbroken.{found-owned, found-some, found-none}
use Rattle.bindings.proofs.runs.first_owned.Goals as goal

pub returns-clause-owned : goal.returns-clause-owned
returns-clause-owned c = found-owned c.args.range.now c.args.from.0 c.next_owned.result c.next_owned.ensures.some

pub returns-clause-some : goal.returns-clause-some
returns-clause-some c = found-some c.args.range.now c.args.from.0 c.next_owned.result c.recall.ensures c.next_owned.ensures.some

pub returns-clause-none : goal.returns-clause-none
returns-clause-none c = found-none c.args.range.now c.args.from.0 c.next_owned.result c.next_owned.ensures.none
