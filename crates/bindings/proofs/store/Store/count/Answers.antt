use Rattle.std.proofs.Common.{◌∙◌}
use Rattle.bindings.specs.Stores.{entries_of}
use Rattle.bindings.proofs.Counts.{tally-is}
use Rattle.bindings.proofs.store.Store.count.Goals as goal

pub returns : goal.returns
returns c = c.get.ensures ∙ rw (← c.self.view_is) (tally-is c.args.sought (entries_of c.self.inside.slots.rows) c.self.inside.tally c.self.invariant.2)
