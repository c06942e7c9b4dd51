use Rattle.std.proofs.Common.{◌∙◌}
use Rattle.bindings.proofs.store.Store.pairs_of.Goals as goal

pub returns : goal.returns
returns c = c.count_of.ensures ∙ rw (← c.self.view_is) (c.self.invariant.0.counted c.args.address)
