use Rattle.std.proofs.Common.{length, ap, ◌∙◌}
use Rattle.bindings.specs.Ports.{lowest_of, highest_of}
use Rattle.bindings.proofs.Opened.{open-is}
use Rattle.bindings.proofs.table.Table.free_count.Goals as goal

pub returns : goal.returns
returns c =
    let i = c.self.inside in
    rw (← c.self.view_is)
    (c.free_count.ensures.count ∙ ap length (open-is (lowest_of i.zero i.one) (highest_of i.zero i.one) i.store.entries i.ports c.args.protocol c.self.invariant.0.free c.self.invariant.0.same c.free_count.ensures.range c.free_count.ensures.first))
