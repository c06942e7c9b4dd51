use Rattle.std.proofs.Common.{ℕ, ◌+◌, ◌<◌, ap, arith}
use Rattle.slots.specs.Counts.{is_address}
use Rattle.slots.proofs.Counted.{one-more}
use Rattle.slots.proofs.Held.{held-put}
use Rattle.slots.proofs.address_counts.AddressCounts.add_one.Goals as goal

pub returns-clause-counts : goal.returns-clause-counts
returns-clause-counts g c =
    let count = rw (← c.self.view_is) at c.get-count.ensures in
    rw (← c.self.view_is) (one-more c.self.inside.counts.entries c.insert.new.self.entries c.args.address (c.get-count.result + 1) (ap (λ n. n + 1) count) c.in-Ok.ensures.updates.0)

pub invariant_of-self : goal.invariant_of-self
invariant_of-self g c = held-put (λ (n : ℕ). 0 < n) is_address c.self.inside.counts.entries c.insert.new.self.entries c.args.address (c.get-count.result + 1) c.in-Ok.ensures.entries (omega arith) c.self.invariant
