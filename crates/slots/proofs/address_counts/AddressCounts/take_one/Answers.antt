use Rattle.std.proofs.Common.{ℕ, ◌<◌}
use Rattle.slots.specs.Counts.{is_address}
use Rattle.slots.proofs.Held.{held-out}
use Rattle.slots.proofs.address_counts.AddressCounts.take_one.Goals as goal

pub invariant_of-self-else-count-gt1 : goal.invariant_of-self-else-count-gt1
invariant_of-self-else-count-gt1 g c = held-out (λ (n : ℕ). 0 < n) (is_address c.args.address) c.self.inside.counts.entries c.swap_remove.new.self.entries c.swap_remove.ensures.entries c.self.invariant
