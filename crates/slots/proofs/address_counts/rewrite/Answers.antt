use Rattle.std.proofs.Common.{ℕ, ◌<◌}
use Rattle.slots.specs.Counts.{is_address}
use Rattle.slots.proofs.Held.{held-set}
use Rattle.slots.proofs.address_counts.rewrite.Goals as goal

pub returns-in-Some-clause-held : goal.returns-in-Some-clause-held
returns-in-Some-clause-held g c = λ some old. held-set (λ (n : ℕ). 0 < n) (is_address c.args.address) c.args.counts.now.entries (c.get_mut.follows.lender c.args.count).entries c.args.count (c.get_mut.follows.holds c.args.count).0 some old
