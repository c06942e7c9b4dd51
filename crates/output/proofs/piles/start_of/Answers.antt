use Rattle.std.proofs.Common.{arith}
use Rattle.output.proofs.Places.{start_within}
use Rattle.output.proofs.piles.start_of.Goals as goal

pub total-requires : goal.total-requires
total-requires c = omega (arith, c.requires.small, start_within c.args.sizes.now c.args.k c.requires.there)

pub returns-clause-end : goal.returns-clause-end
returns-clause-end c = omega (arith, c.total.ensures, start_within c.args.sizes.now c.args.k c.requires.there)
