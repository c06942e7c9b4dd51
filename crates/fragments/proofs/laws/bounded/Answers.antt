use Rattle.std.proofs.Common.{◌≡◌, ℕ, true}
use Rattle.nat_types.specs.declared.gateways.Side.{Side}
use Rattle.nat_types.specs.declared.gateways.Side.TheVariants.{Inside, Outside}
use Rattle.std.specs.List.{AllByRecursion}
use Rattle.fragments.specs.Gathered.{Gathered, is_young, of_side, without_old}
use Rattle.fragments.proofs.Keeping.{all-young}
use Rattle.fragments.proofs.Making.{kept-after, kept-none_there, kept-without_old}
use Rattle.fragments.proofs.laws.bounded.Goals as goal

pub returns-clause-none : goal.returns-clause-none
returns-clause-none c = kept-none_there

pub returns-clause-taken : goal.returns-clause-taken
returns-clause-taken c = kept-after

pub returns-clause-dropped : goal.returns-clause-dropped
returns-clause-dropped c = kept-without_old

young-at : (side : Side) (now : ℕ) (g : Gathered) → AllByRecursion (λ d. is_young now d ≡ true) (of_side side (without_old now g))
young-at Inside now g = all-young now g.inside
young-at Outside now g = all-young now g.outside

pub returns-clause-young : goal.returns-clause-young
returns-clause-young c = young-at
