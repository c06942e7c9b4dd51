use Rattle.arp.proofs.Healing.{asked-behind, owner-found}
use Rattle.arp.proofs.laws.true_owner_heals.Goals as goal

pub returns-clause-asked : goal.returns-clause-asked
returns-clause-asked c = asked-behind

pub returns-clause-owner : goal.returns-clause-owner
returns-clause-owner c = owner-found
