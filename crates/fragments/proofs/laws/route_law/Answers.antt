use Rattle.fragments.proofs.Making.{taken-route}
use Rattle.fragments.proofs.Routed.{later-route}
use Rattle.fragments.proofs.laws.route_law.Goals as goal

pub returns-clause-whole : goal.returns-clause-whole
returns-clause-whole c = taken-route

pub returns-clause-later : goal.returns-clause-later
returns-clause-later c = later-route
