use Rattle.std.proofs.Common.{◌<◌}
use Rattle.nat_types.specs.contracts.pairs.EndpointPartialEq.TheImpl.{eq-value as endpoint_eq}
use Rattle.slots.specs.declared.ranks.Places.{Places}
use Rattle.slots.specs.Ranks.{slot_count}
use Rattle.slots.proofs.Counted.{put-rewritten}
use Rattle.slots.proofs.Held.{held-put}
use Rattle.slots.proofs.endpoints.insert.Goals as goal

pub returns-clause-rewritten : goal.returns-clause-rewritten
returns-clause-rewritten g c = put-rewritten c.args.map.now.entries c.insert.new.self.entries c.args.endpoint c.args.places c.in-Ok.ensures.entries c.in-Ok.ensures.updates.0

pub returns-clause-served : goal.returns-clause-served
returns-clause-served g c = held-put (λ (p : Places). 0 < slot_count p) endpoint_eq.it c.args.map.now.entries c.insert.new.self.entries c.args.endpoint c.args.places c.in-Ok.ensures.entries c.requires.some
