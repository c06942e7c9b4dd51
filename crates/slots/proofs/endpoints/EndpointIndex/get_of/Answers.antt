use Rattle.std.proofs.Common.{ap, ◌∙◌}
use Rattle.slots.specs.Ranks.{slot_in}
use Rattle.slots.proofs.endpoints.EndpointIndex.get_of.Goals as goal

pub returns : goal.returns
returns g c = rw (← c.self.view_is) (c.get.ensures ∙ ap (slot_in c.args.rank) c.places_of.ensures)
