use Rattle.std.proofs.Common.{ap, ◌∙◌}
use Rattle.std.specs.Option.{unwrap_or}
use Rattle.slots.specs.Ranks.{first_slot, no_places}
use Rattle.slots.proofs.LookUps.{looked-up}
use Rattle.slots.proofs.endpoints.EndpointIndex.get.Goals as goal

pub returns-in-Some : goal.returns-in-Some
returns-in-Some g c =
    rw (← c.self.view_is) (c.first.ensures ∙ ap first_slot (ap (λ o. unwrap_or o no_places) c.in-Some.ensures.value ∙ looked-up c.self.inside.places.entries c.args.endpoint))

pub returns-in-None : goal.returns-in-None
returns-in-None g c =
    rw (← c.self.view_is) (ap first_slot (ap (λ o. unwrap_or o no_places) c.in-None.ensures.value ∙ looked-up c.self.inside.places.entries c.args.endpoint))
