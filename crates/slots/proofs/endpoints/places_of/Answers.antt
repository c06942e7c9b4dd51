use Rattle.std.proofs.Common.{ap, ◌∙◌}
use Rattle.std.specs.Map.{lookup}
use Rattle.std.specs.Option.{unwrap_or}
use Rattle.nat_types.specs.contracts.pairs.EndpointPartialEq.TheImpl.{eq-value as endpoint_eq}
use Rattle.slots.proofs.LookUps.{looked-up}
use Rattle.slots.proofs.endpoints.places_of.Goals as goal

pub returns : goal.returns
returns g c =
    let es = c.args.map.now.entries in
    c.unwrap_or.ensures ∙ ap (λ o. unwrap_or o c.none.result) (c.copied.ensures ∙ c.get.ensures.value)
    ∙ ap (unwrap_or (lookup (endpoint_eq.it c.args.endpoint) es)) c.none.ensures ∙ looked-up es c.args.endpoint
