-- The steps of a gateway's routers.
use Rattle.std.specs.Prelude.{◌≡◌}
use Rattle.nat_types.specs.declared.gateways.Side.{Side}
use Rattle.nat_types.specs.declared.gateways.Side.TheVariants.{Inside, Outside}
use Rattle.interfaces.specs.Stations.{Interface, IsRouterStep}
use Rattle.vrrp_states.specs.declared.Action.{Action}
use Rattle.vrrp_states.specs.Table.{Event as RouterEvent}
use Rattle.spec_step.specs.Parts.{acted}
use Rattle.spec_step.specs.Shown.{GatewayAndOutput, station_on}

-- the router on a side takes a step of the state table (RFC 9568, section 6.4), and its action's frames are sent
pub record RouterActs (s : GatewayAndOutput) (side : Side) (event : RouterEvent) (s2 : GatewayAndOutput) : Type 0 where
  pub station : Interface
  pub action : Action
  pub step : IsRouterStep (station_on s.shown side) event s.shown.moment action station
  pub is : s2 ≡ acted s side station action

-- both routers take that step, the router of the inside first
pub record BothAct (s : GatewayAndOutput) (event : RouterEvent) (s2 : GatewayAndOutput) : Type 0 where
  pub between : GatewayAndOutput
  pub inside : RouterActs s Inside event between
  pub outside : RouterActs between Outside event s2
