-- The loopback ports that boxes need.
use Rattle.std.specs.Prelude.{◌≡◌, ℕ, Bool, true, false, not, ◌||◌, List, [], ◌∷◌, Option, Some, is_some}
use Rattle.nat_types.specs.declared.gateways.GatewayId.{GatewayId}
use Rattle.settings.specs.declared.whole.Settings.{Settings}
use Rattle.settings.specs.declared.gateway_settings.GatewaySettings.{GatewaySettings}
use Rattle.settings.specs.Ranges.{of_gateway}
use Rattle.settings_file.specs.declared.keys.Section.TheVariants as sections
use Rattle.settings_file.specs.declared.keys.Name.TheVariants.{Wire, Link, InsidePort, OutsidePort}
use Rattle.settings_file.specs.declared.keys.Key.{Key}
use Rattle.settings_file.specs.declared.loopback_ports.OnLoopback.{OnLoopback}
use Rattle.settings_file.specs.declared.loopback_ports.BoxPorts.{BoxPorts}
use Rattle.settings_file.specs.Keys.{key}
use Rattle.settings_file.specs.Faults.{first_bad}

-- all places of a box are on loopback, or none is
abbrev pub everywhere : OnLoopback
everywhere = record { inside = true; outside = true; link = true }

abbrev pub nowhere : OnLoopback
nowhere = record { inside = false; outside = false; link = false }

-- a port is there, if it is needed
abbrev pub is_there_if : Bool → Option ℕ → Bool
is_there_if needed port = not needed || is_some port

-- the keys of the loopback ports, in the order of the text, each with whether it is there if a box needs it: for a side the own port and the wire,
-- for the link the ports of both boxes
unfoldable pub port_rows : Settings → OnLoopback → OnLoopback → List (Key × Bool)
port_rows s zero one =
    (key sections.Inside Wire, is_there_if (zero.inside || one.inside) s.inside.wire)
    ∷ (key sections.Outside Wire, is_there_if (zero.outside || one.outside) s.outside.wire)
    ∷ (key sections.GatewayZero Link, is_there_if (zero.link || one.link) s.zero.link)
    ∷ (key sections.GatewayZero InsidePort, is_there_if zero.inside s.zero.inside_port)
    ∷ (key sections.GatewayZero OutsidePort, is_there_if zero.outside s.zero.outside_port)
    ∷ (key sections.GatewayOne Link, is_there_if (zero.link || one.link) s.one.link)
    ∷ (key sections.GatewayOne InsidePort, is_there_if one.inside s.one.inside_port)
    ∷ (key sections.GatewayOne OutsidePort, is_there_if one.outside s.one.outside_port)
    ∷ []

-- the first key that isn't there, of those that a box needs with these places on loopback
abbrev pub missing_port : Settings → GatewayId → OnLoopback → Option Key
missing_port s id on = first_bad (port_rows s (of_gateway on nowhere id) (of_gateway nowhere on id))

-- of those that both boxes need with all their places on loopback
abbrev pub missing_port_of_both : Settings → Option Key
missing_port_of_both s = first_bad (port_rows s everywhere everywhere)

-- a gateway has these ports
pub record HasPorts (gateway : GatewaySettings) (ports : BoxPorts) : Type 0 where
  pub link_is : gateway.link ≡ Some ports.link
  pub inside_is : gateway.inside_port ≡ Some ports.inside
  pub outside_is : gateway.outside_port ≡ Some ports.outside
