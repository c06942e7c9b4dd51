-- What a gateway has for its own.
use Rattle.std.specs.Prelude.{ℕ, ◌==◌, ◌||◌, Bool, List, [], ◌∷◌, Option, Some}
use Rattle.settings.specs.declared.gateway_settings.GatewaySettings.{GatewaySettings}
use Rattle.settings_file.specs.Settings.{share, same_number, same_bytes}

abbrev pub own_addresses : GatewaySettings → List (Option ℕ)
own_addresses g = Some g.inside_ip.0 ∷ Some g.outside_ip.0 ∷ []

abbrev pub own_macs : GatewaySettings → List (Option (List ℕ))
own_macs g = Some g.inside_mac.0 ∷ Some g.outside_mac.0 ∷ []

abbrev pub own_sockets : GatewaySettings → List (Option ℕ)
own_sockets g = g.link ∷ g.inside_port ∷ g.outside_port ∷ []

-- a gateway's own address is the virtual one
abbrev pub is_virtual : GatewaySettings → ℕ → ℕ → Bool
is_virtual g inside outside = g.inside_ip.0 == inside || g.outside_ip.0 == outside

-- the two share an address, a MAC or a loopback port, or one has a virtual address
unfoldable pub same_ids : GatewaySettings → GatewaySettings → ℕ → ℕ → Bool
same_ids zero one inside outside =
    share same_number (own_addresses zero) (own_addresses one)
    || (share same_bytes (own_macs zero) (own_macs one)
    || (share same_number (own_sockets zero) (own_sockets one)
    || (is_virtual zero inside outside || is_virtual one inside outside)))
