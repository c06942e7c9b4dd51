-- The values of the settings, row by row in the order of their text, and the first that is bad.
use Rattle.std.specs.Prelude.{Bool, true, false, List, [], ◌∷◌, Option, is_some}
use Rattle.toml.specs.Data.{Members}
use Rattle.settings_file.specs.declared.keys.Section.{Section}
use Rattle.settings_file.specs.declared.keys.Section.TheVariants.{Ports, Inside, Outside, Icmp, Fragments, Vrrp}
use Rattle.settings_file.specs.declared.keys.Name.TheVariants.{Zero, One, HostLimit, Alone, InwardRefresh, Choice, Ahead, Virtual, Prefix, Vrid, Wire, Router, Mtu, Echo, Errors, Pass, PeerOnly}
use Rattle.settings_file.specs.declared.keys.Name.TheVariants.{InsideIp, InsideMac, OutsideIp, OutsideMac, Priority, Interval, Preempt, BootFile, Link, InsidePort, OutsidePort}
use Rattle.settings_file.specs.declared.keys.Key.{Key}
use Rattle.settings_file.specs.Keys.{key, whole}
use Rattle.settings_file.specs.Faults.{first_bad}
use Rattle.settings_file.specs.Document.{Network, network_with, number_at, number_or, zero_or, optional_at, flag_or, choice_at, text_at, address_at, mac_at, range_at, is_host, is_apart, is_section}

-- [ports]
abbrev pub port_rows : Members → List (Key × Bool)
port_rows t =
    (key Ports Zero, is_some (range_at t Ports Zero))
    ∷ (key Ports One, is_some (range_at t Ports One))
    ∷ (key Ports HostLimit, is_some (optional_at 1 65535 t Ports HostLimit))
    ∷ (key Ports Alone, is_some (zero_or 50 65535 t Ports Alone))
    ∷ (key Ports InwardRefresh, is_some (flag_or true t Ports InwardRefresh))
    ∷ (key Ports Choice, is_some (choice_at t Ports Choice))
    ∷ (key Ports Ahead, is_some (number_or 0 0 1024 t Ports Ahead))
    ∷ []

unfoldable pub bad_ports : Members → Option Key
bad_ports t = first_bad (port_rows t)

-- [inside]
abbrev pub inside_rows : Members → List (Key × Bool)
inside_rows t =
    (key Inside Virtual, is_some (address_at t Inside Virtual))
    ∷ (key Inside Prefix, is_some (number_at 8 30 t Inside Prefix))
    ∷ (key Inside Vrid, is_some (number_at 1 255 t Inside Vrid))
    ∷ (key Inside Wire, is_some (optional_at 1 65535 t Inside Wire))
    ∷ (key Inside Mtu, is_some (number_or 1500 576 1500 t Inside Mtu))
    ∷ []

unfoldable pub bad_inside : Members → Option Key
bad_inside t = first_bad (inside_rows t)

-- [outside]: its network shares no address with the inside one, and the router lies in it
abbrev pub outside_rows : Option Network → Option Network → Members → List (Key × Bool)
outside_rows inside outside t =
    (key Outside Virtual, is_some (address_at t Outside Virtual))
    ∷ (key Outside Prefix, is_apart inside (address_at t Outside Virtual) (number_at 8 30 t Outside Prefix))
    ∷ (key Outside Vrid, is_some (number_at 1 255 t Outside Vrid))
    ∷ (key Outside Wire, is_some (optional_at 1 65535 t Outside Wire))
    ∷ (key Outside Router, is_host outside (address_at t Outside Router))
    ∷ (key Outside Mtu, is_some (number_or 1500 576 1500 t Outside Mtu))
    ∷ []

unfoldable pub bad_outside : Option Network → Option Network → Members → Option Key
bad_outside inside outside t = first_bad (outside_rows inside outside t)

-- [icmp], which may be left out
abbrev pub icmp_rows : Members → List (Key × Bool)
icmp_rows t =
    (whole Icmp, is_section t Icmp)
    ∷ (key Icmp Echo, is_some (flag_or false t Icmp Echo))
    ∷ (key Icmp Errors, is_some (flag_or false t Icmp Errors))
    ∷ []

unfoldable pub bad_icmp : Members → Option Key
bad_icmp t = first_bad (icmp_rows t)

-- [fragments], which may be left out
abbrev pub fragment_rows : Members → List (Key × Bool)
fragment_rows t =
    (whole Fragments, is_section t Fragments)
    ∷ (key Fragments Pass, is_some (flag_or false t Fragments Pass))
    ∷ []

unfoldable pub bad_fragments : Members → Option Key
bad_fragments t = first_bad (fragment_rows t)

-- [vrrp], which may be left out
abbrev pub vrrp_rows : Members → List (Key × Bool)
vrrp_rows t =
    (whole Vrrp, is_section t Vrrp)
    ∷ (key Vrrp PeerOnly, is_some (flag_or false t Vrrp PeerOnly))
    ∷ []

unfoldable pub bad_vrrp : Members → Option Key
bad_vrrp t = first_bad (vrrp_rows t)

-- [gateway_0] and [gateway_1], whose addresses lie in the two networks
abbrev pub gateway_rows : Option Network → Option Network → Members → Section → List (Key × Bool)
gateway_rows inside outside t s =
    (key s InsideIp, is_host inside (address_at t s InsideIp))
    ∷ (key s InsideMac, is_some (mac_at t s InsideMac))
    ∷ (key s OutsideIp, is_host outside (address_at t s OutsideIp))
    ∷ (key s OutsideMac, is_some (mac_at t s OutsideMac))
    ∷ (key s Priority, is_some (number_or 100 1 254 t s Priority))
    ∷ (key s Interval, is_some (number_or 100 1 4095 t s Interval))
    ∷ (key s Preempt, is_some (flag_or true t s Preempt))
    ∷ (key s BootFile, is_some (text_at t s BootFile))
    ∷ (key s Link, is_some (optional_at 1 65535 t s Link))
    ∷ (key s InsidePort, is_some (optional_at 1 65535 t s InsidePort))
    ∷ (key s OutsidePort, is_some (optional_at 1 65535 t s OutsidePort))
    ∷ []

unfoldable pub bad_gateway : Option Network → Option Network → Members → Section → Option Key
bad_gateway inside outside t s = first_bad (gateway_rows inside outside t s)

-- the network of a side, where its address and prefix are good
unfoldable pub network_at : Members → Section → Option Network
network_at t s = network_with (address_at t s Virtual) (number_at 8 30 t s Prefix)
